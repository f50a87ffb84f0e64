pub mod Fields
pub mod Lines
pub mod Meaning
pub mod Words
