pub mod Counts
pub mod Entries
pub mod Filled
pub mod Numbers
pub mod Places
pub mod Tables
