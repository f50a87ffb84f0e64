pub mod Digits
pub mod Powers
pub mod Rows
pub mod Tallies
pub mod Told
