pub mod Calls
pub mod Codes
pub mod Laws
pub mod Meaning
pub mod Pegs
pub mod Promise
