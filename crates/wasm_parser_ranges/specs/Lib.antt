pub mod Ranges
pub mod Names
pub mod CallerArrays
