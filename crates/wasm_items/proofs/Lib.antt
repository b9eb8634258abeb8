pub mod TableHeads
pub mod Remainders
pub mod Cited
