pub mod ArityQueries
pub mod Arities
pub mod Sizes
pub mod Lengths
pub mod AccessCounts
pub mod OpcodeRefusals
