pub mod Segments
pub mod Lengths
