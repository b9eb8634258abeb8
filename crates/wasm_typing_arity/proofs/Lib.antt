pub mod Frames
pub mod CountsAsLengths
pub mod FormCounts
pub mod UnservedOperators
pub mod ContinuationCounts
