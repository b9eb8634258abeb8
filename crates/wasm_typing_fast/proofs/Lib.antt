pub mod FastActions
pub mod LocalOperators
pub mod FrameEnds
pub mod BranchOperands
mod FrameEntries
mod BlockTypes
mod NumberBytes
mod NumberSelects
pub mod Cited
