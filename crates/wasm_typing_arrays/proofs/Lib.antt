pub mod Elements
pub mod ElementSegments
pub mod ManyOperands
pub mod LikeOperands
pub mod HeapBounds
