pub mod Fields
pub mod AtomicOperands
