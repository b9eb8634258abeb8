pub mod FieldDefaults
pub mod FieldOperands
pub mod Structures
pub mod AccessTypes
pub mod AtomicAccesses
pub mod Members
