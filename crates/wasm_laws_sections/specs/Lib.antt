pub mod CallStates
pub mod StateInvariants
pub mod AnyOrder
