pub mod HeldTypes
pub mod ShownLists
pub mod ConstantsSoFar
pub mod AppendedItems
pub mod SectionMethods
pub mod ReachedStates
pub mod Calls
