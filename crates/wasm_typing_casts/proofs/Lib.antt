pub mod HierarchyTops
pub mod ReferenceConversions
pub mod CastBranches
pub mod CastTargets
pub mod DescriptorTypes
pub mod OperandExchanges
pub mod Cited
