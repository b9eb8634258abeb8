pub mod ContinuationLookups
pub mod HandlerTypes
