pub mod ContinuationTypes
pub mod HandlerClauses
pub mod ContinuationSteps
pub mod HandlerChecks
pub mod StepsByOperator
pub mod Cited
