pub mod ByteSteps
pub mod BodyLoop
pub mod WholeTables
