pub mod Tables
pub mod WideNumbers
pub mod SharedTables
