pub mod FunctionTables
pub mod TableReports
pub mod ModuleTables
pub mod ModuleReports
