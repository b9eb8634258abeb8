pub mod SideTables
pub mod OnePassTables
pub mod Laws
