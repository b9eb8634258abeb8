pub mod TypesById
pub mod Rules
pub mod Laws
pub mod TypeRefusals
