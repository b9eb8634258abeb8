pub mod Cited
pub mod ShortTypes
