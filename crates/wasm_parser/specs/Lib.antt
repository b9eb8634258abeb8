pub mod Machine
pub mod PayloadViews
pub mod Places
pub mod Laws
pub mod Locals
pub mod SeenLocals
