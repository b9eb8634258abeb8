pub use Rattle.wasm_readers_types.proofs.WasmSpec as WasmSpec
pub mod Places
pub mod FlatGroups
pub mod RemainingNumbers
pub mod PieceEnds
pub mod PartRuns
pub mod HashChains
pub mod MemberPlaces
pub mod Tables
