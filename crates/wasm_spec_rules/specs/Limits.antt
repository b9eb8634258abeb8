-- That a module has no more items than it may. Core Specification 3.0, Appendix, Implementation Limitations.
use Rattle.std.specs.Prelude.{◌≤◌, length}
use Rattle.std.specs.List.{All}
use Rattle.wasm_readers_errors.specs.WasmSpec.Features.{Features}
pub use Rattle.wasm_readers_errors.specs.WasmSpec.Limits.{most_types, most_imports, most_functions, most_tables, most_memories, most_globals, most_tags, most_exports, size_limit, most_elements, most_items, most_segments, most_body_bytes, most_locals}
use Rattle.wasm_spec_rules.specs.Parts.{Parts}
use Rattle.wasm_spec_rules.specs.IndexSpaces.{IndexSpaces}

-- what is imported counts with what is defined
pub record KeepsLimits (F : Features) (C : IndexSpaces) (parts : Parts) : Type 0 where
  pub groups : length parts.groups ≤ most_types
  pub types : length C.types ≤ most_types
  pub imports : length parts.imports ≤ most_imports
  pub functions : length C.functions ≤ most_functions
  pub tables : length C.tables ≤ most_tables F
  pub memories : length C.memories ≤ most_memories F
  pub globals : length C.globals ≤ most_globals
  pub tags : length C.tags ≤ most_tags
  pub exports : length parts.exports ≤ most_exports
  pub elements : length parts.elements ≤ most_elements
  pub segments : length parts.segments ≤ most_segments
  pub data_counts : All (λ n. n ≤ most_segments) parts.data_counts
  pub bodies : All (λ b. length b ≤ most_body_bytes) parts.bodies
