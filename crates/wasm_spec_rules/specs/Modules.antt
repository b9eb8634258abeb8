-- When a module is valid. Core Specification 3.0, Validation, Modules.
use Rattle.std.specs.Prelude.{ℕ, ◌≡◌, ◌≤◌, ◌<◌, ◌==◌, List, slice_get, Option, Some, IsTrue, ⊤}
use Rattle.std.specs.List.{All}
use Rattle.wasm_readers_errors.specs.WasmSpec.Features.{Features}
use Rattle.wasm_readers_errors.specs.WasmSpec.BinarySections.{GlobalEntry}
use Rattle.wasm_readers_errors.specs.WasmSpec.GroupRules.{IsValidTypeSection}
use Rattle.wasm_readers_errors.specs.WasmSpec.Framing.{Piece, Version, Counted, DataCount, Unknown, IsFramed}
use Rattle.wasm_spec_rules.specs.Parts.{Parts, Expression, HasParts}
use Rattle.wasm_spec_rules.specs.IndexSpaces.{IndexSpaces, index_spaces, IsFunctionType}
use Rattle.wasm_spec_rules.specs.ItemRules.{IsValidTableEntry, IsValidMemory, IsValidTag, IsValidGlobal}
use Rattle.wasm_spec_rules.specs.LinkRules.{IsValidImport, IsValidExport, HasDistinctNames, effective_size, IsValidStart}
use Rattle.wasm_spec_rules.specs.SegmentRules.{IsValidElement, IsValidData}
use Rattle.wasm_spec_rules.specs.Limits.{most_imports, size_limit, KeepsLimits}

-- A section is known, and allowed: tags, be they none, with exceptions, and a data count with bulk memory. An import
-- section has no more entries than a module may have imports, be they compact and have none.
abbrev pub IsAllowedPiece : Features → Piece → Type 0
IsAllowedPiece F (Counted id n bytes) = (IsTrue (id == 13) → IsTrue F.exceptions) × (IsTrue (id == 2) → n ≤ most_imports)
IsAllowedPiece F (DataCount n) = IsTrue F.bulk_memory
IsAllowedPiece F (Unknown id bytes) = ⊥
IsAllowedPiece F _ = ⊤

-- The rules of a module's parts, whose index spaces are C: all but the typing of constant expressions and bodies.
pub record AreValidParts (F : Features) (C : IndexSpaces) (parts : Parts) : Type 0 where
  pub imports : All (IsValidImport F C.types) parts.imports
  pub functions : All (IsFunctionType C.types) parts.functions
  pub tables : All (IsValidTableEntry F C.types) parts.tables
  pub memories : All (IsValidMemory F) parts.memories
  pub tags : All (IsValidTag F C.types) parts.tags
  pub globals : All (λ (g : GlobalEntry Expression ℕ). IsValidGlobal F C.types g.ty) parts.globals
  pub exports : All (IsValidExport F C) parts.exports
  pub export_names : HasDistinctNames parts.exports
  pub size : effective_size C parts.imports parts.exports < size_limit
  pub starts : All (IsValidStart C) parts.starts
  pub elements : All (IsValidElement F C) parts.elements
  pub segments : All (IsValidData F C) parts.segments
  pub limits : KeepsLimits F C parts

-- The bytes are a module whose sections, types and parts keep their rules, where `expression_at` reads a constant
-- expression.
pub record IsWellFormed (expression_at : List ℕ → Option (Expression × List ℕ)) (F : Features) (bytes : List ℕ) : Type 0 where
  pub pieces : List Piece
  pub framed : IsFramed bytes pieces
  pub first : slice_get pieces 0 ≡ Some (Version 1 0)
  pub allowed : All (IsAllowedPiece F) pieces
  pub parts : Parts
  pub has_parts : HasParts F.compact_imports expression_at pieces parts
  pub types : IsValidTypeSection F parts.groups
  pub rules : AreValidParts F (index_spaces types.types parts) parts
