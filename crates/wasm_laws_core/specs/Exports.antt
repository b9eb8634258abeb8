-- Exports behind any lists of a module: when they may be added, and the lists with them. Core Specification 3.0,
-- Validation, Modules, Exports.
use Rattle.std.specs.Prelude.{ℕ, ◌≡◌, ◌<◌, ◌+◌, ◌↔◌, ◌++◌, List, map, Some, nat_eq}
use Rattle.std.specs.List.{All, IsDistinct}
use Rattle.std.specs.Cmp.Lexicographic.{pointwise}
use Rattle.wasm_spec.specs.BinaryModules.{Export}
use Rattle.wasm_spec.specs.Features.{Features, canonical}
use Rattle.wasm_spec.specs.Trees.{DefType}
use Rattle.wasm_spec_rules.specs.IndexSpaces.{IndexSpaces, IsFunctionType}
use Rattle.wasm_spec_rules.specs.LinkRules.{IsValidExport, export_name, export_size, sum}
use Rattle.wasm_spec_rules.specs.Limits.{size_limit}
use Rattle.wasm_validator_core.specs.WasmValidatorChecks.Laws.{Stand}
use Rattle.wasm_validator_types.specs.Entities.{Entity}
use Rattle.wasm_validator_types.specs.Spaces.{Spaces}
use Rattle.wasm_laws_core.specs.Lists.{add_exports}
use Rattle.wasm_laws_core.specs.ModuleParts.{listed_table, listed_global, export_rows}

-- the name of an export that is there
abbrev pub row_name : List ℕ × Entity → List ℕ
row_name row = row.0

-- no two of these names are the same
abbrev pub AreApart : List (List ℕ) → Type 0
AreApart names = IsDistinct (pointwise nat_eq) names

-- The lists of a module are these index spaces, whose functions and tags are of function types; no name is exported
-- twice, and the effective size is below its limit.
pub record HasSpaces (C : IndexSpaces) (s : Spaces) : Type 0 where
  pub functions : s.functions ≡ C.functions
  pub tables : s.tables ≡ map (listed_table s.types) C.tables
  pub memories : s.memories ≡ C.memories
  pub globals : s.globals ≡ map (listed_global s.types) C.globals
  pub tags : s.tags ≡ C.tags
  pub function_types : All (IsFunctionType C.types) C.functions
  pub tag_types : All (IsFunctionType C.types) C.tags
  pub names : AreApart (map row_name s.exports)
  pub size : s.size < size_limit

-- with these exports behind those that are there no name comes twice, and the effective size stays below its limit
pub record FitExports (C : IndexSpaces) (s : Spaces) (es : List Export) : Type 0 where
  pub names : AreApart (map row_name s.exports ++ map export_name es)
  pub size : s.size + sum (map (export_size C) es) < size_limit

-- the lists with these exports behind, and in the effective size
abbrev pub with_exports : Features → IndexSpaces → Spaces → List Export → Spaces
with_exports F C s es = record s { exports = s.exports ++ export_rows F s.types C s.imported_functions es; size = s.size + sum (map (export_size C) es) }

-- Exports are accepted behind any lists exactly where each is valid and they fit, and then these lists have them behind.
abbrev pub ExportsAreAddedBehind : Type 0
ExportsAreAddedBehind =
    (F : Features) (us : List DefType) (C : IndexSpaces) (s : Spaces) → Stand (canonical F) us s.types C.types → HasSpaces C s
    → (es : List Export) (t : Spaces) → (add_exports F us s es ≡ Some t) ↔ ((All (IsValidExport F C) es × FitExports C s es) × (with_exports F C s es ≡ t))
