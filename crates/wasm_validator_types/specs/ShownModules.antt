-- What the types of a validated module show.
use Rattle.std.specs.Prelude.{ℕ, ◌<◌, List, length}
use Rattle.std.specs.List.{All}
use Rattle.wasm_spec_rules.specs.WasmSpec.Features.{Features}
use Rattle.wasm_spec_rules.specs.FeatureFlags.{features_of}
use Rattle.wasm_validator_type_list.specs.ListViews.{Listing, types_in}
use Rattle.wasm_validator_types.specs.declared.shown.Types.{Types}
use Rattle.wasm_validator_types.specs.declared.shown.TypesRef.{TypesRef}
use Rattle.wasm_validator_types.specs.declared.imports_exports.CoreImports.{CoreImports}
use Rattle.wasm_validator_types.specs.declared.imports_exports.CoreExports.{CoreExports}
use Rattle.wasm_validator_types.specs.Entities.{Entity, HasIdBelow}
use Rattle.wasm_validator_types.specs.IteratorItems.{imports_left, exports_left}
use Rattle.wasm_validator_types.specs.Spaces.{Spaces}

-- the validator that made them and its features, the list of all its types, and the index spaces of the module
pub record Shown (A : Type 0) : Type 0 where
  pub id : ℕ
  pub features : Features
  pub list : Listing A
  pub spaces : Spaces

module _ {A : Type 0} where
  abbrev pub shown_of : Types A → Shown A
  shown_of t = record { id = t.id; features = features_of t.features; list = t.types; spaces = t.spaces.value }

  abbrev pub shown_by : TypesRef A → Shown A
  shown_by t = record { id = t.id; features = features_of t.features; list = t.list.now; spaces = t.spaces.now }

  -- each type of the module has the id of a type of the list
  abbrev pub HoldsIds : Shown A → Type 0
  HoldsIds s = All (λ id. id < length (types_in s.list)) s.spaces.types

  -- the list has the type of each function and tag among the imports, or exports, that are left
  abbrev pub HoldsImports : Shown A → CoreImports A → Type 0
  HoldsImports s imports = All (λ (i : List ℕ × List ℕ × Entity). HasIdBelow (length (types_in s.list)) i.2) (imports_left imports)

  abbrev pub HoldsExports : Shown A → CoreExports A → Type 0
  HoldsExports s exports = All (λ (e : List ℕ × Entity). HasIdBelow (length (types_in s.list)) e.1) (exports_left exports)
