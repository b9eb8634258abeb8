-- The context that a module gives as far as it has been read, where its types are ids of a list. Core Specification 3.0, Validation,
-- Conventions (Contexts).
use Rattle.std.specs.Prelude.{ℕ, zero, suc, ◌≡◌, Bool, true, false, List, [], ◌∷◌, map, length, get_or, Option}
use Rattle.wasm_spec.specs.Syntax.{Ref, map_sub}
use Rattle.wasm_validator_resources.specs.WasmSpecRules.Attempts.{among}
use Rattle.wasm_validator_resources.specs.WasmSpecRules.Contexts.{Context}
use Rattle.wasm_readers_types.specs.WasmReadersValues.declared.indices.UnpackedIndex.{UnpackedIndex}
use Rattle.wasm_readers_types.specs.declared.types.SubType.{SubType}
use Rattle.wasm_readers_types.specs.SeenTypes.{sub_of}
use Rattle.wasm_validator_type_list.specs.ListViews.{Listing}
use Rattle.wasm_validator_type_list.specs.DeclarationsById.{subs_by_ids}
use Rattle.wasm_validator_types.specs.Spaces.{Spaces}
use Rattle.wasm_validator_core_resources.specs.ListContexts.{list_declares}
use Rattle.wasm_validator_core_resources.specs.IndexContexts.{id_of}

-- which functions are exactly of their type: the imported ones, which are the first, as they say, and all behind them
abbrev pub exact_flags : List ℕ → List Bool → List Bool
exact_flags [] imported = []
exact_flags (x ∷ xs) [] = true ∷ exact_flags xs []
exact_flags (x ∷ xs) (b ∷ bs) = b ∷ exact_flags xs bs

-- so many numbers, one after another from this one on
abbrev pub numbers_from : ℕ → ℕ → List ℕ
numbers_from n zero = []
numbers_from n (suc count) = n ∷ numbers_from (suc n) count

-- the numbers, from this one on, of the flags that are set
abbrev pub flagged_from : ℕ → List Bool → List ℕ
flagged_from n [] = []
flagged_from n (true ∷ bs) = n ∷ flagged_from (suc n) bs
flagged_from n (false ∷ bs) = flagged_from (suc n) bs

-- The context of a module with these index spaces, over this list of types, with these types of element segments and this data count.
-- Each of its functions counts as referenced, as it does to constant expressions.
abbrev pub module_context : {A : Type 0} → Spaces → Listing A → List (Ref UnpackedIndex) → Option ℕ → Context UnpackedIndex
module_context s list elements data_count = record {
  types = map id_of s.types;
  declares = list_declares id_of list.groups;
  functions = s.functions;
  exact = exact_flags s.functions s.imported_functions;
  tables = s.tables;
  memories = s.memories;
  globals = s.globals;
  tags = s.tags;
  elements = elements;
  data_count = data_count;
  references = numbers_from 0 (length s.functions);
}

-- the same context, where these functions count as referenced
abbrev pub with_references : List ℕ → Context UnpackedIndex → Context UnpackedIndex
with_references references C = record C { references = references }

-- A function is among those that flags say where its flag is set.
abbrev pub FlagsSayReferences : Type 0
FlagsSayReferences = (flags : List Bool) (i : ℕ) → among i (flagged_from 0 flags) ≡ get_or flags i false

-- These are the types of the groups in the order of their ids, with the id in the place of each position in a group.
abbrev pub AreByIds : {A : Type 0} → List (List (SubType A)) → List (SubType A) → Type 0
AreByIds gs types = map sub_of types ≡ map (map_sub id_of) (subs_by_ids 0 gs)
