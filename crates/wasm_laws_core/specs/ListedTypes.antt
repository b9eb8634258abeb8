-- What the types of a list declare, by what they are: each type under its id, and each type that it names as its id. No id is looked into.
-- Core Specification 3.0, Validation, Conventions (Contexts).
use Rattle.std.specs.Prelude.{ℕ, suc, ◌≡◌, Bool, true, false, ◌==◌, ◌&&◌, if◌then◌else◌, List, [], ◌∷◌}
use Rattle.std.specs.List.{flat_map}
use base.Stored.{Gv, gnil, gnum, gcons}
use Rattle.wasm_spec.specs.Syntax.{Sub}
use Rattle.wasm_spec.specs.Trees.{DefType, declared}
use Rattle.wasm_spec.specs.TreeCode.{coded_type}
use Rattle.wasm_spec.specs.TypeLaws.{HasNoRepetition}
use Rattle.wasm_spec_rules.specs.Contexts.{declares_at}
use Rattle.wasm_readers_types.specs.WasmReadersValues.declared.indices.UnpackedIndex.{UnpackedIndex}
use Rattle.wasm_readers_types.specs.declared.types.SubType.{SubType}
use Rattle.wasm_validator_type_list.specs.DefTypes.{def_types}
use Rattle.wasm_validator_type_list.specs.GroupOrder.{AreListable}
use Rattle.wasm_validator_core_resources.specs.ListContexts.{list_declares}
use Rattle.wasm_validator_core_resources.specs.IndexContexts.{id_of}

-- whether two types are equal, by their codes
abbrev pub same_code : Gv → Gv → Bool
same_code gnil gnil = true
same_code (gnum m) (gnum n) = m == n
same_code (gcons a b) (gcons c d) = same_code a c && same_code b d
same_code _ _ = false

abbrev pub same_type : DefType → DefType → Bool
same_type a b = same_code (coded_type.code a) (coded_type.code b)

-- the number of the first id that stands for a type, and the list's length where none does
abbrev pub number_in : List DefType → DefType → ℕ
number_in [] d = 0
number_in (t ∷ ts) d = if same_type t d then 0 else suc (number_in ts d)

abbrev pub id_in : List DefType → DefType → UnpackedIndex
id_in us d = id_of (number_in us d)

-- what these types declare, in a list of types
abbrev pub types_declare : List DefType → List DefType → List (UnpackedIndex × Sub UnpackedIndex)
types_declare us ds = flat_map (λ (d : DefType). declares_at (id_in us) d (declared d)) ds

-- So do the ids of a list, where no type has two of them.
abbrev pub ListsDeclareTheirTypes : Type 0 → Type 0
ListsDeclareTheirTypes A =
    (is_canonical : Bool) (gs : List (List (SubType A))) → AreListable gs → HasNoRepetition (def_types is_canonical gs)
    → list_declares id_of gs ≡ types_declare (def_types is_canonical gs) (def_types is_canonical gs)
