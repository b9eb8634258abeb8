-- Lists of which each group may stand behind those before it.
pub use Rattle.wasm_validator_type_ancestors.specs.GroupReferences.{IsKnown, IsListable, ReferByIds}
use Rattle.std.specs.Prelude.{ℕ, ◌≡◌, List, slice_get}
use Rattle.std.specs.declared.option.Option.TheVariants.{Some}
use Rattle.wasm_readers_types.specs.declared.types.SubType.{SubType}
use Rattle.wasm_validator_type_ancestors.specs.WasmValidatorTypeGroups.Groups.{first_of}
use Rattle.wasm_validator_type_ancestors.specs.GroupReferences.{IsListable}

-- each group of the list may stand behind those before it
abbrev pub AreListable : {A : Type 0} → List (List (SubType A)) → Type 0
AreListable gs = (k : ℕ) (g : List (SubType _)) → slice_get gs k ≡ Some g → IsListable (first_of gs k) g
