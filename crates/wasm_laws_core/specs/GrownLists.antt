-- What is kept of a list of types is still that of the list when types are added behind.
use Rattle.std.specs.Prelude.{◌≡◌, Bool, List, ◌++◌}
use Rattle.wasm_spec.specs.Trees.{DefType}
use Rattle.wasm_spec.specs.TypeLaws.{HasNoRepetition}
use Rattle.wasm_readers_types.specs.declared.types.SubType.{SubType}
use Rattle.wasm_validator_type_list.specs.DefTypes.{def_types}
use Rattle.wasm_validator_type_list.specs.GroupOrder.{AreListable}
use Rattle.wasm_validator_core_resources.specs.ById.{AreFirstByIds}

-- The first types of a list, with ids in the place of positions in their groups, are the first ones of a list whose types begin with those
-- of the one, where no type has two ids.
abbrev pub FirstTypesStayFirst : Type 0 → Type 0
FirstTypesStayFirst A =
    (is_canonical : Bool) (gs hs : List (List (SubType A))) (more : List DefType) (types : List (SubType A))
    → AreListable gs → AreListable hs → HasNoRepetition (def_types is_canonical hs) → def_types is_canonical hs ≡ def_types is_canonical gs ++ more
    → AreFirstByIds gs types → AreFirstByIds hs types
