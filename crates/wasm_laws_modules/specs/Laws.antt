-- What adding the lists of a module's parts says of them, where its types stand in the list of types: they are added exactly where they
-- keep their rules and their constant expressions are typed, and then the state is that of a module with these parts.
-- Core Specification 3.0, Validation, Modules.
use Rattle.std.specs.Prelude.{ℕ, ◌≡◌, ◌↔◌, nat_eq, List, Some}
use Rattle.wasm_spec.specs.Features.{Features, canonical}
use Rattle.wasm_spec.specs.Trees.{DefType}
use Rattle.wasm_spec.specs.TypeLaws.{HasNoRepetition}
use Rattle.wasm_spec_rules.specs.Parts.{Parts}
use Rattle.wasm_spec_rules.specs.IndexSpaces.{index_spaces}
use Rattle.wasm_laws_core.specs.WasmValidatorCanonical.Groups.{AreValid}
use Rattle.wasm_laws_core.specs.WasmValidatorChecks.Laws.{Stand}
use Rattle.wasm_laws_core.specs.WasmValidatorTypes.Spaces.{Spaces}
use Rattle.wasm_laws_core.specs.ModuleParts.{spaces_of}
use Rattle.wasm_laws_core.specs.Lists.{only_types}
use Rattle.wasm_spec_validity.specs.Typing.{HasTypedConstants}
use Rattle.wasm_spec_validity.specs.Modules.{Numbering, number_at, context_of, imported_globals}
use Rattle.wasm_laws_modules.specs.Contexts.{HasOwnIds, AreModuleTypes}
use Rattle.wasm_laws_modules.specs.Lists.{add_all_lists, AreValidModuleLists}

-- the constant expressions of a module with these types and parts are typed
abbrev pub AreTypedConstants : (F : Features) (types : List DefType) → Numbering types → Parts → Type 0
AreTypedConstants F types n parts = HasTypedConstants nat_eq F (context_of (index_spaces types parts) n parts) (imported_globals parts) (number_at n) parts

abbrev pub AllListsAreAdded : Type 0
AllListsAreAdded =
    (F : Features) (us : List DefType) → AreValid F us → HasNoRepetition us
    → (ids : List ℕ) (types : List DefType) → Stand (canonical F) us ids types → HasOwnIds F ids → AreModuleTypes F types
    → (n : Numbering types) (parts : Parts) (t : Spaces)
    → (add_all_lists F us (only_types ids) parts ≡ Some t)
    ↔ ((AreValidModuleLists F (index_spaces types parts) parts × AreTypedConstants F types n parts) × (spaces_of F types ids parts ≡ t))
