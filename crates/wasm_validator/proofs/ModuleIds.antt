-- The ids of a module as they are kept, and as numbers.
use Rattle.std.proofs.Common.{◌≡◌, ◌<◌, sym, subst, ℕ, Bool, List, length}
use Rattle.std.specs.Bool.{Decides}
use Rattle.std.specs.List.{All}
use Rattle.wasm_readers_types.specs.WasmReadersValues.declared.indices.CoreTypeId.{CoreTypeId}
use Rattle.wasm_validator_type_list.specs.ListViews.{Listing, types_in}
use Rattle.wasm_validator_type_list.proofs.DefTypes.{length-def_types}
use Rattle.wasm_validator_modules.specs.WasmValidatorCanonical.Indices.{numbers}
use Rattle.wasm_validator_modules.proofs.WasmValidatorCanonical.NewIds.{known_ids, numbers_below}
use Rattle.wasm_validator_modules.specs.WasmValidatorCore.OpenLists.{AreHeld}

pub are_held :
    {A : Type 0} (list : Listing A) (held : Bool) (ids : List CoreTypeId) (ns : List ℕ) → numbers ids ≡ ns
    → Decides held (All (λ (id : CoreTypeId). id.index < length (types_in list)) ids) → Decides held (AreHeld list ns)
are_held list held ids ns e d =
    subst (λ ks. Decides held (AreHeld list ks)) e
    (subst (λ n. Decides held (All (λ id. id < n) (numbers ids))) (sym (length-def_types list.is_canonical list.groups))
    (λ t. numbers_below (length (types_in list)) ids (d.0 t), λ h. d.1 (known_ids (length (types_in list)) ids h)))
