-- The numbers of one value type of a list.
use Rattle.std.proofs.Common.{◌≡◌, ap, ℕ, zero, suc, List, [], ◌∷◌, slice_get, Some, option_map}
use Rattle.std.proofs.lemmas.Option.{none-some, same_Some}
use Rattle.wasm_spec.specs.Syntax.{map_val}
use Rattle.wasm_readers_types.specs.WasmReadersValues.SeenValues.{val_of}
use Rattle.wasm_readers_types.specs.WasmReadersValues.declared.values.ValType.{ValType}
use Rattle.wasm_validator.specs.WasmValidatorTypes.WasmValidatorTypeList.Lookups.{leads_to}
use Rattle.wasm_validator_handles.specs.Signatures.{values_by_ids}
use Rattle.wasm_validator_handles.specs.Values.{numbers_of}

pub value_there : (start : ℕ) (given : List ValType) (k : ℕ) (v : ValType) → slice_get given k ≡ Some v
    → option_map numbers_of (slice_get (values_by_ids start given) k) ≡ Some (numbers_of (map_val (leads_to start) (val_of v)))
value_there start [] k v e = absurd (none-some v e)
value_there start (x ∷ xs) zero v e = ap (λ (y : ValType). Some (numbers_of (map_val (leads_to start) (val_of y)))) (same_Some x v e)
value_there start (x ∷ xs) (suc k) v e = value_there start xs k v e
