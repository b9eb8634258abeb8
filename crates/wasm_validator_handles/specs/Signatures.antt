-- Function types by their ids.
use Rattle.std.specs.Prelude.{ℕ, List, map, Option, Some, None}
use Rattle.wasm_spec.specs.Syntax.{Val, Comp, Sub, map_val, func, array, struct, cont}
use Rattle.wasm_readers_types.specs.WasmReadersValues.SeenValues.{val_of}
use Rattle.wasm_readers_types.specs.WasmReadersValues.declared.values.ValType.{ValType}
use Rattle.wasm_validator.specs.WasmValidatorTypes.WasmValidatorTypeList.Lookups.{leads_to}
use Rattle.wasm_validator_handles.specs.declared.signatures.Signature.{Signature}

-- value types whose references stand in a group with this first id, over ids
abbrev pub values_by_ids : ℕ → List ValType → List (Val ℕ)
values_by_ids start values = map (map_val (leads_to start)) (map val_of values)

abbrev pub signature_by_ids : Signature → List (Val ℕ) × List (Val ℕ)
signature_by_ids s = (values_by_ids s.start s.params.now, values_by_ids s.start s.results.now)

-- what a composite type takes and gives, where it is a function type
abbrev pub func_of_comp : Comp ℕ → Option (List (Val ℕ) × List (Val ℕ))
func_of_comp (func params results) = Some (params, results)
func_of_comp (array x) = None
func_of_comp (struct xs) = None
func_of_comp (cont r) = None

-- the same of a type that is declared
abbrev pub func_in : Option (Sub ℕ) → Option (List (Val ℕ) × List (Val ℕ))
func_in (Some s) = func_of_comp s.comp
func_in None = None
