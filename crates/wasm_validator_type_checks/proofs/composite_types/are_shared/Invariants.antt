use Rattle.std.proofs.Common.{◌≡◌, drop}
use Rattle.std.specs.List.{list_all}
use Rattle.wasm_spec.specs.Syntax.{map_val}
use Rattle.wasm_spec.specs.Matching.{is_shared_val}
use Rattle.wasm_readers_types.specs.WasmReadersValues.SeenValues.{val_of}
use Rattle.wasm_readers_types.specs.WasmReadersValues.declared.values.ValType.{ValType}
use Rattle.wasm_validator_type_list.specs.DeclarationsById.{declares}
use Rattle.wasm_validator_type_list.specs.GroupTypes.{leads_in}
use Rattle.wasm_validator_type_checks.proofs.composite_types.are_shared.Given as goal

abbrev pub invariant-values : goal.invariant-values
invariant-values g l =
    let p = λ (v : ValType). is_shared_val (declares l.types.groups) (map_val (leads_in l.types.groups l.group.index) (val_of v)) in
    list_all p l.values ≡ list_all p (drop l.i l.values)
