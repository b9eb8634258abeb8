use Rattle.std.proofs.Common.{◌≡◌, drop}
use Rattle.std.specs.List.{list_all}
use Rattle.wasm_spec.specs.Syntax.{map_storage}
use Rattle.wasm_spec.specs.Matching.{is_shared_storage}
use Rattle.wasm_readers_types.specs.WasmReadersValues.SeenValues.{storage_of}
use Rattle.wasm_readers_types.specs.WasmReadersValues.declared.values.FieldType.{FieldType}
use Rattle.wasm_validator_type_list.specs.DeclarationsById.{declares}
use Rattle.wasm_validator_type_list.specs.GroupTypes.{leads_in}
use Rattle.wasm_validator_type_checks.proofs.composite_types.are_fields_shared.Given as goal

abbrev pub invariant-fields : goal.invariant-fields
invariant-fields g l =
    let p = λ (x : FieldType). is_shared_storage (declares l.types.groups) (map_storage (leads_in l.types.groups l.group.index) (storage_of x.element_type)) in
    list_all p l.fields ≡ list_all p (drop l.i l.fields)
