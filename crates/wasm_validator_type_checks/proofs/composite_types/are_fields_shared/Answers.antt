use Rattle.std.proofs.Common.{sym, ◌∙◌, ◌<◌, ◌≤◌, true, false, length, arith}
use Rattle.wasm_spec.specs.Syntax.{map_storage}
use Rattle.wasm_spec.specs.References.{refs_field}
use Rattle.wasm_spec.specs.Matching.{is_shared_storage}
use Rattle.wasm_readers_types.specs.WasmReadersValues.SeenValues.{storage_of, field_of}
use Rattle.wasm_readers_types.specs.WasmReadersValues.declared.values.FieldType.{FieldType}
use Rattle.wasm_validator_type_list.specs.DeclarationsById.{declares}
use Rattle.wasm_validator_type_list.specs.GroupTypes.{leads_in, AreIn}
use Rattle.wasm_validator_type_list.proofs.GroupMatching.{item_holds}
use Rattle.wasm_validator_type_checks.proofs.SharedTypes.{tested, all_tested}
use Rattle.wasm_validator_type_checks.proofs.composite_types.are_fields_shared.Goals as goal

pub is_stored_shared-requires : goal.is_stored_shared-requires
is_stored_shared-requires g c =
    let l : c.fields.i < length c.args.fields.now = omega arith in
    item_holds (λ (x : FieldType). AreIn c.args.types.now.groups c.args.group.index (refs_field (field_of x))) c.args.fields.now c.fields.i c.index-fields-i.result c.requires l c.index-fields-i.is

pub returns-then-not-is_stored_shared : goal.returns-then-not-is_stored_shared
returns-then-not-is_stored_shared g c =
    let l : c.fields.i < length c.args.fields.now = omega arith in
    let p = λ (x : FieldType). is_shared_storage (declares c.args.types.now.groups) (map_storage (leads_in c.args.types.now.groups c.args.group.index) (storage_of x.element_type)) in
    sym (c.fields.invariant ∙ tested p c.args.fields.now c.fields.i c.index-fields-i.result false l c.index-fields-i.is (sym c.if-not-is_stored_shared.true ∙ c.is_stored_shared.ensures))

pub fields-preserved : goal.fields-preserved
fields-preserved g c =
    let l : c.fields.i < length c.args.fields.now = omega arith in
    let p = λ (x : FieldType). is_shared_storage (declares c.args.types.now.groups) (map_storage (leads_in c.args.types.now.groups c.args.group.index) (storage_of x.element_type)) in
    c.fields.invariant ∙ tested p c.args.fields.now c.fields.i c.index-fields-i.result true l c.index-fields-i.is (sym c.if-not-is_stored_shared.false ∙ c.is_stored_shared.ensures)

pub returns : goal.returns
returns g c =
    let l : length c.args.fields.now ≤ c.fields.i = omega arith in
    let p = λ (x : FieldType). is_shared_storage (declares c.args.types.now.groups) (map_storage (leads_in c.args.types.now.groups c.args.group.index) (storage_of x.element_type)) in
    sym (c.fields.invariant ∙ all_tested p c.args.fields.now c.fields.i l)
