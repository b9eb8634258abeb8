use Rattle.std.proofs.Common.{◌<◌, ◌≤◌, length, arith}
use Rattle.wasm_readers_errors.specs.WasmSpec.References.{refs_field}
use Rattle.wasm_readers_errors.specs.WasmSpec.Syntax.{map_field}
use Rattle.wasm_validator_type_list.specs.DeclarationsById.{declares}
use Rattle.wasm_readers_types.specs.WasmReadersValues.SeenValues.{field_of}
use Rattle.wasm_validator_type_list.specs.GroupTypes.{leads_in, AreIn, FieldsMatch}
use Rattle.wasm_validator_type_list.proofs.GroupMatching.{item_holds, fields-short, fields-miss, fields-all, below-more}
use Rattle.wasm_validator_type_list.proofs.type_list.matching.all_fields_match.Goals as goal

pub fields_match-requires-clause-sub : goal.fields_match-requires-clause-sub
fields_match-requires-clause-sub g c =
    let l : c.fields.i < length c.args.a.now = omega arith in
    item_holds (λ v. AreIn c.args.types.now.groups c.args.a_group.index (refs_field (field_of v))) c.args.a.now c.fields.i c.index-a-i.result c.requires.sub l c.index-a-i.is

pub fields_match-requires-clause-sup : goal.fields_match-requires-clause-sup
fields_match-requires-clause-sup g c =
    let l : c.fields.i < length c.args.b.now = omega arith in
    item_holds (λ v. AreIn c.args.types.now.groups c.args.b_group.index (refs_field (field_of v))) c.args.b.now c.fields.i c.index-b-i.result c.requires.sup l c.index-b-i.is

pub returns-then-a-b : goal.returns-then-a-b
returns-then-a-b g c =
    let l : length c.args.a.now < length c.args.b.now = omega arith in
    fields-short (declares c.args.types.now.groups) (λ f. map_field (leads_in c.args.types.now.groups c.args.a_group.index) (field_of f)) (λ f. map_field (leads_in c.args.types.now.groups c.args.b_group.index) (field_of f)) c.args.a.now c.args.b.now l

pub returns-then-not-fields_match : goal.returns-then-not-fields_match
returns-then-not-fields_match g c =
    let l : c.fields.i < length c.args.b.now = omega arith in
    fields-miss (declares c.args.types.now.groups) (λ f. map_field (leads_in c.args.types.now.groups c.args.a_group.index) (field_of f)) (λ f. map_field (leads_in c.args.types.now.groups c.args.b_group.index) (field_of f))
    c.args.a.now c.args.b.now c.fields.i c.index-a-i.result c.index-b-i.result c.fields_match.result l c.index-a-i.is c.index-b-i.is
    c.fields_match.ensures c.if-not-fields_match.true

pub fields-preserved : goal.fields-preserved
fields-preserved g c =
    let l : c.fields.i < length c.args.a.now = omega arith in
    let m : c.fields.i < length c.args.b.now = omega arith in
    below-more (FieldsMatch c.args.types.now.groups c.args.a_group.index c.args.b_group.index) c.args.a.now c.args.b.now c.fields.i c.index-a-i.result c.index-b-i.result l m c.index-a-i.is c.index-b-i.is
    (c.fields_match.ensures.0 c.if-not-fields_match.false) c.fields.invariant

pub returns : goal.returns
returns g c =
    let e : length c.args.b.now ≤ length c.args.a.now = omega arith in
    let l : length c.args.b.now ≤ c.fields.i = omega arith in
    fields-all (declares c.args.types.now.groups) (λ f. map_field (leads_in c.args.types.now.groups c.args.a_group.index) (field_of f)) (λ f. map_field (leads_in c.args.types.now.groups c.args.b_group.index) (field_of f)) c.args.a.now c.args.b.now c.fields.i e l c.fields.invariant
