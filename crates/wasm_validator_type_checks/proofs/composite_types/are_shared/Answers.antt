use Rattle.std.proofs.Common.{sym, ◌∙◌, ◌<◌, ◌≤◌, true, false, length, arith}
use Rattle.wasm_spec.specs.Syntax.{map_val}
use Rattle.wasm_spec.specs.References.{refs_val}
use Rattle.wasm_spec.specs.Matching.{is_shared_val}
use Rattle.wasm_readers_types.specs.WasmReadersValues.SeenValues.{val_of}
use Rattle.wasm_readers_types.specs.WasmReadersValues.declared.values.ValType.{ValType}
use Rattle.wasm_validator_type_list.specs.DeclarationsById.{declares}
use Rattle.wasm_validator_type_list.specs.GroupTypes.{leads_in, AreIn}
use Rattle.wasm_validator_type_list.proofs.GroupMatching.{item_holds}
use Rattle.wasm_validator_type_checks.proofs.SharedTypes.{tested, all_tested}
use Rattle.wasm_validator_type_checks.proofs.composite_types.are_shared.Goals as goal

pub is_shared-requires : goal.is_shared-requires
is_shared-requires g c =
    let l : c.values.i < length c.args.values.now = omega arith in
    item_holds (λ v. AreIn c.args.types.now.groups c.args.group.index (refs_val (val_of v))) c.args.values.now c.values.i c.index-values-i.result c.requires l c.index-values-i.is

pub returns-then-not-is_shared : goal.returns-then-not-is_shared
returns-then-not-is_shared g c =
    let l : c.values.i < length c.args.values.now = omega arith in
    let p = λ (v : ValType). is_shared_val (declares c.args.types.now.groups) (map_val (leads_in c.args.types.now.groups c.args.group.index) (val_of v)) in
    sym (c.values.invariant ∙ tested p c.args.values.now c.values.i c.index-values-i.result false l c.index-values-i.is (sym c.if-not-is_shared.true ∙ c.is_shared.ensures))

pub values-preserved : goal.values-preserved
values-preserved g c =
    let l : c.values.i < length c.args.values.now = omega arith in
    let p = λ (v : ValType). is_shared_val (declares c.args.types.now.groups) (map_val (leads_in c.args.types.now.groups c.args.group.index) (val_of v)) in
    c.values.invariant ∙ tested p c.args.values.now c.values.i c.index-values-i.result true l c.index-values-i.is (sym c.if-not-is_shared.false ∙ c.is_shared.ensures)

pub returns : goal.returns
returns g c =
    let l : length c.args.values.now ≤ c.values.i = omega arith in
    let p = λ (v : ValType). is_shared_val (declares c.args.types.now.groups) (map_val (leads_in c.args.types.now.groups c.args.group.index) (val_of v)) in
    sym (c.values.invariant ∙ all_tested p c.args.values.now c.values.i l)
