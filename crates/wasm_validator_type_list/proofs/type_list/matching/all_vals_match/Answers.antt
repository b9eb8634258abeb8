use Rattle.std.proofs.Common.{◌<◌, ◌≤◌, ◌≡◌, length, arith}
use Rattle.wasm_readers_errors.specs.WasmSpec.References.{refs_val}
use Rattle.wasm_readers_types.specs.WasmReadersValues.SeenValues.{val_of}
use Rattle.wasm_validator_type_list.specs.GroupTypes.{AreIn, ValsMatch}
use Rattle.wasm_validator_type_list.proofs.GroupMatching.{item_holds, zip-miss, zip-all, below-more}
use Rattle.wasm_validator_type_list.proofs.type_list.matching.all_vals_match.Goals as goal

pub vals_match-requires-clause-sub : goal.vals_match-requires-clause-sub
vals_match-requires-clause-sub g c =
    let l : c.vals.i < length c.args.a.now = omega arith in
    item_holds (λ v. AreIn c.args.types.now.groups c.args.a_group.index (refs_val (val_of v))) c.args.a.now c.vals.i c.index-a-i.result c.requires.sub l c.index-a-i.is

pub vals_match-requires-clause-sup : goal.vals_match-requires-clause-sup
vals_match-requires-clause-sup g c =
    let l : c.vals.i < length c.args.b.now = omega arith in
    item_holds (λ v. AreIn c.args.types.now.groups c.args.b_group.index (refs_val (val_of v))) c.args.b.now c.vals.i c.index-b-i.result c.requires.sup l c.index-b-i.is

pub returns-then-not-vals_match : goal.returns-then-not-vals_match
returns-then-not-vals_match g c =
    let l : c.vals.i < length c.args.a.now = omega arith in
    zip-miss (ValsMatch c.args.types.now.groups c.args.a_group.index c.args.b_group.index) c.args.a.now c.args.b.now c.vals.i c.index-a-i.result c.index-b-i.result c.vals_match.result l c.index-a-i.is c.index-b-i.is
    c.vals_match.ensures c.if-not-vals_match.true

pub vals-preserved : goal.vals-preserved
vals-preserved g c =
    let l : c.vals.i < length c.args.a.now = omega arith in
    let m : c.vals.i < length c.args.b.now = omega arith in
    below-more (ValsMatch c.args.types.now.groups c.args.a_group.index c.args.b_group.index) c.args.a.now c.args.b.now c.vals.i c.index-a-i.result c.index-b-i.result l m c.index-a-i.is c.index-b-i.is
    (c.vals_match.ensures.0 c.if-not-vals_match.false) c.vals.invariant

pub returns : goal.returns
returns g c =
    let e : length c.args.a.now ≡ length c.args.b.now = omega arith in
    let l : length c.args.a.now ≤ c.vals.i = omega arith in
    zip-all (ValsMatch c.args.types.now.groups c.args.a_group.index c.args.b_group.index) c.args.a.now c.args.b.now c.vals.i e l c.vals.invariant
