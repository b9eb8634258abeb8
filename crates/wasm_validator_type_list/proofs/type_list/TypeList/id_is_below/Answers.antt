use Rattle.std.proofs.Common.{◌≤◌, ◌<◌, inl, length, arith}
use Rattle.wasm_validator_type_ancestors.specs.WasmValidatorTypeGroups.Groups.{all_in}
use Rattle.wasm_validator_type_list.proofs.UnknownIds.{unknown_decides, known_apart, test_of_world}
use Rattle.wasm_validator_type_list.proofs.type_list.TypeList.id_is_below.Goals as goal

pub returns-then-known-index-clause-decides : goal.returns-then-known-index-clause-decides
returns-then-known-index-clause-decides g c =
    let u : length (all_in c.args.self.now.groups) ≤ c.args.a.index = omega (arith, c.len-known.ensures.count, c.index.ensures, c.if-known-index.true) in
    rw (c.index-then-known-index.ensures, c.index-then-known-index-2.ensures) (unknown_decides c.args.self.now.groups c.len-known.ensures.listable c.args.a.index c.args.b.index (inl u))

pub returns-then-known-index-clause-world : goal.returns-then-known-index-clause-world
returns-then-known-index-clause-world g c =
    test_of_world c.args.self.now.groups c.len-known.ensures.listable c.args.a.index c.args.b.index _ (returns-then-known-index-clause-decides g c)

pub returns-then-known-index-2-clause-decides : goal.returns-then-known-index-2-clause-decides
returns-then-known-index-2-clause-decides g c =
    let l : c.args.a.index < length (all_in c.args.self.now.groups) = omega (arith, c.len-known.ensures.count, c.index.ensures, c.if-known-index.false) in
    let u : length (all_in c.args.self.now.groups) ≤ c.args.b.index = omega (arith, c.len-known.ensures.count, c.index-2.ensures, c.if-known-index-2.true) in
    known_apart c.args.self.now.groups c.len-known.ensures.listable c.args.a.index c.args.b.index l u

pub returns-then-known-index-2-clause-world : goal.returns-then-known-index-2-clause-world
returns-then-known-index-2-clause-world g c =
    test_of_world c.args.self.now.groups c.len-known.ensures.listable c.args.a.index c.args.b.index _ (returns-then-known-index-2-clause-decides g c)

pub returns-clause-world : goal.returns-clause-world
returns-clause-world g c = test_of_world c.args.self.now.groups c.len-known.ensures.listable c.args.a.index c.args.b.index _ c.id_is_subtype.ensures
