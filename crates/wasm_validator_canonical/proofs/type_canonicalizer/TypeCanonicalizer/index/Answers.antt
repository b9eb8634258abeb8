use Rattle.std.proofs.Common.{◌≤◌, ◌<◌, length, arith}
use Rattle.wasm_validator_canonical.specs.GroupFaults.{unknown, needs_gc}
use Rattle.wasm_validator_canonical.proofs.type_canonicalizer.TypeCanonicalizer.index.Goals as goal

pub returns-then-number-self-2-clause-told : goal.returns-then-number-self-2-clause-told
returns-then-number-self-2-clause-told c =
    let behind : c.args.self.now.end ≤ c.in-Module.number = omega (arith, c.if-number-self-2.true) in
    unknown c.in-Module.number behind c.new-then-number-self-2.ensures

pub returns-then-not-self-clause-told : goal.returns-then-not-self-clause-told
returns-then-not-self-clause-told c =
    let from : length c.args.self.now.ids.now ≤ c.in-Module.number = omega (arith, c.if-number-self.false) in
    let below : c.in-Module.number < c.args.self.now.end = omega (arith, c.if-number-self-2.false) in
    needs_gc c.in-Module.number c.if-not-self.true from below c.missing.ensures
