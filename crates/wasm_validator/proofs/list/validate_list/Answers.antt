use Rattle.std.proofs.Common.{refl, sym, subst, ◌+◌, arith}
use Rattle.wasm_validator.proofs.ModuleSequences.{SoFar, begin, next, stop, finish}
use Rattle.wasm_validator.proofs.Headline.{headline}
use Rattle.wasm_validator.proofs.ShownTypeIds.{all_held}
use Rattle.wasm_validator.specs.Lists.{DecidesEach, lent}
use Rattle.wasm_validator.proofs.list.validate_list.Goals as goal

pub modules-init : goal.modules-init
modules-init g c =
    let small = c.in_ok-answers.ensures.capacity in (
      subst (λ xs. SoFar c.args.modules.now 0 xs c.args.validator.now c.args.validator.now) (sym c.in_ok-answers.ensures.items) (begin c.args.modules.now c.args.validator.now c.requires),
      c.in_ok-answers.ensures.len,
      small,
    )

pub reset-requires : goal.reset-requires
reset-requires g c = c.modules.invariant.0.may

pub push_reserved-requires : goal.push_reserved-requires
push_reserved-requires g c =
    let many = c.modules.invariant.1 in
    let room = c.modules.invariant.2 in
    let more = c.modules-test.true in
    omega (arith, many, room, more)

pub modules-preserved : goal.modules-preserved
modules-preserved g c =
    let many = c.modules.invariant.1 in
    let room = c.modules.invariant.2 in
    let longer = c.push_reserved.ensures.len in
    let same = c.push_reserved.ensures.capacity in (
      subst (λ xs. SoFar c.args.modules.now (c.modules.i + 1) xs c.args.validator.now c.answer_all-answered.new.validator) (sym c.push_reserved.ensures.items)
          (next c.args.modules.now c.modules.i c.modules.answers.items c.args.validator.now c.modules.validator c.answer_all-answered.new.validator c.modules.invariant.0 c.modules-test.true c.answer_all-answered.result.answer _ c.reset.new.self c.answer_all-answered.ensures.decided c.reset.ensures _ refl (c.answer_all-answered.ensures.ended c.if-not-answered.false)),
      omega (arith, many, longer),
      omega (arith, room, same),
    )

pub returns-then-not-answered-clause-decided : goal.returns-then-not-answered-clause-decided
returns-then-not-answered-clause-decided g c =
    subst (λ xs. DecidesEach xs (lent c.args.modules.now) c.args.validator.now c.answer_all-answered.new.validator) (sym c.push_reserved.ensures.items)
    (stop c.args.modules.now c.modules.i c.modules.answers.items c.args.validator.now c.modules.validator c.answer_all-answered.new.validator c.modules.invariant.0 c.modules-test.true c.answer_all-answered.result.answer _ c.reset.new.self c.answer_all-answered.ensures.decided c.reset.ensures _ refl (c.answer_all-answered.ensures.stopped c.if-not-answered.true))

pub returns-then-not-answered-clause-headline : goal.returns-then-not-answered-clause-headline
returns-then-not-answered-clause-headline g c =
    headline c.push_reserved.new.self.items (lent c.args.modules.now) c.args.validator.now c.answer_all-answered.new.validator (returns-then-not-answered-clause-decided g c) c.requires

pub returns-then-not-answered-clause-types : goal.returns-then-not-answered-clause-types
returns-then-not-answered-clause-types g c =
    all_held c.push_reserved.new.self.items (lent c.args.modules.now) c.args.validator.now c.answer_all-answered.new.validator (returns-then-not-answered-clause-decided g c)

pub returns-clause-decided : goal.returns-clause-decided
returns-clause-decided g c =
    let many = c.modules-test.false in
    finish c.args.modules.now c.modules.i c.modules.answers.items c.args.validator.now c.modules.validator c.modules.invariant.0 (omega (arith, many))

pub returns-clause-headline : goal.returns-clause-headline
returns-clause-headline g c = headline c.modules.answers.items (lent c.args.modules.now) c.args.validator.now c.modules.validator (returns-clause-decided g c) c.requires

pub returns-clause-types : goal.returns-clause-types
returns-clause-types g c = all_held c.modules.answers.items (lent c.args.modules.now) c.args.validator.now c.modules.validator (returns-clause-decided g c)
