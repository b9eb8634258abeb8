use Rattle.std.proofs.Common.{◌≡◌, refl, sym, ap, subst, ◌∙◌, ◌≤◌, arith, Option, None, List, [], ◌++◌, length}
use Rattle.wasm_validator_states.specs.WasmParser.Places.{starts_at, ends_at, input_end}
use Rattle.wasm_validator_states.specs.WasmParser.PayloadViews.{seen, state}
use Rattle.wasm_validator_states.proofs.WasmParser.PieceCounts.{falls}
use Rattle.wasm_validator_states.specs.WasmValidatorTypes.declared.shown.Types.{Types}
use Rattle.wasm_validator_modules.specs.declared.payload.Bodies.{Bodies}
use Rattle.wasm_validator_states.specs.States.{BodyToValidate}
use Rattle.wasm_validator_states.specs.Payloads.{Runs}
use Rattle.wasm_validator_modules.specs.PayloadAnswers.{bodies_seen, bodies_given, latest_of, IsGivenIn, AllEndBy}
use Rattle.wasm_validator_states.specs.WasmParser.Machine.{State}
use Rattle.wasm_validator_states.proofs.ParserProgress.{refused_nothing}
use Rattle.wasm_validator_states.proofs.ParserAndValidator.{Together, is_on, together_step, refused_together, stuck_together}
use Rattle.wasm_validator_modules.proofs.Bodies.{none_ends_by, given_wider, nothing_seen}
use Rattle.wasm_validator_modules.proofs.KeptContext.{IsInKept, given_in, kept_in}
use Rattle.wasm_validator_states.proofs.ListGrowth.{same_features}
use Rattle.wasm_validator_modules.proofs.Runs.{Progress, begun, progress-step, accepted, has_ended, refused_format, rejected_payload, between_wider}
use Rattle.wasm_validator_modules.proofs.BodyPayloads.{refused_gathering}
use Rattle.wasm_validator_modules.proofs.validator.Validator.run.Goals as goal

pub payloads-init : goal.payloads-init
payloads-init g c =
    let P : Option (Types g.row.A.Denot) → List BodyToValidate → Type 0 = λ o bs. Progress c.args.bytes.now c.args.self.now c.args.self.now (state c.parse_all-payloads.result) o bs in
    let ended : None ≡ c.new-gathered.result.ended = sym c.new-gathered.ensures.ended in
    let bodies : [] ≡ bodies_seen c.new-gathered.result.bodies = sym (nothing_seen c.new-gathered.result.bodies c.new-gathered.ensures.resources) in (
      subst (λ bs. P c.new-gathered.result.ended bs) bodies
          (subst (λ o. P o []) ended (begun c.args.bytes.now (state c.parse_all-payloads.result) c.args.self.now c.parse_all-payloads.ensures.begun)),
      c.parse_all-payloads.ensures.reads,
      omega (arith, c.parse_all-payloads.ensures.whole, c.new.ensures),
      subst (λ (s : State). Together s.stage c.args.self.now c.args.self.now) (sym c.parse_all-payloads.ensures.begun) refl,
      none_ends_by (length c.args.bytes.now) c.new-gathered.result.bodies c.new-gathered.ensures.bodies,
      sym (c.new-gathered.ensures.features ∙ c.features.ensures),
      subst (λ kept. IsInKept kept c.args.self.now.stage) (sym c.new-gathered.ensures.resources) tt,
    )

pub payloads-smaller : goal.payloads-smaller
payloads-smaller g c =
    let given = rw c.in-Ok-Some.field-0-is at c.in-Ok-Some.ensures.ok in
    falls (state c.payloads.payloads) (seen c.in-Ok-Some.payload) (state c.next_of_input.new.payloads) given

pub payloads-preserved : goal.payloads-preserved
payloads-preserved g c =
    let given = rw c.in-Ok-Some.field-0-is at c.in-Ok-Some.ensures.ok in
    let within = rw c.in-Ok-Some.field-0-is at (c.in-Ok-Some.ensures.within c.payloads.invariant.1) in
    let before = bodies_seen c.payloads.gathered.bodies in
    let took = c.in-Ok.ensures.taken in
    let P : Option (Types g.row.A.Denot) → List BodyToValidate → Type 0 = λ o bs. Progress c.args.bytes.now c.args.self.now c.gather.new.self (state c.next_of_input.new.payloads) o bs in
    let went : P (latest_of c.payloads.gathered.ended took.valid) (before ++ bodies_given took.valid) =
    progress-step c.args.bytes.now c.args.self.now c.payloads.self c.gather.new.self (state c.payloads.payloads) (state c.next_of_input.new.payloads) (seen c.in-Ok-Some.payload) c.payloads.gathered.ended before took.valid
    c.payloads.invariant.0 given took.moves took.shown took.given in
    let last : ends_at c.in-Ok-Some.payload ≤ length c.args.bytes.now = omega (arith, within, c.payloads.invariant.2) in (
      subst (λ bs. P c.gather.new.gathered.ended bs) (sym took.bodies)
          (subst (λ o. P o (before ++ bodies_given took.valid)) (sym took.ended) went),
      c.next_of_input.ensures.reads c.payloads.invariant.1,
      c.next_of_input.ensures.whole ∙ c.payloads.invariant.2,
      together_step (state c.payloads.payloads) (state c.next_of_input.new.payloads) (seen c.in-Ok-Some.payload) c.args.self.now c.payloads.self c.gather.new.self given took.moves c.payloads.invariant.3,
      took.all_within (length c.args.bytes.now) c.payloads.invariant.4 (given_wider (ends_at c.in-Ok-Some.payload) (length c.args.bytes.now) took.valid last took.within),
      same_features c.payloads.self c.gather.new.self (seen c.in-Ok-Some.payload) took.moves ∙ c.payloads.invariant.5 ∙ sym took.features,
      subst (λ kept. IsInKept kept c.gather.new.self.stage) (sym took.resources)
          (kept_in c.payloads.gathered.bodies.resources c.payloads.self c.gather.new.self (seen c.in-Ok-Some.payload) took.valid took.moves took.given c.payloads.invariant.6),
    )

pub gather-requires : goal.gather-requires
gather-requires g c = λ v given.
    subst (λ features. IsGivenIn features c.payloads.gathered.bodies.resources v) c.payloads.invariant.5
    (given_in c.payloads.gathered.bodies.resources c.payloads.self (seen c.in-Ok-Some.payload) v given c.payloads.invariant.6)

pub returns-in-Err-gather-clause-place : goal.returns-in-Err-gather-clause-place
returns-in-Err-gather-clause-place g c =
    let order = rw c.in-Ok-Some.field-0-is at c.in-Ok-Some.ensures.order in
    let within = rw c.in-Ok-Some.field-0-is at (c.in-Ok-Some.ensures.within c.payloads.invariant.1) in
    between_wider (starts_at c.in-Ok-Some.payload) (ends_at c.in-Ok-Some.payload) 0 (length c.args.bytes.now) c.in-Err-gather.error (omega arith) (omega (arith, within, c.payloads.invariant.2)) (c.in-Err-gather.ensures.place order)

pub returns-in-Err-clause-place : goal.returns-in-Err-clause-place
returns-in-Err-clause-place g c =
    between_wider 0 (input_end c.payloads.payloads) 0 (length c.args.bytes.now) c.in-Err.refused (omega arith) (omega (arith, c.payloads.invariant.2)) (c.in-Err.ensures.place c.payloads.invariant.1)

pub returns-in-Err-gather-clause-validates : goal.returns-in-Err-gather-clause-validates
returns-in-Err-gather-clause-validates g c =
    let given = rw c.in-Ok-Some.field-0-is at c.in-Ok-Some.ensures.ok in
    let before = bodies_seen c.payloads.gathered.bodies in
    let gives : Bodies g.row.A.Denot → List BodyToValidate = λ b. bodies_seen b in
    refused_gathering gives c.args.bytes.now c.args.self.now c.payloads.self c.gather.new.self (state c.payloads.payloads) (state c.next_of_input.new.payloads) c.payloads.gathered.ended before (seen c.in-Ok-Some.payload) c.in-Err-gather.error
    c.payloads.invariant.0 given c.in-Err-gather.ensures.refused
    (refused_together (state c.payloads.payloads) (state c.next_of_input.new.payloads) (seen c.in-Ok-Some.payload) c.args.self.now c.payloads.self c.gather.new.self given c.payloads.invariant.3)
    (rejected_payload c.args.bytes.now c.args.self.now c.payloads.self (state c.payloads.payloads) (state c.next_of_input.new.payloads) (seen c.in-Ok-Some.payload) c.payloads.gathered.ended before c.payloads.invariant.0 given)

pub returns-in-Err-clause-validates : goal.returns-in-Err-clause-validates
returns-in-Err-clause-validates g c =
    let gives : Bodies g.row.A.Denot → List BodyToValidate = λ b. bodies_seen b in
    refused_format gives c.args.bytes.now c.args.self.now c.payloads.self (state c.payloads.payloads) c.payloads.gathered.ended (bodies_seen c.payloads.gathered.bodies) c.in-Err.refused
    (c.in-Err.ensures.format (refused_nothing c.payloads.payloads (is_on (state c.payloads.payloads).stage c.args.self.now c.payloads.self c.payloads.invariant.3))) c.payloads.invariant.0 c.in-Err.ensures.err
    (stuck_together (state c.payloads.payloads) c.args.self.now c.payloads.self c.in-Err.ensures.err c.payloads.invariant.3)

pub unreachable-requires : goal.unreachable-requires
unreachable-requires g c =
    let bodies = bodies_seen c.payloads.gathered.bodies in
    let P : Option (Types g.row.A.Denot) → Type 0 = λ o. Progress c.args.bytes.now c.args.self.now c.payloads.self (state c.payloads.payloads) o bodies in
    let over = rw c.in-Ok-None.field-0-is at c.in-Ok-None.ensures.ok in
    has_ended c.args.bytes.now c.args.self.now c.payloads.self (state c.payloads.payloads) bodies (subst P c.in-None.ensures.none c.payloads.invariant.0) over

pub returns-clause-validates : goal.returns-clause-validates
returns-clause-validates g c =
    let bodies = bodies_seen c.payloads.gathered.bodies in
    let P : Option (Types g.row.A.Denot) → Type 0 = λ o. Progress c.args.bytes.now c.args.self.now c.payloads.self (state c.payloads.payloads) o bodies in
    let over = rw c.in-Ok-None.field-0-is at c.in-Ok-None.ensures.ok in
    let kept : bodies ≡ bodies_seen c.in-Some.ended.1 = ap (λ (b : Bodies g.row.A.Denot). bodies_seen b) (sym c.in-Some.ensures.bodies) in
    subst (λ bs. Runs c.args.bytes.now c.args.self.now c.payloads.self c.in-Some.ended.0 bs) kept
    (accepted c.args.bytes.now c.args.self.now c.payloads.self (state c.payloads.payloads) c.in-Some.ended.0 bodies (subst P c.in-Some.ensures.ended c.payloads.invariant.0) over)

pub returns-clause-within : goal.returns-clause-within
returns-clause-within g c = subst (λ (b : Bodies g.row.A.Denot). AllEndBy (length c.args.bytes.now) b) (sym c.in-Some.ensures.bodies) c.payloads.invariant.4
