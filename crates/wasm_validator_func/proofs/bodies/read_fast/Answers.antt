use Rattle.std.proofs.Common.{◌≡◌, ◌<◌, ◌∙◌, refl, ap, subst, Some, false, arith, rules}
use Rattle.wasm_readers_bytes.specs.Reader.{position_in, rest}
use Rattle.wasm_operators.proofs.ExpressionEnds.{shorter}
use Rattle.wasm_spec_steps.specs.Steps.{is_finished}
use Rattle.wasm_typing_validator.specs.WasmTypingSteps.InstructionSteps.{step_at}
use Rattle.wasm_validator_resources.specs.Answers.{world}
use Rattle.wasm_typing_validator.specs.BodyTyping.{typed_state}
use Rattle.wasm_typing_validator.specs.TypedInstructions.{within}
use Rattle.wasm_typing_validator.proofs.CodeSurroundings.{kept_around, kept_on, same_kept}
use Rattle.wasm_validator_func.proofs.Machine.{leads_here}
use Rattle.wasm_validator_func.proofs.ByteSteps.{one_more}
use Rattle.wasm_validator_func.proofs.bodies.read_fast.Goals as goal

pub operators-init : goal.operators-init
operators-init g c = record {
  stays = refl;
  same = search rules;
  onward = omega arith;
  kept = same_kept c.args.validator.now.stacks;
  going = c.requires;
  leads = λ most all few so_far. (most, few, so_far);
}

pub operators-preserved : goal.operators-preserved
operators-preserved g c =
    let C = g.T.WasmModuleResources.context c.args.resources.now in
    let v = c.args.validator.now in
    let w = c.operators.validator in
    let u = c.fast_op.new.self in
    let old = c.operators.ahead in
    let new = c.fast_op.new.reader in
    let going : is_finished (typed_state w) ≡ false = cc in
    let further : position_in old < position_in new = c.in-Ok.ensures.further in
    let before = c.operators.invariant.onward in
    let step : step_at (world C) (within v C) (typed_state w) (rest old) ≡ Some (typed_state u, rest new) =
    subst (λ B. step_at (world C) B (typed_state w) (rest old) ≡ Some (typed_state u, rest new)) (kept_around v.stacks w.stacks C c.operators.invariant.kept) c.in-Ok.ensures.took in
    record {
      stays = c.operators.invariant.stays;
      same = search rules;
      onward = omega (arith, further, before);
      kept = kept_on v.stacks w.stacks u.stacks c.operators.invariant.kept c.in-Ok.ensures.same;
      going = c.in-Ok.ensures.failed;
      leads = λ most all few so_far.
          let far = c.operators.invariant.leads most all few so_far in
          one_more C (within v C) far.0 (typed_state w) (typed_state u) (rest old) (rest new) all far.1 (shorter old new c.in-Ok.ensures.input further) going step far.2;
    }

pub returns-in-Err-clause-leads : goal.returns-in-Err-clause-leads
returns-in-Err-clause-leads g c =
    let C = g.T.WasmModuleResources.context c.args.resources.now in
    let v = c.args.validator.now in
    leads_here (world C) (within v C) _ _ _ _ _ _ c.operators.invariant.leads c.in-Err.ensures.left (c.go_on_from.ensures.rest ∙ ap rest c.in-Err.ensures.unread)

pub returns-clause-leads : goal.returns-clause-leads
returns-clause-leads g c =
    let C = g.T.WasmModuleResources.context c.args.resources.now in
    let v = c.args.validator.now in
    leads_here (world C) (within v C) _ _ _ _ _ _ c.operators.invariant.leads refl c.go_on_from-2.ensures.rest
