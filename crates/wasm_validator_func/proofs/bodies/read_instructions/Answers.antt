use Rattle.std.proofs.Common.{◌≡◌, ◌<◌, ◌∙◌, ◌||◌, ap, subst, Some, Ok, Err, true, false, length, arith, rules}
use Rattle.wasm_readers_bytes.specs.Reader.{position_in, rest}
use Rattle.wasm_operators.proofs.ExpressionEnds.{shorter}
use Rattle.wasm_spec_steps.specs.Steps.{is_finished}
use Rattle.wasm_typing_validator.specs.WasmTypingSteps.InstructionSteps.{step_at}
use Rattle.wasm_validator_resources.specs.Answers.{world}
use Rattle.wasm_typing_validator.specs.BodyTyping.{typed_state}
use Rattle.wasm_typing_validator.specs.TypedInstructions.{within}
use Rattle.wasm_typing_validator.specs.StepsFromBytes.{ReadsStep}
use Rattle.wasm_typing_validator.proofs.CodeSurroundings.{kept_around, kept_on, same_kept}
use Rattle.wasm_validator_func.specs.Bodies.{FindsTheSame, instructions_from}
use Rattle.wasm_validator_func.proofs.Machine.{all_of, end_here}
use Rattle.wasm_validator_func.proofs.ByteSteps.{one_more, stopped_here}
use Rattle.wasm_validator_func.proofs.bodies.read_instructions.Goals as goal

pub instructions-init : goal.instructions-init
instructions-init g c =
    let C = g.T.WasmModuleResources.context c.args.resources.now in
    let v = c.args.validator.now in
    record {
      same = search rules;
      onward = omega arith;
      kept = same_kept v.stacks;
      going = c.requires;
      so_far = (length (rest c.args.reader.now), omega arith, all_of (world C) (within v C) (typed_state v) (rest c.args.reader.now));
    }

pub instructions-preserved : goal.instructions-preserved
instructions-preserved g c =
    let C = g.T.WasmModuleResources.context c.args.resources.now in
    let v = c.args.validator.now in
    let w = c.instructions.validator in
    let u = c.read_fast.new.validator in
    let t = c.read_one.new.validator in
    let old = c.instructions.reader in
    let middle = c.read_fast.new.reader in
    let new = c.read_one.new.reader in
    let all = instructions_from (world C) (within v C) (typed_state v) (rest c.args.reader.now) in
    let leads : FindsTheSame (world C) (within v C) (typed_state w) (rest old) (typed_state u) (rest middle) =
    subst (λ B. FindsTheSame (world C) B (typed_state w) (rest old) (typed_state u) (rest middle)) (kept_around v.stacks w.stacks C c.instructions.invariant.kept) c.in-Err-Left.ensures.leads in
    let before = c.instructions.invariant.so_far in
    let far = leads before.0 all before.1 before.2 in
    let unfailed : u.failed ≡ false = c.in-Err-Left.ensures.failed in
    let going : is_finished (typed_state u) ≡ false = c.in-Err-Left.ensures.finished in
    let further : position_in middle < position_in new = c.in-Ok-read_one.ensures.further in
    let kept = kept_on v.stacks w.stacks u.stacks c.instructions.invariant.kept c.in-Err-Left.ensures.same in
    let step : step_at (world C) (within v C) (typed_state u) (rest middle) ≡ Some (typed_state t, rest new) =
    subst (λ B. step_at (world C) B (typed_state u) (rest middle) ≡ Some (typed_state t, rest new)) (kept_around v.stacks u.stacks C kept) (c.in-Ok-read_one.ensures.took unfailed) in
    record {
      same = search rules;
      onward = omega (arith, c.instructions.invariant.onward, c.in-Err-Left.ensures.onward, further);
      kept = kept_on v.stacks u.stacks t.stacks kept c.in-Ok-read_one.ensures.same;
      going = c.in-Ok-read_one.ensures.failed ∙ ap (λ b. b || false) unfailed;
      so_far = one_more C (within v C) far.0 (typed_state u) (typed_state t) (rest middle) (rest new) all far.1 (shorter middle new c.in-Ok-read_one.ensures.input further) going step far.2;
    }

pub returns-in-Ok-clause-took : goal.returns-in-Ok-clause-took
returns-in-Ok-clause-took g c =
    let C = g.T.WasmModuleResources.context c.args.resources.now in
    let v = c.args.validator.now in
    let w = c.instructions.validator in
    let u = c.read_fast.new.validator in
    let old = c.instructions.reader in
    let new = c.read_fast.new.reader in
    let all = instructions_from (world C) (within v C) (typed_state v) (rest c.args.reader.now) in
    let leads : FindsTheSame (world C) (within v C) (typed_state w) (rest old) (typed_state u) (rest new) =
    subst (λ B. FindsTheSame (world C) B (typed_state w) (rest old) (typed_state u) (rest new)) (kept_around v.stacks w.stacks C c.instructions.invariant.kept) c.in-Ok.ensures.leads in
    let before = c.instructions.invariant.so_far in
    let far = leads before.0 all before.1 before.2 in
    let finished : is_finished (typed_state u) ≡ true = c.in-Ok.ensures.finished in
    end_here (world C) (within v C) far.0 (typed_state u) (rest new) all finished far.2

pub returns-in-Err-clause-took : goal.returns-in-Err-clause-took
returns-in-Err-clause-took g c =
    let C = g.T.WasmModuleResources.context c.args.resources.now in
    let v = c.args.validator.now in
    let w = c.instructions.validator in
    let u = c.read_fast.new.validator in
    let t = c.read_one.new.validator in
    let old = c.instructions.reader in
    let middle = c.read_fast.new.reader in
    let new = c.read_one.new.reader in
    let all = instructions_from (world C) (within v C) (typed_state v) (rest c.args.reader.now) in
    let leads : FindsTheSame (world C) (within v C) (typed_state w) (rest old) (typed_state u) (rest middle) =
    subst (λ B. FindsTheSame (world C) B (typed_state w) (rest old) (typed_state u) (rest middle)) (kept_around v.stacks w.stacks C c.instructions.invariant.kept) c.in-Err-Left.ensures.leads in
    let before = c.instructions.invariant.so_far in
    let far = leads before.0 all before.1 before.2 in
    let unfailed : u.failed ≡ false = c.in-Err-Left.ensures.failed in
    let going : is_finished (typed_state u) ≡ false = c.in-Err-Left.ensures.finished in
    let kept = kept_on v.stacks w.stacks u.stacks c.instructions.invariant.kept c.in-Err-Left.ensures.same in
    stopped_here C (within v C) c.in-Err.error far.0 (typed_state u) (rest middle) all (typed_state t) (typed_state t) (rest new) (rest new) going
    (subst (λ B. ReadsStep (Err c.in-Err.error) (step_at (world C) B (typed_state u) (rest middle)) (typed_state t) (rest new)) (kept_around v.stacks u.stacks C kept) (c.in-Err.ensures.took unfailed)) far.2
