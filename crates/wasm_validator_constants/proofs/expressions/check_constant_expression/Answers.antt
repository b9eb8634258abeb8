use Rattle.std.proofs.Common.{◌≡◌, ◌<◌, ◌∙◌, sym, ap, subst, ℕ, List, Some, None, false, length, arith, rules}
use Rattle.wasm_readers.specs.WasmReadersBytes.Reader.{position_in, rest}
use Rattle.wasm_readers.specs.WrittenIndices.{written}
use Rattle.wasm_readers.specs.WasmReadersErrors.WasmReadersFeatures.declared.features.WasmFeatures.{WasmFeatures}
use Rattle.wasm_operators.specs.Instructions.{instruction_at}
use Rattle.wasm_operators.specs.Maps.{map_instruction}
use Rattle.wasm_operators.specs.SeenOperators.{operator_of}
use Rattle.wasm_operators.proofs.ExpressionEnds.{shorter}
use Rattle.wasm_typing_validator.specs.WasmSpecSteps.WasmSpecRules.FeatureFlags.{features_of}
use Rattle.wasm_typing_validator.specs.WasmSpecSteps.ServedInstructions.{served}
use Rattle.wasm_typing_validator.specs.WasmSpecSteps.Steps.{is_finished}
use Rattle.wasm_validator_resources.specs.Answers.{world, written_index}
use Rattle.wasm_typing_validator.specs.BodyTyping.{typed_state}
use Rattle.wasm_validator_references.specs.Notes.{noting}
use Rattle.wasm_validator_constants.specs.Constants.{constant_step, constant_from, constant_names}
use Rattle.wasm_typing_validator.specs.TypedInstructions.{within}
use Rattle.wasm_typing_validator.proofs.WrittenInstructions.{is_written, by_numbers, none_served}
use Rattle.wasm_validator_constants.proofs.Machine.{go_one, refused_here, unserved_here, names_of_all, all_of}
use Rattle.wasm_typing_validator.proofs.CodeSurroundings.{kept_around, kept_on, same_kept, ends}
use Rattle.wasm_validator_constants.proofs.expressions.check_constant_expression.Goals as goal

pub check_constant_operator-requires-clause-written : goal.check_constant_operator-requires-clause-written
check_constant_operator-requires-clause-written g c =
    is_written (rest c.operators.reader) (operator_of c.in-Ok.op) (rest c.read_served.new.reader) c.in-Ok.ensures.ok

pub operators-init : goal.operators-init
operators-init g c =
    let C = g.T.WasmModuleResources.context c.args.resources.now in
    let v = c.args.validator.now in
    record {
      same = search rules;
      onward = omega arith;
      kept = same_kept v.stacks;
      going = c.requires;
      so_far = (
        length (rest c.args.reader.now),
        omega arith,
        all_of (world C) (within v C) c.args.imported_globals (typed_state v) (rest c.args.reader.now),
        ap (λ (xs : List ℕ). noting g.N.NotesFunctions.note xs c.args.notes.now) (names_of_all (world C) (within v C) c.args.imported_globals (typed_state v) (rest c.args.reader.now)),
      );
    }

pub returns-in-Err-clause-took : goal.returns-in-Err-clause-took
returns-in-Err-clause-took g c =
    let C = g.T.WasmModuleResources.context c.args.resources.now in
    let v = c.args.validator.now in
    let w = c.operators.validator in
    let far = c.operators.invariant.so_far in
    let going : is_finished (typed_state w) ≡ false = cc in
    let features = c.features.ensures ∙ c.operators.invariant.kept.features in
    let unserved = ap (λ (x : WasmFeatures). served (features_of x) (instruction_at written (rest c.operators.reader))) (sym features) ∙ c.in-Err.ensures.err in
    unserved_here (world C) (within v C) c.args.imported_globals far.0 (typed_state w) (rest c.operators.reader) (constant_from (world C) (within v C) c.args.imported_globals (typed_state v) (rest c.args.reader.now))
    going (none_served (features_of v.stacks.features) (rest c.operators.reader) unserved) far.2

pub operators-preserved : goal.operators-preserved
operators-preserved g c =
    let C = g.T.WasmModuleResources.context c.args.resources.now in
    let v = c.args.validator.now in
    let w = c.operators.validator in
    let u = c.check_constant_operator.new.validator in
    let old = c.operators.reader in
    let new = c.read_served.new.reader in
    let n = c.args.imported_globals in
    let far = c.operators.invariant.so_far in
    let i = map_instruction written_index (operator_of c.in-Ok.op) in
    let going : is_finished (typed_state w) ≡ false = cc in
    let read = by_numbers (rest old) (operator_of c.in-Ok.op) (rest new) c.in-Ok.ensures.ok in
    let further : position_in old < position_in new = c.in-Ok.ensures.further in
    let before = c.operators.invariant.onward in
    let step : constant_step (world C) (within v C) n i (typed_state w) ≡ Some (typed_state u) =
    subst (λ B. constant_step (world C) B n i (typed_state w) ≡ Some (typed_state u)) (kept_around v.stacks w.stacks C c.operators.invariant.kept) c.in-Ok-check_constant_operator.ensures.took in
    record {
      same = search rules;
      onward = omega (arith, further, before);
      kept = kept_on v.stacks w.stacks u.stacks c.operators.invariant.kept c.in-Ok-check_constant_operator.ensures.same;
      going = c.in-Ok-check_constant_operator.ensures.failed;
      so_far = go_one (world C) (within v C) n g.N.NotesFunctions.note c.operators.notes c.note_function.new.notes
          (noting g.N.NotesFunctions.note (constant_names (world C) (within v C) n (typed_state v) (rest c.args.reader.now)) c.args.notes.now)
          far.0 (typed_state w) (typed_state u) (rest old) (rest new) i (constant_from (world C) (within v C) n (typed_state v) (rest c.args.reader.now))
          far.1 (shorter old new c.in-Ok.ensures.same further) going read step c.in_ok-note_function.ensures far.2 far.3;
    }

pub returns-in-Err-check_constant_operator-clause-took : goal.returns-in-Err-check_constant_operator-clause-took
returns-in-Err-check_constant_operator-clause-took g c =
    let C = g.T.WasmModuleResources.context c.args.resources.now in
    let v = c.args.validator.now in
    let w = c.operators.validator in
    let u = c.check_constant_operator.new.validator in
    let old = c.operators.reader in
    let new = c.read_served.new.reader in
    let n = c.args.imported_globals in
    let far = c.operators.invariant.so_far in
    let i = map_instruction written_index (operator_of c.in-Ok.op) in
    let all = constant_from (world C) (within v C) n (typed_state v) (rest c.args.reader.now) in
    let going : is_finished (typed_state w) ≡ false = cc in
    let read = by_numbers (rest old) (operator_of c.in-Ok.op) (rest new) c.in-Ok.ensures.ok in
    let further : position_in old < position_in new = c.in-Ok.ensures.further in
    let none : constant_step (world C) (within w C) n i (typed_state w) ≡ None → all ≡ None = λ x.
    refused_here (world C) (within v C) n far.0 (typed_state w) (rest old) (rest new) i all far.1 (shorter old new c.in-Ok.ensures.same further) going read
    (subst (λ B. constant_step (world C) B n i (typed_state w) ≡ None) (kept_around v.stacks w.stacks C c.operators.invariant.kept) x) far.2 in
    ends c.original_position-offset.result c.in-Err-check_constant_operator.error (constant_step (world C) (within w C) n i (typed_state w)) (typed_state u) all (typed_state u) (rest new)
    c.in-Err-check_constant_operator.ensures.took none
