use Rattle.std.proofs.Common.{◌≡◌, ◌<◌, ◌∙◌, sym, ap, subst, refl, ℕ, max, length, Some, Err, true, false, arith, rules, tests}
use Rattle.wasm_readers.specs.WasmReadersBytes.Reader.{SameInput, position_in, place_of_next, rest}
use Rattle.wasm_validator_side_notes.specs.WasmTypingValidator.WasmSpecSteps.Steps.{is_finished}
use Rattle.wasm_readers_types.specs.WasmReadersValues.declared.indices.UnpackedIndex.{UnpackedIndex}
use Rattle.wasm_spec_rules.specs.Contexts.{Context}
use Rattle.wasm_validator_resources.specs.Answers.{world}
use Rattle.wasm_validator_side_notes.specs.WasmTypingValidator.BodyTyping.{typed_state}
use Rattle.wasm_validator_side_notes.specs.WasmTypingValidator.TypedInstructions.{within}
use Rattle.wasm_validator_side_notes.specs.WasmTypingValidator.WasmTypingStacks.BodyStacks.{Kept}
use Rattle.wasm_validator_side_notes.specs.WasmTypingValidator.WasmTypingSteps.ToldSteps.{is_taken}
use Rattle.wasm_validator_side_notes.specs.WasmTypingValidator.StepsFromBytes.{ReadsStep, stepped}
use Rattle.wasm_validator_side_notes.proofs.WasmTypingValidator.CodeSurroundings.{kept_on, same_kept}
use Rattle.wasm_validator_side_notes.specs.WasmValidatorFunc.Bodies.{instructions_from}
use Rattle.wasm_validator_side_notes.proofs.WasmValidatorFunc.Machine.{all_of}
use Rattle.wasm_validator_side_notes.specs.OperatorNotes.{LeadsOn}
use Rattle.wasm_validator_side_notes.specs.TableViews.{shown}
use Rattle.wasm_validator_side_notes.specs.Tables.{Advances, Reaches}
use Rattle.wasm_validator_side_notes.proofs.InstructionBytes.{advances_from, advances_on, place_stays}
use Rattle.wasm_validator_side_notes.proofs.NextInstructions.{reaches_first}
use Rattle.wasm_validator_side_table.proofs.BodyLoop.{table_more, table_raised, far_more, far_stopped, stepped_same}
use Rattle.wasm_validator_side_table.proofs.body.read_all.Goals as goal

pub operators-init : goal.operators-init
operators-init g c =
    let C = g.T.WasmModuleResources.context c.args.validator.now.resources in
    let v = c.args.validator.now.validator in
    let T = shown c.args.table.now in
    let at = place_of_next c.args.reader.now in
    let bytes = rest c.args.reader.now in
    let none : max 0 (length (typed_state v).operands) ≡ 0 = ap (λ xs. max 0 (length xs)) c.requires.empty in
    record {
      reaches = subst (λ (n : ℕ). Reaches (world C) (within v C) (typed_state v) T at bytes (typed_state v) T n at bytes) (sym none) (reaches_first (world C) (within v C) (typed_state v) T at 0 bytes c.requires.empty refl);
      few = omega arith;
      kept = same_kept v.stacks;
      going = c.requires.going;
      resources = refl;
      index = refl;
      same = search rules;
      onward = omega arith;
      so_far = (length (rest c.args.reader.now), omega arith, all_of (world C) (within v C) (typed_state v) (rest c.args.reader.now));
    }

pub operators-preserved-then-is_quiet : goal.operators-preserved-then-is_quiet
operators-preserved-then-is_quiet g c =
    let C = g.T.WasmModuleResources.context c.args.validator.now.resources in
    let D = g.T.WasmModuleResources.context c.operators.validator.resources in
    let E = g.T.WasmModuleResources.context c.told_op-told.new.self.resources in
    let v = c.args.validator.now.validator in
    let w = c.operators.validator.validator in
    let u = c.told_op-told.new.self.validator in
    let old = c.operators.ahead in
    let new = c.told_op-told.new.reader in
    let T = shown c.operators.table in
    let U = shown c.note_told.new.self in
    let all = instructions_from (world C) (within v C) (typed_state v) (rest c.args.reader.now) in
    let far = c.operators.invariant.so_far in
    let count = c.len_operands-count.result in
    let counted : count ≡ length (typed_state w).operands = search rules in
    let high : c.raise.new.height ≡ max c.operators.height count = search (rules, tests) in
    let low : c.raise.new.height < 4294967295 = search (rules, tests) in
    let raised : Reaches (world C) (within v C) (typed_state v) (shown c.args.table.now) (place_of_next c.args.reader.now) (rest c.args.reader.now) (typed_state w) T c.raise.new.height (place_of_next old) (rest old) =
    table_raised C v w old c.operators.invariant.kept c.args.reader.now (shown c.args.table.now) T c.operators.height count c.raise.new.height counted high c.operators.invariant.reaches in
    let going : is_finished (typed_state w) ≡ false = cc in
    let there : D ≡ C = ap (λ r. g.T.WasmModuleResources.context r) c.operators.invariant.resources in
    let same : c.told_op-told.new.self.resources ≡ c.args.validator.now.resources = search rules in
    let behind : E ≡ C = ap (λ r. g.T.WasmModuleResources.context r) same in
    let taken : is_taken c.told_op-told.result ≡ true = ap is_taken (c.is_quiet.ensures.quiet c.if-is_quiet.true) in
    let further : position_in old < position_in new = c.told_op-told.ensures.further taken in
    let before = c.operators.invariant.onward in
    let inside : SameInput old new = search rules in
    let took : stepped D w.stacks old ≡ Some (typed_state u, rest new) = c.told_op-told.ensures.took taken in
    let step : stepped C w.stacks old ≡ Some (typed_state u, rest new) = subst (λ (X : Context UnpackedIndex). stepped X w.stacks old ≡ Some (typed_state u, rest new)) there took in
    let led : LeadsOn E u old new count T U = search (rules, tests) in
    let leads : LeadsOn C u old new count T U = subst (λ (X : Context UnpackedIndex). LeadsOn X u old new count T U) behind led in
    let advances : Advances (world C) (within w C) (typed_state w) T (place_of_next old) (rest old) (typed_state u) U (place_of_next new) (rest new) = leads.advances w inside (sym counted) step in
    record {
      reaches = table_more C v w old c.operators.invariant.kept u c.args.reader.now new (shown c.args.table.now) T U c.raise.new.height raised advances;
      few = low;
      kept = kept_on v.stacks w.stacks u.stacks c.operators.invariant.kept (search rules);
      going = search rules;
      resources = search rules;
      index = search rules;
      same = search rules;
      onward = omega (arith, further, before);
      so_far = far_more C v w old c.operators.invariant.kept far.0 all going far.2 u new far.1 inside further step;
    }

pub operators-preserved-then-is_taken : goal.operators-preserved-then-is_taken
operators-preserved-then-is_taken g c =
    let C = g.T.WasmModuleResources.context c.args.validator.now.resources in
    let D = g.T.WasmModuleResources.context c.operators.validator.resources in
    let E = g.T.WasmModuleResources.context c.told_op-told.new.self.resources in
    let v = c.args.validator.now.validator in
    let w = c.operators.validator.validator in
    let u = c.told_op-told.new.self.validator in
    let old = c.operators.ahead in
    let new = c.told_op-told.new.reader in
    let T = shown c.operators.table in
    let U = shown c.note_told-then-is_taken.new.self in
    let all = instructions_from (world C) (within v C) (typed_state v) (rest c.args.reader.now) in
    let far = c.operators.invariant.so_far in
    let count = c.len_operands-count.result in
    let counted : count ≡ length (typed_state w).operands = search rules in
    let high : c.raise.new.height ≡ max c.operators.height count = search (rules, tests) in
    let low : c.raise.new.height < 4294967295 = search (rules, tests) in
    let raised : Reaches (world C) (within v C) (typed_state v) (shown c.args.table.now) (place_of_next c.args.reader.now) (rest c.args.reader.now) (typed_state w) T c.raise.new.height (place_of_next old) (rest old) =
    table_raised C v w old c.operators.invariant.kept c.args.reader.now (shown c.args.table.now) T c.operators.height count c.raise.new.height counted high c.operators.invariant.reaches in
    let going : is_finished (typed_state w) ≡ false = cc in
    let there : D ≡ C = ap (λ r. g.T.WasmModuleResources.context r) c.operators.invariant.resources in
    let same : c.told_op-told.new.self.resources ≡ c.args.validator.now.resources = search rules in
    let behind : E ≡ C = ap (λ r. g.T.WasmModuleResources.context r) same in
    let taken : is_taken c.told_op-told.result ≡ true = sym c.is_taken.ensures ∙ c.if-is_taken.true in
    let further : position_in old < position_in new = c.told_op-told.ensures.further taken in
    let before = c.operators.invariant.onward in
    let inside : SameInput old new = search rules in
    let took : stepped D w.stacks old ≡ Some (typed_state u, rest new) = c.told_op-told.ensures.took taken in
    let step : stepped C w.stacks old ≡ Some (typed_state u, rest new) = subst (λ (X : Context UnpackedIndex). stepped X w.stacks old ≡ Some (typed_state u, rest new)) there took in
    let led : LeadsOn E u old new count T U = search (rules, tests) in
    let leads : LeadsOn C u old new count T U = subst (λ (X : Context UnpackedIndex). LeadsOn X u old new count T U) behind led in
    let advances : Advances (world C) (within w C) (typed_state w) T (place_of_next old) (rest old) (typed_state u) U (place_of_next new) (rest new) = leads.advances w inside (sym counted) step in
    record {
      reaches = table_more C v w old c.operators.invariant.kept u c.args.reader.now new (shown c.args.table.now) T U c.raise.new.height raised advances;
      few = low;
      kept = kept_on v.stacks w.stacks u.stacks c.operators.invariant.kept (search rules);
      going = search rules;
      resources = search rules;
      index = search rules;
      same = search rules;
      onward = omega (arith, further, before);
      so_far = far_more C v w old c.operators.invariant.kept far.0 all going far.2 u new far.1 inside further step;
    }

pub operators-preserved : goal.operators-preserved
operators-preserved g c =
    let C = g.T.WasmModuleResources.context c.args.validator.now.resources in
    let D = g.T.WasmModuleResources.context c.told_op-told.new.self.resources in
    let v = c.args.validator.now.validator in
    let w = c.operators.validator.validator in
    let x = c.told_op-told.new.self.validator in
    let u = c.read_left.new.validator.validator in
    let old = c.operators.ahead in
    let middle = c.told_op-told.new.reader in
    let next = c.read_left.new.reader in
    let new = c.go_on_from.new.self in
    let T = shown c.operators.table in
    let U = shown c.read_left.new.table in
    let all = instructions_from (world C) (within v C) (typed_state v) (rest c.args.reader.now) in
    let far = c.operators.invariant.so_far in
    let count = c.len_operands-count.result in
    let counted : count ≡ length (typed_state w).operands = search rules in
    let high : c.raise.new.height ≡ max c.operators.height count = search (rules, tests) in
    let low : c.raise.new.height < 4294967295 = search (rules, tests) in
    let raised : Reaches (world C) (within v C) (typed_state v) (shown c.args.table.now) (place_of_next c.args.reader.now) (rest c.args.reader.now) (typed_state w) T c.raise.new.height (place_of_next old) (rest old) =
    table_raised C v w old c.operators.invariant.kept c.args.reader.now (shown c.args.table.now) T c.operators.height count c.raise.new.height counted high c.operators.invariant.reaches in
    let going : is_finished (typed_state w) ≡ false = cc in
    let same : c.told_op-told.new.self.resources ≡ c.args.validator.now.resources = search rules in
    let there : D ≡ C = ap (λ r. g.T.WasmModuleResources.context r) same in
    let kept : Kept w.stacks x.stacks = search rules in
    let untaken : is_taken c.told_op-told.result ≡ false = sym c.is_taken.ensures ∙ c.if-is_taken.false in
    let left : typed_state x ≡ typed_state w = c.told_op-told.ensures.left untaken in
    let unread : middle ≡ old = c.told_op-told.ensures.unread untaken in
    let first : SameInput middle next = search rules in
    let second : SameInput middle new = search rules in
    let inside : SameInput old new = search rules in
    let position : position_in new ≡ position_in next = search rules in
    let more : rest new ≡ rest next = search rules in
    let went : position_in middle < position_in next = search rules in
    let further : position_in old < position_in new = omega (arith, went, position, ap position_in unread) in
    let before = c.operators.invariant.onward in
    let there_first : Advances (world D) (within x D) (typed_state x) T (place_of_next middle) (rest middle) (typed_state u) U (place_of_next next) (rest next) = c.in-Ok.ensures.advances in
    let from_old : Advances (world C) (within w C) (typed_state w) T (place_of_next old) (rest old) (typed_state u) U (place_of_next next) (rest next) =
    advances_from C D w x old middle T U (typed_state u) (place_of_next next) (rest next) there kept left unread there_first in
    let advances : Advances (world C) (within w C) (typed_state w) T (place_of_next old) (rest old) (typed_state u) U (place_of_next new) (rest new) =
    advances_on C w u T U (place_of_next old) (rest old) next new (place_stays middle next new first second position) more from_old in
    let took : stepped D x.stacks middle ≡ Some (typed_state u, rest next) = c.in-Ok.ensures.took in
    let step : stepped C w.stacks old ≡ Some (typed_state u, rest new) = sym (stepped_same C D w x old middle there kept left unread) ∙ took ∙ ap (λ xs. Some (typed_state u, xs)) (sym more) in
    record {
      reaches = table_more C v w old c.operators.invariant.kept u c.args.reader.now new (shown c.args.table.now) T U c.raise.new.height raised advances;
      few = low;
      kept = kept_on v.stacks w.stacks u.stacks c.operators.invariant.kept (kept_on w.stacks x.stacks u.stacks kept (search rules));
      going = search rules;
      resources = search rules;
      index = search rules;
      same = search rules;
      onward = omega (arith, further, before);
      so_far = far_more C v w old c.operators.invariant.kept far.0 all going far.2 u new far.1 inside further step;
    }

pub returns-in-Err-clause-took : goal.returns-in-Err-clause-took
returns-in-Err-clause-took g c =
    let C = g.T.WasmModuleResources.context c.args.validator.now.resources in
    let D = g.T.WasmModuleResources.context c.told_op-told.new.self.resources in
    let v = c.args.validator.now.validator in
    let w = c.operators.validator.validator in
    let x = c.told_op-told.new.self.validator in
    let u = c.read_left.new.validator.validator in
    let old = c.operators.ahead in
    let middle = c.told_op-told.new.reader in
    let next = c.read_left.new.reader in
    let e = c.in-Err.error in
    let all = instructions_from (world C) (within v C) (typed_state v) (rest c.args.reader.now) in
    let far = c.operators.invariant.so_far in
    let going : is_finished (typed_state w) ≡ false = cc in
    let same : c.told_op-told.new.self.resources ≡ c.args.validator.now.resources = search rules in
    let there : D ≡ C = ap (λ r. g.T.WasmModuleResources.context r) same in
    let kept : Kept w.stacks x.stacks = search rules in
    let untaken : is_taken c.told_op-told.result ≡ false = sym c.is_taken.ensures ∙ c.if-is_taken.false in
    let left : typed_state x ≡ typed_state w = c.told_op-told.ensures.left untaken in
    let unread : middle ≡ old = c.told_op-told.ensures.unread untaken in
    let step : ReadsStep (Err e) (stepped C w.stacks old) (typed_state u) (rest next) =
    subst (λ o. ReadsStep (Err e) o (typed_state u) (rest next)) (stepped_same C D w x old middle there kept left unread) c.in-Err.ensures.took in
    far_stopped C v w old c.operators.invariant.kept far.0 all going far.2 e (typed_state u) (typed_state u) (rest next) (rest c.args.reader.now) step

pub returns-clause-reaches : goal.returns-clause-reaches
returns-clause-reaches g c =
    let C = g.T.WasmModuleResources.context c.args.validator.now.resources in
    let v = c.args.validator.now.validator in
    let w = c.operators.validator.validator in
    let old = c.operators.ahead in
    let new = c.go_on_from-2.new.self in
    let S = shown c.args.table.now in
    let first = c.args.reader.now in
    let t = c.set_operands.new.self in
    let n = c.raise-2.new.height in
    let count = c.len_operands.result in
    let counted : count ≡ length (typed_state w).operands = search rules in
    let high : n ≡ max c.operators.height count = search (rules, tests) in
    let raised : Reaches (world C) (within v C) (typed_state v) S (place_of_next first) (rest first) (typed_state w) (shown c.operators.table) n (place_of_next old) (rest old) =
    table_raised C v w old c.operators.invariant.kept first S (shown c.operators.table) c.operators.height count n counted high c.operators.invariant.reaches in
    let same : SameInput first new = search rules in
    let more : rest new ≡ rest old = search rules in
    let place : place_of_next new ≡ place_of_next old = search (rules, arith) in
    let kept : shown t ≡ shown c.operators.table = ap (λ x. shown x) c.set_operands.ensures in
    let many : t.operands ≡ n = ap (λ x. x.operands) c.set_operands.ensures in
    rw kept (rw many (rw place (rw more raised)))
