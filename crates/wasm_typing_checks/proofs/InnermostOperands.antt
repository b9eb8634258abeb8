-- Operands that are known to be of given types, where they stand in the innermost frame.
use Rattle.std.proofs.Common.{◌≡◌, ℕ, ◌+◌, ◌-◌, ◌≤◌, true, List, [], ◌∷◌, length, drop, map, refl, sym, ◌∙◌, ap, arith}
use Rattle.std.specs.Prelude.{suc, slice_get, Some}
use Rattle.std.proofs.lemmas.List.{length-drop, length-map}
use Rattle.wasm_validator_resources.specs.WasmReadersTypes.WasmReadersValues.declared.indices.UnpackedIndex.{UnpackedIndex}
use Rattle.wasm_validator_resources.specs.WasmSpec.Syntax.{Val}
use Rattle.wasm_validator_resources.specs.WasmSpecRules.Contexts.{Context}
use Rattle.wasm_validator_resources.specs.Answers.{world}
use Rattle.wasm_typing_stacks.specs.WasmSpecSteps.Machine.{Frame, State, known, pop_any, pop_val, pop_vals, push_vals}
use Rattle.wasm_typing_stacks.specs.BodyStacks.{below, state_of}
use Rattle.wasm_typing_stacks.specs.SeenBlocks.{frame_of}
use Rattle.wasm_typing_stacks.specs.SeenOperands.{operand_of}
use Rattle.wasm_typing_stacks.specs.declared.stacks.Stacks.{Stacks}
use Rattle.wasm_typing_checks.proofs.OperandMatches.{known_matches}
use Rattle.wasm_typing_checks.proofs.OperandLookups.{differ, one_popped}

module _ (C : Context UnpackedIndex) (x : Frame UnpackedIndex) where
  -- one that was pushed is popped again
  any_again : (v : Val UnpackedIndex) (s : State UnpackedIndex) → slice_get s.frames 0 ≡ Some x → x.height ≤ length s.operands → pop_any (record s { operands = known v ∷ s.operands }) ≡ Some (known v, s)
  any_again v s e h = rw (e, differ (suc (length s.operands)) x.height (λ q. absurd (omega (arith, q, h)))) refl

  one_again : (v : Val UnpackedIndex) (s : State UnpackedIndex) → slice_get s.frames 0 ≡ Some x → x.height ≤ length s.operands → pop_val (world C) v (record s { operands = known v ∷ s.operands }) ≡ Some s
  one_again v s e h = one_popped (world C) v (record s { operands = known v ∷ s.operands }) s (known v) (any_again v s e h) (known_matches C (known v) v refl)

  -- and so are many
  pub many_again : (vs : List (Val UnpackedIndex)) (s : State UnpackedIndex) → slice_get s.frames 0 ≡ Some x → x.height ≤ length s.operands → pop_vals (world C) vs (push_vals vs s) ≡ Some s
  many_again [] s e h = refl
  many_again (v ∷ vs) s e h =
      let l : x.height ≤ suc (length s.operands) = omega (arith, h) in
      rw (many_again vs (record s { operands = known v ∷ s.operands }) e l) (one_again v s e h)

first_frame : {A : Type 0} (v : Stacks A) → v.is_open ≡ true → slice_get (state_of v).frames 0 ≡ Some (frame_of v.frame)
first_frame v e = rw e refl

-- those that stand where they would be pushed are popped
pub found : {A : Type 0} (v : Stacks A) (C : Context UnpackedIndex) (vs : List (Val UnpackedIndex)) (taken n count height above : ℕ) → v.is_open ≡ true → push_vals vs (below (taken + n) (state_of v)) ≡ below taken (state_of v)
    → count ≡ length v.operands → height ≡ v.frame.height → above ≡ count - height → height ≤ count → taken ≤ above → n ≤ above - taken → pop_vals (world C) vs (below taken (state_of v)) ≡ Some (below (taken + n) (state_of v))
found v C vs taken n count height above e there c h a i j k =
    let l : length (drop (taken + n) (map operand_of v.operands)) ≡ length v.operands - (taken + n) = length-drop (taken + n) (map operand_of v.operands) ∙ ap (λ m. m - (taken + n)) (length-map v.operands operand_of) in
    let b : v.frame.height ≤ length (drop (taken + n) (map operand_of v.operands)) = rw l (omega arith) in
    ap (pop_vals (world C) vs) (sym there) ∙ many_again C (frame_of v.frame) vs (below (taken + n) (state_of v)) (first_frame v e) b

pub ruleset finds = (found)
