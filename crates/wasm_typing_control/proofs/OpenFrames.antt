-- Frames that are opened.
use Rattle.std.proofs.Common.{◌≡◌, ℕ, ◌-◌, List, length, drop, refl, sym, ◌∙◌, ap, arith}
use Rattle.std.specs.Prelude.{Some, None}
use Rattle.std.proofs.lemmas.List.{length-drop}
use Rattle.wasm_readers_types.specs.WasmSpec.Syntax.{Val}
use Rattle.wasm_readers_types.specs.WasmSpec.MatchingTests.{World}
use Rattle.wasm_readers_types.specs.WasmReadersValues.declared.indices.UnpackedIndex.{UnpackedIndex}
use Rattle.wasm_typing_numbers.specs.WasmOperators.Control.{Block}
use Rattle.wasm_typing_numbers.specs.WasmSpecSteps.Machine.{Kind, State, pop_vals, push_vals}
use Rattle.wasm_typing_numbers.specs.WasmTypingStacks.BodyStacks.{below, with_frame}
use Rattle.wasm_typing_control.specs.FrameEntries.{entered}

module _ (W : World UnpackedIndex) (k : Kind) (b : Block UnpackedIndex) (vs : List (Val UnpackedIndex)) where
  pub not_entered : (s : State UnpackedIndex) → pop_vals W vs s ≡ None → entered W k b vs s ≡ None
  unfolding entered
  not_entered s e = rw e refl

  pub is_entered : (n taken : ℕ) (s mid new : State UnpackedIndex) → pop_vals W vs (below n s) ≡ Some (below taken s) → mid ≡ with_frame k b taken s → new ≡ push_vals vs (below taken mid) → entered W k b vs (below n s) ≡ Some new
  unfolding entered
  is_entered n taken s mid new e f g = rw (e, g, f, length-drop taken s.operands) refl

  -- over operands that stand where they would be given
  pub is_entered_over : (n taken : ℕ) (s mid new : State UnpackedIndex) → pop_vals W vs (below n s) ≡ Some (below taken s) → push_vals vs (below taken s) ≡ below n s → mid ≡ with_frame k b taken s → new ≡ below n mid → entered W k b vs (below n s) ≡ Some new
  is_entered_over n taken s mid new e there f g =
      let h : push_vals vs (below taken mid) ≡ below n mid = rw f (ap (λ (t : State UnpackedIndex). record (with_frame k b taken s) { operands = t.operands }) there) in
      is_entered n taken s mid new e f (g ∙ sym h)

nothing_dropped : (n : ℕ) (xs : List ℕ) → n ≡ length xs → drop (length xs - n) xs ≡ xs
nothing_dropped n xs e = let q : length xs - n ≡ 0 = omega arith in rw q refl

-- and closed again
pub undone : (k : Kind) (b : Block UnpackedIndex) (taken h : ℕ) (s mid last new : State UnpackedIndex) → mid ≡ with_frame k b taken s → last ≡ mid → h ≡ length s.inits → new ≡ record last { frames = drop 1 last.frames; inits = drop (length last.inits - h) last.inits } → new ≡ s
undone k b taken h s mid last new e f g i = rw (i, f, e) (ap (λ xs. record s { inits = xs }) (nothing_dropped h s.inits g))

pub ruleset enters = (not_entered, is_entered, undone)
