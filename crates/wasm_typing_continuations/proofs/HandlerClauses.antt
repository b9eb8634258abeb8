-- Handlers of operators that resume continuations.
use Rattle.std.proofs.Common.{◌≡◌, ◌<◌, ℕ, Bool, true, false, ◌&&◌, ◌==◌, List, [], ◌∷◌, length, refl, sym, ◌∙◌, ap, arith}
use Rattle.std.specs.Prelude.{Some, None}
use Rattle.std.proofs.Math.Bool.{and-true}
use Rattle.wasm_typing_control.specs.WasmSpec.Syntax.{Val}
use Rattle.wasm_typing_control.specs.WasmSpecRules.Contexts.{Context}
use Rattle.wasm_typing_control.specs.WasmSpecRules.Attempts.{front_of}
use Rattle.wasm_typing_control.specs.WasmSpecRules.Signatures.{Signature}
use Rattle.wasm_typing_control.specs.WasmReadersTypes.WasmReadersValues.declared.indices.UnpackedIndex.{UnpackedIndex}
use Rattle.wasm_typing_control.specs.WasmOperators.SeenLists.{GivesFront}
use Rattle.wasm_typing_control.specs.WasmOperators.WasmOperatorsProposals.declared.continuations.Handle.{Handle}
use Rattle.wasm_typing_control.specs.WasmOperators.WasmOperatorsProposals.declared.continuations.Handle.TheVariants.{OnLabel, OnSwitch}
use Rattle.wasm_typing_control.specs.WasmTypingChecks.WasmSpecSteps.Matching.{matches_vals}
use Rattle.wasm_typing_control.specs.WasmTypingChecks.WasmSpecSteps.Actions.{label}
use Rattle.wasm_typing_control.specs.WasmTypingChecks.WasmValidatorResources.Answers.{world, tag_in}
use Rattle.wasm_typing_control.specs.WasmTypingChecks.WasmTypingStacks.declared.stacks.Stacks.{Stacks}
use Rattle.wasm_typing_control.specs.WasmTypingChecks.Steps.{typed}
use Rattle.wasm_typing_continuations.specs.ContinuationLookups.{last_continued}
use Rattle.wasm_typing_continuations.specs.HandlerTypes.{all_handled}

module _ {V : Type 0} where
  front_given : (xs after : List V) (x : V) → GivesFront xs (Some x) after → xs ≡ x ∷ after
  front_given [] after x h = cc
  front_given (y ∷ xs) after x h = let e : y ≡ x = cc in let f : xs ≡ after = cc in rw (e, f) refl

  none_left : (xs after : List V) → GivesFront xs None after → xs ≡ []
  none_left [] after h = refl
  none_left (x ∷ xs) after h = cc

  pub fewer : (xs after : List V) (x : V) → GivesFront xs (Some x) after → length after < length xs
  fewer xs after x h = let e = front_given xs after x h in rw e (omega arith)

module _ {A : Type 0} (v : Stacks A) (C : Context UnpackedIndex) (rs : List (Val UnpackedIndex)) where
  -- a handler of suspensions
  pub no_tag : (x l : ℕ) → tag_in C x ≡ None → false ≡ all_handled v C rs (OnLabel x l ∷ [])
  unfolding all_handled
  no_tag x l e = rw e refl

  pub no_label : (x l : ℕ) (t : Signature UnpackedIndex) → tag_in C x ≡ Some t → typed v C (label l) ≡ None → false ≡ all_handled v C rs (OnLabel x l ∷ [])
  unfolding all_handled
  no_label x l t e f = rw (e, f) refl

  pub no_continuation : (x l : ℕ) (t : Signature UnpackedIndex) (ls : List (Val UnpackedIndex)) → tag_in C x ≡ Some t → typed v C (label l) ≡ Some ls → None ≡ last_continued C ls → false ≡ all_handled v C rs (OnLabel x l ∷ [])
  unfolding all_handled
  no_continuation x l t ls e f g = rw (e, f, ← g) refl

  -- what continues from it, and what is sent to the label
  label_by : (x l : ℕ) (t g : Signature UnpackedIndex) (ls : List (Val UnpackedIndex)) → tag_in C x ≡ Some t → typed v C (label l) ≡ Some ls → Some g ≡ last_continued C ls
      → all_handled v C rs (OnLabel x l ∷ []) ≡ ((matches_vals (world C) g.takes t.gives && matches_vals (world C) rs g.gives) && matches_vals (world C) t.takes (front_of ls))
  unfolding all_handled
  label_by x l t g ls e f h = rw (e, f, ← h) (and-true _)

  pub continues_otherwise : (x l : ℕ) (t g : Signature UnpackedIndex) (ls : List (Val UnpackedIndex)) (c : Bool) → tag_in C x ≡ Some t → typed v C (label l) ≡ Some ls → Some g ≡ last_continued C ls
      → c ≡ (matches_vals (world C) g.takes t.gives && matches_vals (world C) rs g.gives) → c ≡ false → false ≡ all_handled v C rs (OnLabel x l ∷ [])
  continues_otherwise x l t g ls c e f h k n = sym (label_by x l t g ls e f h ∙ ap (λ b. b && matches_vals (world C) t.takes (front_of ls)) (sym k ∙ n))

  pub label_suits : (x l : ℕ) (t g : Signature UnpackedIndex) (ls ws : List (Val UnpackedIndex)) (c d b : Bool) → tag_in C x ≡ Some t → typed v C (label l) ≡ Some ls → Some g ≡ last_continued C ls
      → c ≡ (matches_vals (world C) g.takes t.gives && matches_vals (world C) rs g.gives) → c ≡ true → ws ≡ front_of ls → d ≡ matches_vals (world C) t.takes ws → d ≡ b → b ≡ all_handled v C rs (OnLabel x l ∷ [])
  label_suits x l t g ls ws c d b e f h k n m i j =
      sym (label_by x l t g ls e f h ∙ ap (λ a. a && matches_vals (world C) t.takes (front_of ls)) (sym k ∙ n) ∙ ap (matches_vals (world C) t.takes) (sym m) ∙ sym i ∙ j)

  -- a handler of switches
  pub no_switch : (x : ℕ) → tag_in C x ≡ None → false ≡ all_handled v C rs (OnSwitch x ∷ [])
  unfolding all_handled
  no_switch x e = rw e refl

  pub switch_suits : (x : ℕ) (t : Signature UnpackedIndex) (c b : Bool) → tag_in C x ≡ Some t → c ≡ ((length t.takes == 0) && matches_vals (world C) t.gives rs) → c ≡ b → b ≡ all_handled v C rs (OnSwitch x ∷ [])
  unfolding all_handled
  switch_suits x t c b e f h = rw e (sym h ∙ f ∙ sym (and-true _))

  -- one after another
  apart : (h : Handle) (hs : List Handle) → all_handled v C rs (h ∷ hs) ≡ (all_handled v C rs (h ∷ []) && all_handled v C rs hs)
  unfolding all_handled
  apart h hs = ap (λ b. b && all_handled v C rs hs) (sym (and-true _))

  pub passed_on : (all xs after : List Handle) (h : Handle) → all_handled v C rs all ≡ all_handled v C rs xs → GivesFront xs (Some h) after → true ≡ all_handled v C rs (h ∷ []) → all_handled v C rs all ≡ all_handled v C rs after
  passed_on all xs after h e f t = e ∙ ap (λ hs. all_handled v C rs hs) (front_given xs after h f) ∙ apart h after ∙ ap (λ b. b && all_handled v C rs after) (sym t)

  pub stopped_at : (all xs after : List Handle) (h : Handle) → all_handled v C rs all ≡ all_handled v C rs xs → GivesFront xs (Some h) after → false ≡ all_handled v C rs (h ∷ []) → false ≡ all_handled v C rs all
  stopped_at all xs after h e f t = sym (e ∙ ap (λ hs. all_handled v C rs hs) (front_given xs after h f) ∙ apart h after ∙ ap (λ b. b && all_handled v C rs after) (sym t))

  pub all_passed : (all xs after : List Handle) → all_handled v C rs all ≡ all_handled v C rs xs → GivesFront xs None after → true ≡ all_handled v C rs all
  unfolding all_handled
  all_passed all xs after e h = sym (e ∙ ap (λ hs. all_handled v C rs hs) (none_left xs after h))

pub ruleset handlers = (no_tag, no_label, no_continuation, continues_otherwise, label_suits, no_switch, switch_suits)

pub ruleset lists = (fewer, passed_on, stopped_at, all_passed)
