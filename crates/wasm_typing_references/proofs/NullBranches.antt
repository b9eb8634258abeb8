-- Branches on null.
use Rattle.std.proofs.Common.{◌≡◌, ℕ, Bool, true, false, ◌==◌, List, [], ◌∷◌, length, refl, sym, ◌∙◌, ap, arith}
use Rattle.std.specs.Prelude.{suc, Some, None, Option}
use Rattle.std.proofs.lemmas.Bool.Decides.{nat_tests}
use Rattle.wasm_typing_control.specs.WasmSpec.Syntax.{Val}
use Rattle.wasm_typing_control.specs.WasmSpec.MatchingTests.{World}
use Rattle.wasm_typing_control.specs.WasmTypingChecks.WasmSpecRules.Contexts.{Context}
use Rattle.wasm_typing_control.specs.WasmReadersTypes.WasmReadersValues.declared.indices.UnpackedIndex.{UnpackedIndex}
use Rattle.wasm_typing_control.specs.WasmTypingChecks.WasmSpecSteps.Actions.{label, last, front, Action, take, give, make_non_null, branch_on_null}
use Rattle.wasm_typing_control.specs.WasmTypingChecks.WasmSpecRules.Attempts.{◌>>=◌, last_of, front_of}
use Rattle.wasm_typing_control.specs.WasmTypingChecks.WasmSpecSteps.Bodies.{Surroundings}
use Rattle.wasm_typing_control.specs.WasmTypingChecks.WasmSpecSteps.Machine.{Operand, Frame, State, as_reference, bottom, matches_operand, non_null, pop_any, pop_reference, pop_vals, popped, push_operand, push_vals}
use Rattle.wasm_typing_control.specs.WasmTypingChecks.WasmSpecSteps.Meanings.{label_at, run}
use Rattle.wasm_typing_control.proofs.WasmTypingChecks.WasmSpecSteps.OperandSequences.{types_at-frames, pop_any-frames, pop_vals-frames}
use Rattle.wasm_typing_control.specs.WasmTypingChecks.WasmValidatorResources.Answers.{world}
use Rattle.wasm_typing_control.specs.WasmTypingChecks.WasmTypingStacks.BodyStacks.{state_of, around}
use Rattle.wasm_typing_control.specs.WasmTypingChecks.WasmTypingStacks.declared.stacks.Stacks.{Stacks}
use Rattle.wasm_typing_control.specs.WasmTypingChecks.Steps.{acted, typed}

-- an operand that was taken, and the state without it
abbrev Popped : Type 0
Popped = Operand UnpackedIndex × State UnpackedIndex

some_same : (p q : Popped) → Some p ≡ Some q → p ≡ q
some_same p q e = cc

none_is : (p : Popped) → None ≡ Some p → ⊥
none_is p e = cc

abbrev as_popped : Operand UnpackedIndex → State UnpackedIndex → Option Popped
as_popped x s = Some (x, s)

same_state : (x z : Operand UnpackedIndex) (s t : State UnpackedIndex) → as_popped z s ≡ as_popped x t → s ≡ t
same_state x z s t e = ap (λ (p : Popped). p.1) (some_same (z, s) (x, t) e)

-- a reference was an operand
as_some : (q : Option (Operand UnpackedIndex)) (r t : State UnpackedIndex) (x : Operand UnpackedIndex) → ◌>>=◌ {B = Popped} q (λ y. Some (y, r)) ≡ Some (x, t) → r ≡ t
as_some None r t x e = absurd (none_is (x, t) e)
as_some (Some y) r t x e = same_state x y r t e

referred : (o : Option Popped) (x : Operand UnpackedIndex) (t : State UnpackedIndex) → ◌>>=◌ {B = Popped} o (λ p. ◌>>=◌ {B = Popped} (as_reference p.0) (λ y. Some (y, p.1))) ≡ Some (x, t) → (z : Operand UnpackedIndex) × (o ≡ Some (z, t))
referred None x t e = absurd (none_is (x, t) e)
referred (Some p) x t e = (p.0, ap (λ (r : State UnpackedIndex). as_popped p.0 r) (as_some (as_reference p.0) p.1 t x e))

-- an operand that is put back on top can be taken again
above : (n h : ℕ) → (n == h) ≡ true → (suc n == h) ≡ false
above n h e = grind (arith, nat_tests)

abbrev stacked : List (Operand UnpackedIndex) → List (Frame UnpackedIndex) → List ℕ → State UnpackedIndex
stacked xs fs is = record { operands = xs; frames = fs; inits = is }

put_back : (b u : Bool) (f : Frame UnpackedIndex) (fs : List (Frame UnpackedIndex)) (xs : List (Operand UnpackedIndex)) (is : List ℕ) (x y : Operand UnpackedIndex) (t : State UnpackedIndex) → (length xs == f.height) ≡ b
    → popped b u xs (stacked xs (f ∷ fs) is) ≡ Some (x, t) → pop_any (push_operand y t) ≡ Some (y, t)
put_back true true f fs xs is x y t h e =
    let q : stacked xs (f ∷ fs) is ≡ t = same_state x bottom (stacked xs (f ∷ fs) is) t e in
    rw (← q, above (length xs) f.height h) refl
put_back true false f fs xs is x y t h e = absurd (none_is (x, t) e)
put_back false u f fs [] is x y t h e = absurd (none_is (x, t) e)
put_back false u f fs (z ∷ zs) is x y t h e =
    let q : stacked zs (f ∷ fs) is ≡ t = same_state x z (stacked zs (f ∷ fs) is) t e in
    rw (← q, h) refl

again_in : (fs : List (Frame UnpackedIndex)) (xs : List (Operand UnpackedIndex)) (is : List ℕ) (x y : Operand UnpackedIndex) (t : State UnpackedIndex) → pop_any (stacked xs fs is) ≡ Some (x, t) → pop_any (push_operand y t) ≡ Some (y, t)
again_in [] xs is x y t e = absurd (none_is (x, t) e)
again_in (f ∷ fs) xs is x y t e = put_back (length xs == f.height) f.unreachable f fs xs is x y t refl e

again : (s t : State UnpackedIndex) (x y : Operand UnpackedIndex) → pop_any s ≡ Some (x, t) → pop_any (push_operand y t) ≡ Some (y, t)
again s t x y e = again_in s.frames s.operands s.inits x y t e

module _ (W : World UnpackedIndex) (B : Surroundings UnpackedIndex) (l : ℕ) (s : State UnpackedIndex) where
  abbrev sending : List Action
  sending = make_non_null ∷ take (last (label l)) ∷ take (front (label l)) ∷ give (front (label l)) ∷ []

  -- labels are the same behind a reference that was taken
  same_label : (x : Operand UnpackedIndex) (t : State UnpackedIndex) (o : Option (List (Val UnpackedIndex))) → pop_reference s ≡ Some (x, t) → label_at W B s l ≡ o → label_at W B t l ≡ o
  same_label x t o e f =
      let z = referred (pop_any s) x t e in
      types_at-frames W B s t (pop_any-frames s (z.0, t) z.1).0 (label l) ∙ f

  none_sent : pop_reference s ≡ None → run W B sending s ≡ None
  none_sent e = rw e refl

  unlabeled : (o : Option (Operand UnpackedIndex × State UnpackedIndex)) → pop_reference s ≡ o → label_at W B s l ≡ None → run W B sending s ≡ None
  unlabeled None e f = rw e refl
  unlabeled (Some p) e f = let k = same_label p.0 p.1 None e f in rw (e, k) refl

  module _ (x : Operand UnpackedIndex) (t : State UnpackedIndex) (vs : List (Val UnpackedIndex)) (e : pop_reference s ≡ Some (x, t)) (f : label_at W B s l ≡ Some vs) where
    top_again : pop_any (push_operand (non_null x) t) ≡ Some (non_null x, t)
    top_again = let z = referred (pop_any s) x t e in again s t z.0 (non_null x) z.1

    without_last : last_of vs ≡ None → run W B sending s ≡ None
    without_last g = let k = same_label x t (Some vs) e f in rw (e, k, g) refl

    not_sent : (w : Val UnpackedIndex) → last_of vs ≡ Some w → matches_operand W (non_null x) w ≡ false → run W B sending s ≡ None
    not_sent w g h =
        let k = same_label x t (Some vs) e f in
        let r = top_again in
        rw (e, k, g, r, h) refl

    front_missing : (w : Val UnpackedIndex) → last_of vs ≡ Some w → matches_operand W (non_null x) w ≡ true → pop_vals W (front_of vs) t ≡ None → run W B sending s ≡ None
    front_missing w g h i =
        let k = same_label x t (Some vs) e f in
        let r = top_again in
        rw (e, k, g, r, h, k, i) refl

    is_sent : (w : Val UnpackedIndex) (u : State UnpackedIndex) → last_of vs ≡ Some w → matches_operand W (non_null x) w ≡ true → pop_vals W (front_of vs) t ≡ Some u → run W B sending s ≡ Some (push_vals (front_of vs) u)
    is_sent w u g h i =
        let k = same_label x t (Some vs) e f in
        let m : label_at W B u l ≡ Some vs = types_at-frames W B t u (pop_vals-frames W (front_of vs) t u i).0 (label l) ∙ k in
        let r = top_again in
        rw (e, k, g, r, h, k, i, m) refl

module _ {A : Type 0} (v : Stacks A) (C : Context UnpackedIndex) (l : ℕ) where
  pub none_on_null : pop_reference (state_of v) ≡ None → acted v C (branch_on_null l ∷ []) ≡ None
  unfolding acted
  none_on_null e = rw e refl

  pub unlabeled_on_null : (x : Operand UnpackedIndex) (t : State UnpackedIndex) → pop_reference (state_of v) ≡ Some (x, t) → typed v C (label l) ≡ None → acted v C (branch_on_null l ∷ []) ≡ None
  unfolding acted typed
  unlabeled_on_null x t e f = rw (e, f) refl

  pub missing_on_null : (x : Operand UnpackedIndex) (t : State UnpackedIndex) (vs : List (Val UnpackedIndex)) → pop_reference (state_of v) ≡ Some (x, t) → typed v C (label l) ≡ Some vs → pop_vals (world C) vs t ≡ None → acted v C (branch_on_null l ∷ []) ≡ None
  unfolding acted typed
  missing_on_null x t vs e f g = rw (e, f, g) refl

  pub branched_on_null : (x y : Operand UnpackedIndex) (t u new : State UnpackedIndex) (vs : List (Val UnpackedIndex)) → pop_reference (state_of v) ≡ Some (x, t) → typed v C (label l) ≡ Some vs → pop_vals (world C) vs t ≡ Some u → y ≡ non_null x → new ≡ push_operand y (push_vals vs u)
      → acted v C (branch_on_null l ∷ []) ≡ Some new
  unfolding acted typed
  branched_on_null x y t u new vs e f g h i = rw (e, f, g, i, h) refl

  abbrev sent : List Action
  sent = make_non_null ∷ take (last (label l)) ∷ take (front (label l)) ∷ give (front (label l)) ∷ []

  pub none_on_other : pop_reference (state_of v) ≡ None → acted v C sent ≡ None
  unfolding acted
  none_on_other e = none_sent (world C) (around v C) l (state_of v) e

  pub unlabeled_on_other : typed v C (label l) ≡ None → acted v C sent ≡ None
  unfolding acted typed
  unlabeled_on_other e = unlabeled (world C) (around v C) l (state_of v) (pop_reference (state_of v)) refl e

  pub last_on_other : (x : Operand UnpackedIndex) (t : State UnpackedIndex) (vs : List (Val UnpackedIndex)) → pop_reference (state_of v) ≡ Some (x, t) → typed v C (label l) ≡ Some vs → None ≡ last_of vs → acted v C sent ≡ None
  unfolding acted typed
  last_on_other x t vs e f g = without_last (world C) (around v C) l (state_of v) x t vs e f (sym g)

  pub unmatched_on_other : (x y : Operand UnpackedIndex) (t : State UnpackedIndex) (vs : List (Val UnpackedIndex)) (w : Val UnpackedIndex) (b : Bool) → pop_reference (state_of v) ≡ Some (x, t) → typed v C (label l) ≡ Some vs → Some w ≡ last_of vs
      → y ≡ non_null x → b ≡ matches_operand (world C) y w → b ≡ false → acted v C sent ≡ None
  unfolding acted typed
  unmatched_on_other x y t vs w b e f g h i j = not_sent (world C) (around v C) l (state_of v) x t vs e f w (sym g) (rw (← h, ← i) j)

  pub missing_on_other : (x y : Operand UnpackedIndex) (t : State UnpackedIndex) (vs ws : List (Val UnpackedIndex)) (w : Val UnpackedIndex) (b : Bool) → pop_reference (state_of v) ≡ Some (x, t) → typed v C (label l) ≡ Some vs → Some w ≡ last_of vs
      → y ≡ non_null x → b ≡ matches_operand (world C) y w → b ≡ true → ws ≡ front_of vs → pop_vals (world C) ws t ≡ None → acted v C sent ≡ None
  unfolding acted typed
  missing_on_other x y t vs ws w b e f g h i j k m = front_missing (world C) (around v C) l (state_of v) x t vs e f w (sym g) (rw (← h, ← i) j) (rw (← k) m)

  pub branched_on_other : (x y : Operand UnpackedIndex) (t u new : State UnpackedIndex) (vs ws : List (Val UnpackedIndex)) (w : Val UnpackedIndex) (b : Bool) → pop_reference (state_of v) ≡ Some (x, t) → typed v C (label l) ≡ Some vs → Some w ≡ last_of vs
      → y ≡ non_null x → b ≡ matches_operand (world C) y w → b ≡ true → ws ≡ front_of vs → pop_vals (world C) ws t ≡ Some u → new ≡ push_vals ws u → acted v C sent ≡ Some new
  unfolding acted typed
  branched_on_other x y t u new vs ws w b e f g h i j k m n =
      let r = is_sent (world C) (around v C) l (state_of v) x t vs e f w u (sym g) (rw (← h, ← i) j) (rw (← k) m) in
      rw (n, k) r

pub ruleset branches = (none_on_null, unlabeled_on_null, missing_on_null, branched_on_null, none_on_other, unlabeled_on_other, last_on_other, unmatched_on_other, missing_on_other, branched_on_other)
