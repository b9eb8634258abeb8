-- What `ref.get_desc` takes and gives, within one frame.
use Rattle.std.proofs.Common.{◌≡◌, refl, sym, ap, ◌∙◌, Bool, true, false, [], ◌∷◌, Option, Some, None}
use Rattle.wasm_spec_steps.specs.WasmSpecRules.WasmSpec.Syntax.{Heap, concrete, exact, Val}
use Rattle.wasm_spec_steps.specs.WasmSpecRules.WasmSpec.MatchingTests.{World}
use Rattle.wasm_spec_steps.specs.Machine.{known, matches_operand}
use Rattle.wasm_spec_instructions.specs.ValueTypes.{reference_at}
use Rattle.wasm_spec_instructions.proofs.Attempts.{the_same, absent, bind-gives, guard-gives}
use Rattle.wasm_spec_instructions.proofs.FrameMachine.{Stack, lpop, matched, lpops, lput, ldescribed_by, ldescribed}

-- a type itself, exactly or not
abbrev pub at_type : {R : Type 0} → Bool → R → Heap R
at_type true a = exact a
at_type false a = concrete a

-- whether it was a reference to exactly the type, what was left below it, and what was put there
pub record Described {R : Type 0} (W : World R) (a b : R) (p q : Stack R) : Type 0 where
  pub exactly : Bool
  pub left : Stack R
  pub pops : lpops W (reference_at true (at_type exactly a) ∷ []) p ≡ Some left
  pub is : lput (known (reference_at false (at_type exactly b))) left ≡ q

module _ {R : Type 0} (W : World R) where
  described-by :
      (a b : R) (p q : Stack R) (o r : Option (Stack R)) → lpops W (reference_at true (exact a) ∷ []) p ≡ o → lpops W (reference_at true (concrete a) ∷ []) p ≡ r
      → ldescribed_by b o r ≡ Some q → Described W a b p q
  described-by a b p q (Some x) r e f g = record { exactly = true; left = x; pops = e; is = the_same (lput (known (reference_at false (exact b))) x) q g }
  described-by a b p q None (Some x) e f g = record { exactly = false; left = x; pops = f; is = the_same (lput (known (reference_at false (concrete b))) x) q g }
  described-by a b p q None None e f g = absurd (absent q g)

  pub described-gives : (a b : R) (p q : Stack R) → ldescribed W a b p ≡ Some q → Described W a b p q
  described-gives a b p q e = described-by a b p q (lpops W (reference_at true (exact a) ∷ []) p) (lpops W (reference_at true (concrete a) ∷ []) p) refl refl e

  -- One operand leaves the same below it, whatever type it is taken for.
  pub left-same : (v w : Val R) (p q r : Stack R) → lpops W (v ∷ []) p ≡ Some q → lpops W (w ∷ []) p ≡ Some r → q ≡ r
  left-same v w p q r e f =
      let a = bind-gives (lpop p) (matched W v) q e in
      let b = bind-gives (lpop p) (matched W w) r f in
      let c = guard-gives (matches_operand W a.0.0 v) a.0.1 q a.2 in
      let d = guard-gives (matches_operand W b.0.0 w) b.0.1 r b.2 in
      sym c.1 ∙ ap (λ z. z.1) (the_same a.0 b.0 (sym a.1 ∙ b.1)) ∙ d.1
