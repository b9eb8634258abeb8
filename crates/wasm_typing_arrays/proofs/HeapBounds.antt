-- References below an abstract heap type.
use Rattle.std.proofs.Common.{◌≡◌, Bool, true, false, List, [], ◌∷◌, refl, ◌∙◌, ap}
use Rattle.std.specs.Prelude.{Some, None, Option}
use Rattle.wasm_spec.specs.Matching.{is_shared_heap}
use Rattle.wasm_spec.specs.MatchingTests.{World, matches_val}
use Rattle.wasm_spec.specs.Syntax.{AbstractHeap, abstract_heap, Ref, i32, i64, f32, f64, v128, reference}
use Rattle.wasm_spec.specs.ValueTypes.{implies}
use Rattle.wasm_typing_checks.specs.WasmSpecRules.Contexts.{Context}
use Rattle.wasm_readers_types.specs.WasmReadersValues.declared.indices.UnpackedIndex.{UnpackedIndex}
use Rattle.wasm_typing_checks.specs.WasmSpecSteps.Actions.{Action, take_below, give, these}
use Rattle.wasm_typing_checks.specs.WasmSpecRules.Attempts.{◌>>=◌, guard}
use Rattle.wasm_typing_checks.specs.WasmSpecSteps.Bodies.{Surroundings}
use Rattle.wasm_typing_checks.specs.WasmSpecSteps.Machine.{Operand, bottom, bottom_reference, open_reference, known, State, push_operand, pop_any, as_reference}
use Rattle.wasm_typing_checks.specs.WasmSpecSteps.Meanings.{is_below_either, act, run}
use Rattle.wasm_typing_checks.specs.WasmValidatorResources.Answers.{world}
use Rattle.wasm_typing_checks.specs.WasmTypingStacks.BodyStacks.{state_of, around}
use Rattle.wasm_typing_checks.specs.WasmTypingStacks.declared.stacks.Stacks.{Stacks}
use Rattle.wasm_typing_checks.specs.Steps.{acted}
use Rattle.wasm_typing_arrays.specs.Lengths.{is_reference_below}

implies_true : (b : Bool) → implies b true ≡ true
implies_true true = refl
implies_true false = refl

-- a reference matches one that may be null where their heap types match
pub heaps_match : (W : World UnpackedIndex) (k : AbstractHeap) (s : Bool) (r q : Ref UnpackedIndex) (b : Bool) → s ≡ is_shared_heap W.declared r.heap
    → q ≡ record { nullable = true; heap = abstract_heap s k } → b ≡ matches_val W (reference r) (reference q)
    → b ≡ is_reference_below W k (known (reference r))
heaps_match W k s r q b e f h = rw (f, e, implies_true r.nullable) at h

pub open_match : (W : World UnpackedIndex) (j k : AbstractHeap) (p q : Ref UnpackedIndex) (b : Bool)
    → p ≡ record { nullable = true; heap = abstract_heap false j } → q ≡ record { nullable = true; heap = abstract_heap false k }
    → b ≡ matches_val W (reference p) (reference q)
    → b ≡ is_reference_below W k (open_reference j)
open_match W j k p q b e f h = rw (e, f) at h

pub ruleset kinds = (heaps_match, open_match)

-- an operand as a reference, and the state without it
abbrev referred : Operand UnpackedIndex → State UnpackedIndex → Option (Operand UnpackedIndex × State UnpackedIndex)
referred o t = as_reference o >>= λ x. Some (x, t)

-- the state without what is measured
measured : (W : World UnpackedIndex) (B : Surroundings UnpackedIndex) (k : AbstractHeap) (o : Operand UnpackedIndex) (t : State UnpackedIndex)
    → (referred o t >>= λ p. guard (is_below_either W B k p.0) p.1) ≡ guard (is_reference_below W k o) t
measured W B k bottom t = refl
measured W B k bottom_reference t = refl
measured W B k (open_reference j) t = refl
measured W B k (known i32) t = refl
measured W B k (known i64) t = refl
measured W B k (known f32) t = refl
measured W B k (known f64) t = refl
measured W B k (known v128) t = refl
measured W B k (known (reference r)) t = refl

module _ {A : Type 0} (v : Stacks A) (C : Context UnpackedIndex) where
  taken_below : (k : AbstractHeap) (o : Operand UnpackedIndex) (t : State UnpackedIndex) → pop_any (state_of v) ≡ Some (o, t)
      → act (world C) (around v C) (take_below k) (state_of v) ≡ guard (is_reference_below (world C) k o) t
  taken_below k o t e = rw e (measured (world C) (around v C) k o t)

  pub nothing_measured : (k : AbstractHeap) (rest : List Action) → pop_any (state_of v) ≡ None → acted v C (take_below k ∷ rest) ≡ None
  unfolding acted
  nothing_measured k rest e = rw e refl

  pub not_measured : (k : AbstractHeap) (rest : List Action) (o : Operand UnpackedIndex) (t : State UnpackedIndex)
      → pop_any (state_of v) ≡ Some (o, t) → is_reference_below (world C) k o ≡ false → acted v C (take_below k ∷ rest) ≡ None
  unfolding acted
  not_measured k rest o t e f = ap (λ q. q >>= run (world C) (around v C) rest) (taken_below k o t e) ∙ rw f refl

  pub is_measured : (k : AbstractHeap) (o : Operand UnpackedIndex) (t new : State UnpackedIndex) → pop_any (state_of v) ≡ Some (o, t)
      → is_reference_below (world C) k o ≡ true → new ≡ push_operand (known i32) t
      → acted v C (take_below k ∷ give (these (i32 ∷ [])) ∷ []) ≡ Some new
  unfolding acted
  is_measured k o t new e f g = ap (λ q. q >>= run (world C) (around v C) (give (these (i32 ∷ [])) ∷ [])) (taken_below k o t e) ∙ rw (f, g) refl

pub ruleset measures = (nothing_measured, not_measured, is_measured)
