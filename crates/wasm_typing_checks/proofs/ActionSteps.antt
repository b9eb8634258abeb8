-- Steps by their actions: the lemmas that families of operators stand on. Each speaks of words that don't unfold, so that `search`
-- finds them by what is written.
use Rattle.std.proofs.Common.{◌≡◌, ℕ, Bool, true, false, List, [], ◌∷◌, refl, sym, subst}
use Rattle.std.specs.Prelude.{Some, None, Option, Result, Ok, Err}
use Rattle.wasm_validator_resources.specs.WasmSpec.Syntax.{Val}
use Rattle.wasm_validator_resources.specs.WasmSpec.ValueTypes.{allows_val}
use Rattle.wasm_validator_resources.specs.WasmSpec.MatchingTests.{World}
use Rattle.wasm_validator_resources.specs.WasmSpecRules.Contexts.{Context}
use Rattle.wasm_validator_resources.specs.WasmSpecRules.FeatureFlags.{features_of}
use Rattle.wasm_validator_resources.specs.WasmReadersTypes.WasmReadersValues.declared.indices.UnpackedIndex.{UnpackedIndex}
use Rattle.wasm_validator_resources.specs.WasmSpecRules.Attempts.{◌>>=◌, guard}
use Rattle.wasm_typing_stacks.specs.WasmSpecSteps.Bodies.{Surroundings}
use Rattle.wasm_typing_stacks.specs.WasmSpecSteps.Actions.{OperandTypes, Needed, Check, has, allows, Action, need, take, give, stop}
use Rattle.wasm_typing_stacks.specs.WasmSpecSteps.Meanings.{run, types_at, holds, is_on}
use Rattle.wasm_typing_stacks.specs.WasmSpecSteps.Machine.{State, become_unreachable, pop_vals, push_vals}
use Rattle.wasm_typing_stacks.proofs.WasmSpecSteps.OperandSequences.{types_at-frames, pop_vals-frames}
use Rattle.wasm_validator_resources.specs.Answers.{world}
use Rattle.wasm_typing_stacks.specs.BodyStacks.{state_of, around}
use Rattle.wasm_typing_stacks.specs.declared.stacks.Stacks.{Stacks}
use Rattle.wasm_typing_checks.specs.Steps.{Took, acted, typed, held}
use Rattle.wasm_typing_checks.specs.SeenTypes.{exchanged, halted}
use Rattle.wasm_typing_checks.specs.declared.faults.OperatorFault.{OperatorFault}
use Rattle.wasm_typing_checks.specs.declared.faults.OperatorError.{OperatorError}
use Rattle.wasm_typing_checks.specs.declared.faults.OperatorError.TheVariants.{Refused, OutOfMemory}

-- a step of another attempt that is the same
pub took_along : (r : Result (Unit {0}) OperatorError) (o p : Option (State UnpackedIndex)) (old new : State UnpackedIndex) → p ≡ o → Took r o old new → Took r p old new
took_along r o p old new e t = subst (λ q. Took r q old new) (sym e) t

pub took_ok : (x : Unit {0}) (o : Option (State UnpackedIndex)) (old new : State UnpackedIndex) → o ≡ Some new → Took (Ok x) o old new
unfolding Took
took_ok x o old new e = e

pub took_refused : (f : OperatorFault) (o : Option (State UnpackedIndex)) (old new : State UnpackedIndex) → o ≡ None → new ≡ old → Took (Err (Refused f)) o old new
unfolding Took
took_refused f o old new e h = (e, h)

pub took_memory : (o : Option (State UnpackedIndex)) (old new : State UnpackedIndex) → new ≡ old → Took (Err OutOfMemory) o old new
unfolding Took
took_memory o old new h = h

given_after : (W : World UnpackedIndex) (B : Surroundings UnpackedIndex) (u : OperandTypes) (vs ws : List (Val UnpackedIndex)) (s : State UnpackedIndex) (o : Option (State UnpackedIndex))
    → pop_vals W vs s ≡ o → types_at W B s u ≡ Some ws → (o >>= run W B (give u ∷ [])) ≡ (o >>= λ t. Some (push_vals ws t))
given_after W B u vs ws s None p e = refl
given_after W B u vs ws s (Some t) p e = rw (types_at-frames W B s t (pop_vals-frames W vs s t p).0 u, e) refl

none_after : (W : World UnpackedIndex) (B : Surroundings UnpackedIndex) (u : OperandTypes) (vs : List (Val UnpackedIndex)) (s : State UnpackedIndex) (o : Option (State UnpackedIndex))
    → pop_vals W vs s ≡ o → types_at W B s u ≡ None → (o >>= run W B (give u ∷ [])) ≡ None
none_after W B u vs s None p e = refl
none_after W B u vs s (Some t) p e = rw (types_at-frames W B s t (pop_vals-frames W vs s t p).0 u, e) refl

none_given : (W : World UnpackedIndex) (B : Surroundings UnpackedIndex) (t u : OperandTypes) (s : State UnpackedIndex) (o : Option (List (Val UnpackedIndex))) → types_at W B s t ≡ o → types_at W B s u ≡ None → run W B (take t ∷ give u ∷ []) s ≡ None
none_given W B t u s None p e = rw p refl
none_given W B t u s (Some vs) p e = rw p (none_after W B u vs s (pop_vals W vs s) refl e)

and_then_some : {X : Type 0} (o : Option X) → (o >>= Some) ≡ o
and_then_some None = refl
and_then_some (Some x) = refl

once_more : (o : Option (State UnpackedIndex)) → (o >>= λ s. become_unreachable s >>= Some) ≡ (o >>= become_unreachable)
once_more None = refl
once_more (Some s) = and_then_some (become_unreachable s)

module _ {A : Type 0} (v : Stacks A) (C : Context UnpackedIndex) where
  pub needed : (r : Result (Unit {0}) OperatorError) (c : Check) (rest : List Action) (old new : State UnpackedIndex) → held v C c ≡ true → Took r (acted v C rest) old new → Took r (acted v C (need c ∷ rest)) old new
  unfolding acted held
  needed r c rest old new h t = took_along r _ _ old new (rw h refl) t

  pub refused_here : (f : OperatorFault) (c : Check) (rest : List Action) (old : State UnpackedIndex) → held v C c ≡ false → Took (Err (Refused f)) (acted v C (need c ∷ rest)) old old
  unfolding acted held
  refused_here f c rest old h = took_refused f _ old old (rw h refl) refl

  pub refused_later : (f : OperatorFault) (c : Check) (rest : List Action) (old new : State UnpackedIndex) → Took (Err (Refused f)) (acted v C rest) old new → Took (Err (Refused f)) (acted v C (need c ∷ rest)) old new
  unfolding acted Took
  refused_later f c rest old new t = (elim (holds (world C) (around v C) (state_of v) c) as (λ b. (guard b (state_of v) >>= run (world C) (around v C) rest) ≡ None) [ true ↦ t.0 | false ↦ refl ], t.1)

  pub refused_takes : (f : OperatorFault) (t : OperandTypes) (rest : List Action) (old : State UnpackedIndex) → typed v C t ≡ None → Took (Err (Refused f)) (acted v C (take t ∷ rest)) old old
  unfolding acted typed
  refused_takes f t rest old e = took_refused f _ old old (rw e refl) refl

  pub plainly : (r : Result (Unit {0}) OperatorError) (t u : OperandTypes) (vs ws : List (Val UnpackedIndex)) (old new : State UnpackedIndex) → Took r (exchanged (world C) vs ws (state_of v)) old new → typed v C t ≡ Some vs → typed v C u ≡ Some ws
      → Took r (acted v C (take t ∷ give u ∷ [])) old new
  unfolding acted typed exchanged
  plainly r t u vs ws old new k e f = took_along r _ _ old new (rw e (given_after (world C) (around v C) u vs ws (state_of v) (pop_vals (world C) vs (state_of v)) refl f)) k

  pub halting : (r : Result (Unit {0}) OperatorError) (t : OperandTypes) (vs : List (Val UnpackedIndex)) (old new : State UnpackedIndex) → Took r (halted (world C) vs (state_of v)) old new → typed v C t ≡ Some vs → Took r (acted v C (take t ∷ stop ∷ [])) old new
  unfolding acted typed halted
  halting r t vs old new k e = took_along r _ _ old new (rw e (once_more (pop_vals (world C) vs (state_of v)))) k

  -- types that aren't there
  pub refused_gives : (f : OperatorFault) (t u : OperandTypes) (old : State UnpackedIndex) → typed v C u ≡ None → Took (Err (Refused f)) (acted v C (take t ∷ give u ∷ [])) old old
  unfolding acted typed
  refused_gives f t u old e = took_refused f _ old old (none_given (world C) (around v C) t u (state_of v) (types_at (world C) (around v C) (state_of v) t) refl e) refl

  -- checks of features
  pub has_held : (p : Needed) (b : Bool) → is_on (features_of v.features) p ≡ b → held v C (has p) ≡ b
  unfolding held
  has_held p b e = e

  pub allows_held : (w : Val ℕ) (b : Bool) → allows_val (features_of v.features) w ≡ b → held v C (allows w) ≡ b
  unfolding held
  allows_held w b e = e

pub ruleset acts = (needed, refused_here, refused_later, refused_takes, refused_gives, plainly, halting, has_held, allows_held, took_ok, took_refused, took_memory)
