-- Fast steps by their actions. Each lemma speaks of words that don't unfold, so that `search` finds it by what is written.
use Rattle.std.proofs.Common.{◌≡◌, ℕ, Bool, true, List, [], ◌∷◌, refl, sym, subst}
use Rattle.std.specs.Prelude.{Some, Option, Result, Ok, Err}
use Rattle.wasm_spec.specs.Syntax.{Val}
use Rattle.wasm_spec.specs.ValueTypes.{allows_val}
use Rattle.wasm_typing_control.specs.WasmTypingChecks.WasmSpecRules.Contexts.{Context}
use Rattle.wasm_typing_control.specs.WasmTypingChecks.WasmSpecRules.FeatureFlags.{features_of}
use Rattle.wasm_readers_types.specs.WasmReadersValues.declared.indices.UnpackedIndex.{UnpackedIndex}
use Rattle.wasm_typing_control.specs.WasmTypingChecks.WasmSpecSteps.Actions.{OperandTypes, Check, allows, Action, need, take, give}
use Rattle.wasm_typing_control.specs.WasmTypingChecks.WasmSpecSteps.Machine.{State}
use Rattle.wasm_typing_control.specs.WasmTypingChecks.WasmValidatorResources.Answers.{world}
use Rattle.wasm_typing_control.specs.WasmTypingChecks.WasmTypingStacks.BodyStacks.{state_of}
use Rattle.wasm_typing_control.specs.WasmTypingChecks.WasmTypingStacks.declared.stacks.Stacks.{Stacks}
use Rattle.wasm_typing_control.specs.WasmTypingChecks.Steps.{Took, acted, typed, held}
use Rattle.wasm_typing_control.specs.WasmTypingChecks.SeenTypes.{exchanged}
use Rattle.wasm_typing_control.proofs.WasmTypingChecks.ActionSteps as acting
use Rattle.wasm_typing_control.specs.FastSteps.{Fast}
use Rattle.wasm_typing_control.specs.declared.not_taken.NotTaken.{NotTaken}

pub fast_ok : (x : Unit {0}) (o : Option (State UnpackedIndex)) (old new : State UnpackedIndex) → o ≡ Some new → Fast (Ok x) o old new
unfolding Fast
fast_ok x o old new e = e

pub fast_left : (e : NotTaken) (o : Option (State UnpackedIndex)) (old new : State UnpackedIndex) → new ≡ old → Fast (Err e) o old new
unfolding Fast
fast_left e o old new h = h

-- a step of another attempt that is the same
pub fast_along : (r : Result (Unit {0}) NotTaken) (o p : Option (State UnpackedIndex)) (old new : State UnpackedIndex) → p ≡ o → Fast r o old new → Fast r p old new
fast_along r o p old new e t = subst (λ q. Fast r q old new) (sym e) t

module _ {A : Type 0} (v : Stacks A) (C : Context UnpackedIndex) where
  pub needed : (r : Result (Unit {0}) NotTaken) (c : Check) (rest : List Action) (old new : State UnpackedIndex) → held v C c ≡ true → Fast r (acted v C rest) old new → Fast r (acted v C (need c ∷ rest)) old new
  unfolding acted held
  needed r c rest old new h t = fast_along r _ _ old new (rw h refl) t

  pub plainly : (r : Result (Unit {0}) NotTaken) (t u : OperandTypes) (vs ws : List (Val UnpackedIndex)) (old new : State UnpackedIndex) → Fast r (exchanged (world C) vs ws (state_of v)) old new → typed v C t ≡ Some vs → typed v C u ≡ Some ws
      → Fast r (acted v C (take t ∷ give u ∷ [])) old new
  unfolding Fast Took
  plainly (Ok x) t u vs ws old new k e f = acting.plainly v C (Ok x) t u vs ws old new k e f
  plainly (Err y) t u vs ws old new k e f = k

  pub allows_held : (w : Val ℕ) (b : Bool) → allows_val (features_of v.features) w ≡ b → held v C (allows w) ≡ b
  unfolding held
  allows_held w b e = e

pub ruleset acts = (needed, plainly, allows_held, fast_ok, fast_left)
