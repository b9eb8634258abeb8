-- What fast operators on locals do.
use Rattle.std.proofs.Common.{◌≡◌, ℕ, true, [], ◌∷◌, refl, sym}
use Rattle.std.specs.Option.{option_map}
use Rattle.std.specs.Prelude.{Some, slice_get}
use Rattle.wasm_spec.specs.Syntax.{Val}
use Rattle.wasm_typing_control.specs.WasmTypingChecks.WasmSpecRules.Contexts.{Context}
use Rattle.wasm_readers_types.specs.WasmReadersValues.declared.indices.UnpackedIndex.{UnpackedIndex}
use Rattle.wasm_typing_control.specs.WasmTypingChecks.WasmSpecSteps.Actions.{local, local_is_set, take, give, set}
use Rattle.wasm_typing_control.specs.WasmTypingChecks.WasmSpecSteps.Machine.{State, pop_val, push_operand, known}
use Rattle.wasm_typing_control.specs.WasmTypingChecks.WasmValidatorResources.Answers.{world}
use Rattle.wasm_typing_control.specs.WasmTypingChecks.WasmTypingStacks.Locals.{local_of}
use Rattle.wasm_typing_control.specs.WasmTypingChecks.WasmTypingStacks.BodyStacks.{state_of, below}
use Rattle.wasm_typing_control.specs.WasmTypingChecks.WasmTypingStacks.declared.local_word.LocalWord.{LocalWord}
use Rattle.wasm_typing_control.specs.WasmTypingChecks.WasmTypingStacks.declared.stacks.Stacks.{Stacks}
use Rattle.wasm_typing_control.specs.WasmTypingChecks.Steps.{acted, typed, held}
use Rattle.wasm_typing_control.proofs.LocalOperators as locally

module _ {A : Type 0} (v : Stacks A) (C : Context UnpackedIndex) (n : ℕ) (w : LocalWord) where
  pub already_held : option_map local_of (Some w) ≡ slice_get v.locals.content n → (local_of w).set ≡ true → held v C (local_is_set n) ≡ true
  already_held e s = locally.set_held v C n w true e (rw s refl)

  pub typed_as : (x : Val UnpackedIndex) → option_map local_of (Some w) ≡ slice_get v.locals.content n → x ≡ (local_of w).content → typed v C (local n) ≡ Some (x ∷ [])
  typed_as x e f = locally.local_typed v C n w x e f

  pub put : (x : Val UnpackedIndex) (new : State UnpackedIndex) → option_map local_of (Some w) ≡ slice_get v.locals.content n → (local_of w).set ≡ true → x ≡ (local_of w).content → pop_val (world C) x (state_of v) ≡ Some (below 1 (state_of v)) → new ≡ below 1 (state_of v)
      → acted v C (take (local n) ∷ set n ∷ []) ≡ Some new
  put x new e s f h g = locally.put v C n 1 w x new e f h (rw s g)

  pub left_there : (x : Val UnpackedIndex) → option_map local_of (Some w) ≡ slice_get v.locals.content n → (local_of w).set ≡ true → x ≡ (local_of w).content → pop_val (world C) x (state_of v) ≡ Some (below 1 (state_of v)) → push_operand (known x) (below 1 (state_of v)) ≡ state_of v
      → acted v C (take (local n) ∷ set n ∷ give (local n) ∷ []) ≡ Some (state_of v)
  left_there x e s f h g = locally.given_back v C n 1 w x x (state_of v) (state_of v) e f f h (rw s refl) (sym g)

pub ruleset gets = (already_held, typed_as)

pub ruleset puts = (put, left_there)

pub ruleset drops = (locally.dropped)
