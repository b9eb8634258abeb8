-- What operators on locals do.
use Rattle.std.proofs.Common.{◌≡◌, ℕ, Bool, true, false, ◌||◌, List, [], ◌∷◌, refl, sym, ◌∙◌, ap}
use Rattle.std.specs.Option.{option_map}
use Rattle.std.specs.Prelude.{Some, None, slice_get}
use Rattle.wasm_readers_types.specs.WasmSpec.Syntax.{Val}
use Rattle.wasm_typing_numbers.specs.WasmTypingChecks.WasmValidatorResources.WasmSpecRules.Contexts.{Context}
use Rattle.wasm_readers_types.specs.WasmReadersValues.declared.indices.UnpackedIndex.{UnpackedIndex}
use Rattle.wasm_typing_numbers.specs.WasmTypingChecks.WasmValidatorResources.WasmSpecRules.Attempts.{among}
use Rattle.wasm_typing_numbers.specs.WasmSpecSteps.Actions.{Action, local, local_is_set, take, give, take_any, set}
use Rattle.wasm_typing_numbers.specs.WasmSpecSteps.Machine.{Operand, Frame, State, pop_any, pop_val, push_operand, set_local, known}
use Rattle.wasm_typing_numbers.specs.WasmTypingChecks.WasmValidatorResources.Answers.{world}
use Rattle.wasm_typing_numbers.specs.WasmTypingStacks.Locals.{local_of}
use Rattle.wasm_typing_numbers.specs.WasmTypingStacks.BodyStacks.{state_of, below}
use Rattle.wasm_typing_numbers.specs.WasmTypingStacks.declared.local_word.LocalWord.{LocalWord}
use Rattle.wasm_typing_numbers.specs.WasmTypingStacks.declared.stacks.Stacks.{Stacks}
use Rattle.wasm_typing_numbers.specs.WasmTypingChecks.Steps.{acted, typed, held}

-- the state after a local is set
pub set_as : (b : Bool) (n : ℕ) (ops : List (Operand UnpackedIndex)) (frames : List (Frame UnpackedIndex)) (inits inits' : List ℕ) → b ≡ true → inits' ≡ inits → record { operands = ops; frames = frames; inits = inits' } ≡ set_local b n (record { operands = ops; frames = frames; inits = inits })
set_as true n ops frames inits inits' e h = rw h refl
set_as false n ops frames inits inits' e h = cc

pub set_now : (b : Bool) (n : ℕ) (ops : List (Operand UnpackedIndex)) (frames : List (Frame UnpackedIndex)) (inits inits' : List ℕ) → b ≡ false → inits' ≡ n ∷ inits → record { operands = ops; frames = frames; inits = inits' } ≡ set_local b n (record { operands = ops; frames = frames; inits = inits })
set_now true n ops frames inits inits' e h = cc
set_now false n ops frames inits inits' e h = rw h refl

pub not_among : (b c : Bool) → (b || c) ≡ false → c ≡ false
not_among true c e = cc
not_among false c e = e

set_below : (b : Bool) (n k : ℕ) (s : State UnpackedIndex) → set_local b n (below k s) ≡ below k (set_local b n s)
set_below true n k s = refl
set_below false n k s = refl

pub ruleset marks = (set_as, set_now, not_among)

module _ {A : Type 0} (v : Stacks A) (C : Context UnpackedIndex) where
  pub local_typed : (n : ℕ) (w : LocalWord) (x : Val UnpackedIndex) → option_map local_of (Some w) ≡ slice_get v.locals.content n → x ≡ (local_of w).content → typed v C (local n) ≡ Some (x ∷ [])
  unfolding typed
  local_typed n w x e f = rw (← e, f) refl

  pub local_untyped : (n : ℕ) → option_map local_of None ≡ slice_get v.locals.content n → typed v C (local n) ≡ None
  unfolding typed
  local_untyped n e = rw (← e) refl

  pub set_held : (n : ℕ) (w : LocalWord) (b : Bool) → option_map local_of (Some w) ≡ slice_get v.locals.content n → ((local_of w).set || among n v.locals.inits) ≡ b → held v C (local_is_set n) ≡ b
  unfolding held
  set_held n w b e f = rw (← e) f

  pub not_put : (n : ℕ) (w : LocalWord) (x : Val UnpackedIndex) (rest : List Action) → option_map local_of (Some w) ≡ slice_get v.locals.content n → x ≡ (local_of w).content → pop_val (world C) x (state_of v) ≡ None → acted v C (take (local n) ∷ rest) ≡ None
  unfolding acted
  not_put n w x rest e f h = rw (← e, ← f, h) refl

  pub put : (n k : ℕ) (w : LocalWord) (x : Val UnpackedIndex) (new : State UnpackedIndex) → option_map local_of (Some w) ≡ slice_get v.locals.content n → x ≡ (local_of w).content → pop_val (world C) x (state_of v) ≡ Some (below k (state_of v))
      → new ≡ below k (set_local ((local_of w).set || among n v.locals.inits) n (state_of v)) → acted v C (take (local n) ∷ set n ∷ []) ≡ Some new
  unfolding acted
  put n k w x new e f h g = rw (← e, ← f, h, g) (ap Some (set_below ((local_of w).set || among n v.locals.inits) n k (state_of v)))

  pub given_back : (n k : ℕ) (w : LocalWord) (x y : Val UnpackedIndex) (mid new : State UnpackedIndex) → option_map local_of (Some w) ≡ slice_get v.locals.content n → x ≡ (local_of w).content → y ≡ (local_of w).content → pop_val (world C) x (state_of v) ≡ Some (below k (state_of v))
      → mid ≡ set_local ((local_of w).set || among n v.locals.inits) n (state_of v) → new ≡ push_operand (known y) (below k mid) → acted v C (take (local n) ∷ set n ∷ give (local n) ∷ []) ≡ Some new
  unfolding acted
  given_back n k w x y mid new e f i h g j =
      let q : y ≡ x = i ∙ sym f in
      rw (← e, j, q, g, ← f, h) (ap (λ (t : State UnpackedIndex). Some (push_operand (known x) t)) (set_below ((local_of w).set || among n v.locals.inits) n k (state_of v)))

pub ruleset locals = (local_typed, local_untyped, set_held, not_put)

module _ {A : Type 0} (v : Stacks A) (C : Context UnpackedIndex) where
  pub not_dropped : pop_any (state_of v) ≡ None → acted v C (take_any ∷ []) ≡ None
  unfolding acted
  not_dropped e = rw e refl

  pub dropped : (x : Operand UnpackedIndex) (t new : State UnpackedIndex) → pop_any (state_of v) ≡ Some (x, t) → new ≡ t → acted v C (take_any ∷ []) ≡ Some new
  unfolding acted
  dropped x t new e f = rw (e, f) refl

pub ruleset drops = (not_dropped, dropped)
