-- A whole body: its declarations, its instructions, and what is left behind them.
use Rattle.std.proofs.Common.{◌≡◌, ◌∙◌, ◌==◌, sym, ap, ℕ, Bool, true, false, List, length, if◌then◌else◌, Option, Some, None, Err}
use Rattle.std.specs.Option.{option_and_then}
use Rattle.wasm_spec_rules.specs.Contexts.{Context}
use Rattle.wasm_spec_rules.specs.FeatureFlags.{features_of}
use Rattle.wasm_readers_errors.specs.declared.error.Error.{Error}
use Rattle.wasm_readers_errors.specs.declared.error.Error.TheVariants.{Refused, OutOfMemory}
use Rattle.wasm_readers_types.specs.WasmReadersValues.declared.indices.UnpackedIndex.{UnpackedIndex}
use Rattle.wasm_spec_steps.specs.Bodies.{Local, Surroundings}
use Rattle.wasm_spec_steps.specs.Machine.{State}
use Rattle.wasm_validator_resources.specs.Answers.{world}
use Rattle.wasm_typing_validator.specs.WasmTypingStacks.BodyStacks.{surroundings}
use Rattle.wasm_typing_validator.specs.BodyTyping.{typed_state, locals_in}
use Rattle.wasm_typing_validator.specs.declared.validator.OperatorValidator.{OperatorValidator}
use Rattle.wasm_typing_validator.specs.TypedInstructions.{within, IsRefusedAt, ReadsTo}
use Rattle.wasm_validator_func.specs.Bodies.{instructions_from, where_all_is_read, body_from}
use Rattle.wasm_spec_steps.specs.FunctionBodies.{with_locals}
use Rattle.wasm_validator_func.specs.BodyValidation.{listed_in, body_in, Goes, Declares, Validates}

abbrev Locals : Type 0
Locals = List (Local UnpackedIndex)

abbrev States : Type 0
States = State UnpackedIndex

module _ {A : Type 0} (C : Context UnpackedIndex) (v : OperatorValidator A) (bytes : List ℕ) where
  abbrev with_these : Locals → List ℕ → Surroundings UnpackedIndex → States → Option (Locals × States)
  with_these ks middle B s = option_and_then (where_all_is_read ks) (instructions_from (world C) B s middle)

  abbrev behind : Option (Locals × List ℕ) → Option (Locals × States)
  behind o = option_and_then (λ d. with_these d.0 d.1 (with_locals (within v C) d.0) (typed_state v)) o

  around_kept : (w : OperatorValidator A) → Goes v w → with_locals (within v C) (locals_in w) ≡ within w C
  around_kept w k = λ i. surroundings (features_of (sym k.features i)) (sym k.shared i) C (locals_in w)

  -- the declarations are refused
  pub no_locals : (e : Error) (ks ls : Locals) (t : States) (more : List ℕ) → Declares (Err e) (listed_in v C bytes) ks more → Validates (Err e) (body_in v C bytes) ls t
  unfolding body_from
  no_locals (Refused r) ks ls t more e = ap behind e
  no_locals OutOfMemory ks ls t more e = tt

  -- they are made
  pub some_locals : (w : OperatorValidator A) (middle : List ℕ) → listed_in v C bytes ≡ Some (locals_in w, middle) → Goes v w → typed_state w ≡ typed_state v
      → body_in v C bytes ≡ with_these (locals_in w) middle (within w C) (typed_state w)
  unfolding body_from
  some_locals w middle e k s =
      ap behind e ∙ ap (λ B. with_these (locals_in w) middle B (typed_state v)) (around_kept w k) ∙ ap (with_these (locals_in w) middle (within w C)) (sym s)

module _ (ks : Locals) (all : Option (Locals × States)) (o : Option (States × List ℕ)) where
  abbrev finish : Option (States × List ℕ) → Option (Locals × States)
  finish p = option_and_then (where_all_is_read ks) p

  abbrev kept_if : States → Bool → Option (Locals × States)
  kept_if t b = if b then Some (ks, t) else None

  -- the instructions are refused
  pub stopped : (e : Error) (ls : Locals) (t u : States) (more : List ℕ) → all ≡ finish o → ReadsTo (Err e) o t more → Validates (Err e) all ls u
  stopped (Refused r) ls t u more b d = b ∙ ap finish d
  stopped OutOfMemory ls t u more b d = tt

  -- they are typed, and nothing is behind them
  pub ended : (ls : Locals) (t : States) (more : List ℕ) → all ≡ finish o → o ≡ Some (t, more) → (length more == 0) ≡ true → ls ≡ ks → all ≡ Some (ls, t)
  ended ls t more b d c l = b ∙ ap finish d ∙ ap (kept_if t) c ∙ ap (λ us. Some (us, t)) (sym l)

  -- bytes are
  pub goes_past : (offset : ℕ) (e : Error) (ls : Locals) (t u : States) (more : List ℕ) → IsRefusedAt offset e → all ≡ finish o → o ≡ Some (t, more) → (length more == 0) ≡ false
      → Validates (Err e) all ls u
  goes_past offset (Refused r) ls t u more p b d c = b ∙ ap finish d ∙ ap (kept_if t) c
  goes_past offset OutOfMemory ls t u more p b d c = absurd p
