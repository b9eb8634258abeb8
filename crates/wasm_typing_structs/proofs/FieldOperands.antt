-- Operands of all fields, counted from the last.
use Rattle.std.proofs.Common.{◌≡◌, ℕ, ◌-◌, ◌+◌, ◌<◌, ◌==◌, Bool, true, false, List, [], ◌∷◌, ◌++◌, length, drop, get_or, refl, arith, sym, ◌∙◌, ap}
use Rattle.std.specs.Prelude.{zero, suc, Some, None, Option, Result, slice_get}
use Rattle.std.proofs.lemmas.Option.{slice_get-get_or}
use Rattle.wasm_spec.specs.MatchingTests.{World}
use Rattle.wasm_spec.specs.Syntax.{Val}
use Rattle.wasm_readers_types.specs.WasmReadersValues.SeenValues.{field_of}
use Rattle.wasm_readers_types.specs.WasmReadersValues.declared.indices.UnpackedIndex.{UnpackedIndex}
use Rattle.wasm_readers_types.specs.WasmReadersValues.declared.values.FieldType.{FieldType}
use Rattle.wasm_typing_checks.specs.WasmSpecSteps.Machine.{Frame, Operand, State, bottom, matches_operand, pop_any, pop_val, pop_vals, popped}
use Rattle.wasm_typing_checks.specs.WasmSpecRules.Attempts.{◌>>=◌, guard}
use Rattle.wasm_typing_checks.specs.WasmSpecSteps.Meanings.{unpack_field}
use Rattle.wasm_typing_checks.proofs.WasmSpecSteps.OperandSequences.{pop_vals-append}
use Rattle.wasm_typing_checks.specs.Steps.{Took}
use Rattle.wasm_typing_checks.specs.SeenTypes.{exchanged}
use Rattle.wasm_typing_checks.specs.declared.faults.OperatorError.{OperatorError}
use Rattle.wasm_typing_checks.proofs.ActionSteps.{took_along}
use Rattle.wasm_typing_checks.proofs.OperandLookups.{from_on, one_popped}
use Rattle.wasm_typing_structs.specs.Fields.{unpacked_types}

last_types : (xs : List FieldType) (n : ℕ) (d : FieldType) (x : Val UnpackedIndex) → n < length xs → x ≡ unpack_field (field_of (get_or xs n d)) → unpacked_types (drop n xs) ≡ x ∷ unpacked_types (drop (n + 1) xs)
last_types xs n d x h e = ap unpacked_types (from_on xs n (get_or xs n d) (slice_get-get_or xs n d h)) ∙ ap (λ y. y ∷ unpacked_types (drop (n + 1) xs)) (sym e)

module _ (W : World UnpackedIndex) where
  -- the fields from a place on
  abbrev pub popped_from : List FieldType → ℕ → State UnpackedIndex → Option (State UnpackedIndex)
  popped_from xs n s = pop_vals W (unpacked_types (drop n xs)) s

  one_more : (xs : List FieldType) (n : ℕ) (d : FieldType) (x : Val UnpackedIndex) (s t : State UnpackedIndex) (o : Option (State UnpackedIndex)) → n < length xs → x ≡ unpack_field (field_of (get_or xs n d)) → popped_from xs (n + 1) s ≡ Some t → pop_val W x t ≡ o → popped_from xs n s ≡ o
  one_more xs n d x s t o h e p q = ap (λ ws. pop_vals W ws s) (last_types xs n d x h e) ∙ rw p q

  -- where the last fields' operands aren't found, none are
  front_missing : (xs : List FieldType) (n : ℕ) (s : State UnpackedIndex) → popped_from xs n s ≡ None → pop_vals W (unpacked_types xs) s ≡ None
  front_missing [] zero s e = e
  front_missing [] (suc n) s e = e
  front_missing (x ∷ xs) zero s e = e
  front_missing (x ∷ xs) (suc n) s e = rw (front_missing xs n s e) refl

  before_last : (n i : ℕ) → i < n → n - (i + 1) ≡ n - 1 - i
  before_last n i h = omega arith

  after_last : (n i : ℕ) → i < n → n - i ≡ n - 1 - i + 1
  after_last n i h = omega arith

  within : (n i : ℕ) → i < n → n - 1 - i < n
  within n i h = omega arith

  pub next_popped : (xs : List FieldType) (i : ℕ) (d : FieldType) (x : Val UnpackedIndex) (s t u : State UnpackedIndex) → i < length xs → x ≡ unpack_field (field_of (get_or xs (length xs - 1 - i) d)) → popped_from xs (length xs - i) s ≡ Some t → pop_val W x t ≡ Some u → popped_from xs (length xs - (i + 1)) s ≡ Some u
  next_popped xs i d x s t u h e p q =
      ap (λ n. popped_from xs n s) (before_last _ i h) ∙ one_more xs (length xs - 1 - i) d x s t (Some u) (within _ i h) e (ap (λ n. popped_from xs n s) (sym (after_last _ i h)) ∙ p) q

  pub next_missing : (xs : List FieldType) (i : ℕ) (d : FieldType) (x : Val UnpackedIndex) (s t : State UnpackedIndex) → i < length xs → x ≡ unpack_field (field_of (get_or xs (length xs - 1 - i) d)) → popped_from xs (length xs - i) s ≡ Some t → pop_val W x t ≡ None → pop_vals W (unpacked_types xs) s ≡ None
  next_missing xs i d x s t h e p q =
      front_missing xs (length xs - 1 - i) s (one_more xs (length xs - 1 - i) d x s t None (within _ i h) e (ap (λ n. popped_from xs n s) (sym (after_last _ i h)) ∙ p) q)

  -- what is popped from the same operands again is of any type, and so any more are
  passed_same : (b : Bool) (t s : State UnpackedIndex) → guard b t ≡ Some s → t ≡ s
  passed_same true t s e = cc
  passed_same false t s e = cc

  bottom_again : (h u : Bool) (xs : List (Operand UnpackedIndex)) (v : Val UnpackedIndex) (s : State UnpackedIndex) → xs ≡ s.operands → (popped h u xs s >>= λ p. guard (matches_operand W p.0 v) p.1) ≡ Some s → popped h u xs s ≡ Some (bottom, s)
  bottom_again true true xs v s q e = refl
  bottom_again true false xs v s q e = cc
  bottom_again false u [] v s q e = cc
  bottom_again false u (x ∷ xs) v s q e =
      let t : record s { operands = xs } ≡ s = passed_same (matches_operand W x v) (record s { operands = xs }) s e in
      let l : length xs ≡ suc (length xs) = ap (λ z. length z.operands) t ∙ ap length (sym q) in
      absurd (omega (arith, l))

  bottom_in : (o : Option (Frame UnpackedIndex)) (v : Val UnpackedIndex) (s : State UnpackedIndex) → slice_get s.frames 0 ≡ o → pop_val W v s ≡ Some s → pop_any s ≡ Some (bottom, s)
  bottom_in None v s q e = let h = rw q at e in cc
  bottom_in (Some x) v s q e = rw q (bottom_again (length s.operands == x.height) x.unreachable s.operands v s refl (rw q at e))

  all_bottoms : (xs : List FieldType) (n : ℕ) (s t : State UnpackedIndex) → popped_from xs n s ≡ Some t → pop_any t ≡ Some (bottom, t) → pop_vals W (unpacked_types xs) s ≡ Some t
  all_bottoms [] zero s t e b = e
  all_bottoms [] (suc n) s t e b = e
  all_bottoms (x ∷ xs) zero s t e b = e
  all_bottoms (x ∷ xs) (suc n) s t e b = rw (all_bottoms xs n s t e b) (one_popped W (unpack_field (field_of x)) t t bottom b refl)

  pub all_popped : (xs : List FieldType) (n : ℕ) (v : Val UnpackedIndex) (s t u : State UnpackedIndex) → popped_from xs n s ≡ Some t → pop_val W v t ≡ Some u → u ≡ t → pop_vals W (unpacked_types xs) s ≡ Some t
  all_popped xs n v s t u e f g = all_bottoms xs n s t e (bottom_in (slice_get t.frames 0) v t refl (f ∙ ap Some g))

  -- with one more on top
  exchanged_below : (vs ws : List (Val UnpackedIndex)) (v : Val UnpackedIndex) (s t : State UnpackedIndex) → pop_val W v s ≡ Some t → exchanged W (vs ++ v ∷ []) ws s ≡ exchanged W vs ws t
  unfolding exchanged
  exchanged_below vs ws v s t e = rw (pop_vals-append W vs (v ∷ []) s, e) refl

  pub took_below : (r : Result (Unit {0}) OperatorError) (vs ws : List (Val UnpackedIndex)) (v : Val UnpackedIndex) (s t old new : State UnpackedIndex) → pop_val W v s ≡ Some t → Took r (exchanged W vs ws t) old new → Took r (exchanged W (vs ++ v ∷ []) ws s) old new
  took_below r vs ws v s t old new e k = took_along r _ _ old new (exchanged_below vs ws v s t e) k

pub ruleset fills = (next_popped, next_missing, all_popped)
