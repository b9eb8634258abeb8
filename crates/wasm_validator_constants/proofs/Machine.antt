-- The typing of a constant expression, instruction by instruction.
use Rattle.std.proofs.Common.{◌≡◌, ◌≤◌, ◌<◌, ◌∙◌, refl, sym, ap, ℕ, zero, suc, true, false, List, [], ◌++◌, length, Option, Some, None, arith}
use Rattle.std.specs.Option.{option_and_then}
use Rattle.wasm_spec.specs.MatchingTests.{World}
use Rattle.wasm_operators.specs.Instructions.{Instruction, instruction_at}
use Rattle.wasm_typing_validator.specs.WasmSpecSteps.Bodies.{Surroundings}
use Rattle.wasm_typing_validator.specs.WasmSpecSteps.Machine.{State}
use Rattle.wasm_typing_validator.specs.WasmSpecSteps.Steps.{is_finished}
use Rattle.wasm_typing_validator.specs.WasmSpecSteps.ServedInstructions.{served}
use Rattle.wasm_validator_references.specs.WasmSpecValidity.Expressions.{functions_named}
use Rattle.wasm_validator_references.specs.Notes.{noting}
use Rattle.wasm_validator_references.proofs.FunctionNotes.{noting_more}
use Rattle.wasm_typing_validator.proofs.WasmTypingArity.UnservedOperators.{not_constant}
use Rattle.wasm_validator_constants.proofs.InstructionSteps.{no_constant}
use Rattle.wasm_validator_constants.specs.Constants.{constant_step, typed_from, constant_from, named_from, constant_names}

module _ {R : Type 0} (W : World R) (B : Surroundings R) (imported : ℕ) where
  -- a step from one state to the next
  pub one_step : (most : ℕ) (s t : State R) (bytes more : List ℕ) (i : Instruction ℕ) → is_finished s ≡ false → instruction_at (λ n. n) bytes ≡ Some (i, more)
      → constant_step W B imported i s ≡ Some t → typed_from W B imported (suc most) s bytes ≡ typed_from W B imported most t more
  one_step most s t bytes more i open_ e d = rw (open_, e, d) refl

  no_step : (most : ℕ) (s : State R) (bytes more : List ℕ) (i : Instruction ℕ) → is_finished s ≡ false → instruction_at (λ n. n) bytes ≡ Some (i, more)
      → constant_step W B imported i s ≡ None → typed_from W B imported (suc most) s bytes ≡ None
  no_step most s bytes more i open_ e d = rw (open_, e, d) refl

  -- the functions that it names, and those that are named behind it
  pub name_one : (most : ℕ) (s t : State R) (bytes more : List ℕ) (i : Instruction ℕ) → is_finished s ≡ false → instruction_at (λ n. n) bytes ≡ Some (i, more)
      → constant_step W B imported i s ≡ Some t → named_from W B imported (suc most) s bytes ≡ functions_named i ++ named_from W B imported most t more
  name_one most s t bytes more i open_ e d = rw (open_, e, d) refl

  pub none_named : (most : ℕ) (s : State R) (bytes : List ℕ) → is_finished s ≡ true → named_from W B imported most s bytes ≡ []
  none_named zero s bytes e = refl
  none_named (suc m) s bytes e = rw e refl

  -- an instruction that is typed, whose function is noted
  module _ {K : Type 0} (note : ℕ → K → K) (kept next every : K) where
    noted_one : (most : ℕ) (s t : State R) (bytes more : List ℕ) (i : Instruction ℕ) → is_finished s ≡ false → instruction_at (λ n. n) bytes ≡ Some (i, more)
        → constant_step W B imported i s ≡ Some t → next ≡ noting note (functions_named i) kept
        → noting note (named_from W B imported most t more) next ≡ noting note (named_from W B imported (suc most) s bytes) kept
    noted_one most s t bytes more i open_ e d f =
        ap (noting note (named_from W B imported most t more)) f
        ∙ sym (noting_more note (functions_named i) (named_from W B imported most t more) kept)
        ∙ ap (λ (xs : List ℕ). noting note xs kept) (sym (name_one most s t bytes more i open_ e d))

    pub go_one : (most : ℕ) (s t : State R) (bytes more : List ℕ) (i : Instruction ℕ) (all : Option (State R × List ℕ))
        → length bytes ≤ most → length more < length bytes → is_finished s ≡ false → instruction_at (λ n. n) bytes ≡ Some (i, more) → constant_step W B imported i s ≡ Some t
        → next ≡ noting note (functions_named i) kept → typed_from W B imported most s bytes ≡ all → noting note (named_from W B imported most s bytes) kept ≡ every
        → (m : ℕ) × (length more ≤ m) × (typed_from W B imported m t more ≡ all) × (noting note (named_from W B imported m t more) next ≡ every)
    go_one zero s t bytes more i all enough less open_ e d f so_far noted = absurd (omega arith)
    go_one (suc m) s t bytes more i all enough less open_ e d f so_far noted =
        (m, omega arith, sym (one_step m s t bytes more i open_ e d) ∙ so_far, noted_one m s t bytes more i open_ e d f ∙ noted)

  -- behind the last
  pub all_noted : {K : Type 0} (note : ℕ → K → K) (kept every : K) (most : ℕ) (s : State R) (bytes : List ℕ) → is_finished s ≡ true → noting note (named_from W B imported most s bytes) kept ≡ every → kept ≡ every
  all_noted note kept every most s bytes closed noted = sym (ap (λ (xs : List ℕ). noting note xs kept) (none_named most s bytes closed)) ∙ noted

  -- one that isn't
  pub refused_here : (most : ℕ) (s : State R) (bytes more : List ℕ) (i : Instruction ℕ) (all : Option (State R × List ℕ))
      → length bytes ≤ most → length more < length bytes → is_finished s ≡ false → instruction_at (λ n. n) bytes ≡ Some (i, more) → constant_step W B imported i s ≡ None
      → typed_from W B imported most s bytes ≡ all → all ≡ None
  refused_here zero s bytes more i all enough less open_ e d so_far = absurd (omega arith)
  refused_here (suc m) s bytes more i all enough less open_ e d so_far = sym so_far ∙ no_step m s bytes more i open_ e d

  -- none that can be read and is served
  unserved_step : (most : ℕ) (s : State R) (o : Option (Instruction ℕ × List ℕ)) → served B.features o ≡ None → option_and_then (λ i. option_and_then (λ t. typed_from W B imported most t i.1) (constant_step W B imported i.0 s)) o ≡ None
  unserved_step most s None e = refl
  unserved_step most s (Some i) e = ap (option_and_then (λ t. typed_from W B imported most t i.1)) (no_constant W B imported i.0 s (not_constant W B i e))

  pub unserved_here : (most : ℕ) (s : State R) (bytes : List ℕ) (all : Option (State R × List ℕ))
      → is_finished s ≡ false → served B.features (instruction_at (λ n. n) bytes) ≡ None → typed_from W B imported most s bytes ≡ all → all ≡ None
  unserved_here zero s bytes all open_ e so_far = let none : typed_from W B imported zero s bytes ≡ None = rw open_ refl in sym so_far ∙ none
  unserved_here (suc m) s bytes all open_ e so_far =
      let none : typed_from W B imported (suc m) s bytes ≡ None = rw open_ (unserved_step m s (instruction_at (λ n. n) bytes) e) in
      sym so_far ∙ none

  -- the end
  pub end_here : (most : ℕ) (s : State R) (bytes : List ℕ) (all : Option (State R × List ℕ))
      → is_finished s ≡ true → typed_from W B imported most s bytes ≡ all → all ≡ Some (s, bytes)
  end_here zero s bytes all closed so_far = let done : typed_from W B imported zero s bytes ≡ Some (s, bytes) = rw closed refl in sym so_far ∙ done
  end_here (suc m) s bytes all closed so_far = let done : typed_from W B imported (suc m) s bytes ≡ Some (s, bytes) = rw closed refl in sym so_far ∙ done

  -- the whole way
  pub names_of_all : (s : State R) (bytes : List ℕ) → named_from W B imported (length bytes) s bytes ≡ constant_names W B imported s bytes
  unfolding constant_names
  names_of_all s bytes = refl

  pub all_of : (s : State R) (bytes : List ℕ) → typed_from W B imported (length bytes) s bytes ≡ constant_from W B imported s bytes
  unfolding constant_from
  all_of s bytes = refl
