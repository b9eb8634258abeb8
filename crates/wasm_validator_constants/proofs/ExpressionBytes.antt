-- The way through the bytes finds lists of instructions, and all of them.
use Rattle.std.proofs.Common.{◌≡◌, ◌≤◌, ◌<◌, ◌∙◌, refl, ap, subst, ℕ, zero, suc, Bool, true, false, List, [], ◌∷◌, length, if◌then◌else◌, Option, Some, None, arith}
use Rattle.std.specs.Option.{option_and_then}
use Rattle.std.specs.List.{All}
use Rattle.std.proofs.lemmas.List.Elements.{All-head, All-tail, All-cons, All-nil}
use Rattle.wasm_spec.specs.MatchingTests.{World}
use Rattle.wasm_spec.proofs.LawSet.{goes_on}
use Rattle.wasm_operators.specs.Instructions.{Instruction, instruction_at}
use Rattle.wasm_operators.proofs.Fronts.{instruction-reads}
use Rattle.wasm_validator_resources.specs.WasmSpecRules.Attempts.{◌>>=◌}
use Rattle.wasm_typing_validator.specs.WasmSpecSteps.Bodies.{Surroundings}
use Rattle.wasm_typing_validator.specs.WasmSpecSteps.Machine.{Frame, State}
use Rattle.wasm_typing_validator.specs.WasmSpecSteps.Steps.{step_in, steps_in, is_open, is_finished}
use Rattle.wasm_typing_validator.specs.WasmSpecSteps.Sequences.{Are}
use Rattle.wasm_validator_constants.specs.Constants.{constant_step, typed_from, constant_from, FindsConstants, ConstantsAreFound}
use Rattle.wasm_typing_validator.specs.WasmSpecSteps.ConstantRules.{is_allowed, IsConstantExpression}
use Rattle.wasm_validator_constants.proofs.Machine.{one_step}

allowed_step : {S : Type 0} (b : Bool) (o : Option S) (t : S) → (if b then o else None) ≡ Some t → (b ≡ true) × (o ≡ Some t)
allowed_step true o t e = (refl, e)
allowed_step false o t e = absurd cc

module _ {R : Type 0} (W : World R) (B : Surroundings R) (imported : ℕ) where
  stepped : (i : Instruction ℕ) (s t : State R) → constant_step W B imported i s ≡ Some t → (is_allowed B imported i ≡ true) × (step_in W B i s ≡ Some t)
  unfolding constant_step
  stepped i s t e = allowed_step (is_allowed B imported i) (step_in W B i s) t e

  pub steps : (i : Instruction ℕ) (s t : State R) → is_allowed B imported i ≡ true → step_in W B i s ≡ Some t → constant_step W B imported i s ≡ Some t
  unfolding constant_step
  steps i s t a e = rw (a, e) refl

  behind_one : (i : Instruction ℕ) (s u t : State R) (bytes next more : List ℕ) → instruction_at (λ n. n) bytes ≡ Some (i, next) → constant_step W B imported i s ≡ Some u
      → IsConstantExpression W B imported u next t more → IsConstantExpression W B imported s bytes t more
  behind_one i s u t bytes next more e d x =
      let p = stepped i s u d in
      record {
        instructions = i ∷ x.instructions;
        written = (next, e, x.written);
        allowed = All-cons (λ op. is_allowed B imported op ≡ true) i x.instructions p.0 x.allowed;
        typed = ap (λ o. o >>= steps_in W B x.instructions) p.1 ∙ x.typed;
        finished = x.finished;
      }

  abbrev state_or : State R → Option (State R × List ℕ) → State R
  state_or s None = s
  state_or s (Some x) = x.0

  abbrev bytes_or : List ℕ → Option (State R × List ℕ) → List ℕ
  bytes_or bytes None = bytes
  bytes_or bytes (Some x) = x.1

  abbrev here : State R → List ℕ → Option (State R × List ℕ)
  here s bytes = Some (s, bytes)

  nothing_left : (s t : State R) (bytes more : List ℕ) → is_finished s ≡ true → here s bytes ≡ here t more → IsConstantExpression W B imported s bytes t more
  nothing_left s t bytes more finished e =
      let same : s ≡ t = ap (state_or s) e in
      let rest : bytes ≡ more = ap (bytes_or bytes) e in
      record { instructions = []; written = rest; allowed = All-nil (λ op. is_allowed B imported op ≡ true); typed = ap Some same; finished = subst (λ x. is_finished x ≡ true) same finished }

  abbrev Found : ℕ → Type 0
  Found most = (s t : State R) (bytes more : List ℕ) → typed_from W B imported most s bytes ≡ Some (t, more) → IsConstantExpression W B imported s bytes t more

  stepped_on : (m : ℕ) → Found m → (i : Instruction ℕ) (s t : State R) (bytes next more : List ℕ) (o : Option (State R)) → instruction_at (λ n. n) bytes ≡ Some (i, next)
      → constant_step W B imported i s ≡ o → option_and_then (λ u. typed_from W B imported m u next) o ≡ Some (t, more) → IsConstantExpression W B imported s bytes t more
  stepped_on m found i s t bytes next more None e d f = absurd cc
  stepped_on m found i s t bytes next more (Some u) e d f = behind_one i s u t bytes next more e d (found u t next more f)

  read_on : (m : ℕ) → Found m → (s t : State R) (bytes more : List ℕ) (o : Option (Instruction ℕ × List ℕ)) → instruction_at (λ n. n) bytes ≡ o
      → option_and_then (λ i. option_and_then (λ u. typed_from W B imported m u i.1) (constant_step W B imported i.0 s)) o ≡ Some (t, more) → IsConstantExpression W B imported s bytes t more
  read_on m found s t bytes more None e f = absurd cc
  read_on m found s t bytes more (Some i) e f = stepped_on m found i.0 s t bytes i.1 more (constant_step W B imported i.0 s) e refl f

  zero_by : (s t : State R) (bytes more : List ℕ) (b : Bool) → is_finished s ≡ b → (if b then here s bytes else None) ≡ Some (t, more) → IsConstantExpression W B imported s bytes t more
  zero_by s t bytes more true c f = nothing_left s t bytes more c f
  zero_by s t bytes more false c f = absurd cc

  suc_by : (m : ℕ) → Found m → (s t : State R) (bytes more : List ℕ) (b : Bool) → is_finished s ≡ b
      → (if b then here s bytes else option_and_then (λ i. option_and_then (λ u. typed_from W B imported m u i.1) (constant_step W B imported i.0 s)) (instruction_at (λ n. n) bytes)) ≡ Some (t, more)
      → IsConstantExpression W B imported s bytes t more
  suc_by m found s t bytes more true c f = nothing_left s t bytes more c f
  suc_by m found s t bytes more false c f = read_on m found s t bytes more (instruction_at (λ n. n) bytes) refl f

  found_by : (most : ℕ) → Found most
  found_by zero = λ s t bytes more e. zero_by s t bytes more (is_finished s) refl e
  found_by (suc m) = λ s t bytes more e. suc_by m (found_by m) s t bytes more (is_finished s) refl e

  pub finds : FindsConstants W B imported
  unfolding constant_from
  finds s bytes t more e = found_by (length bytes) s t bytes more e

  none_open : (fs : List (Frame R)) → (elim fs [ [] ↦ true | _ ↦ false ]) ≡ true → (elim fs [ [] ↦ false | _ ↦ true ]) ≡ false
  none_open [] e = refl
  none_open (f ∷ fs) e = absurd cc

  pub not_closed : (b : Bool) (i : Instruction ℕ) (s u : State R) → is_finished s ≡ b → step_in W B i s ≡ Some u → b ≡ false
  not_closed false i s u c e = refl
  not_closed true i s u c e = let shut : is_open s ≡ false = none_open s.frames c in let none : step_in W B i s ≡ None = rw shut refl in absurd cc

  done : (most : ℕ) (s : State R) (bytes : List ℕ) → is_finished s ≡ true → typed_from W B imported most s bytes ≡ Some (s, bytes)
  done zero s bytes c = rw c refl
  done (suc m) s bytes c = rw c refl

  abbrev First : ℕ → Type 0
  First most = (ops : List (Instruction ℕ)) (s t : State R) (bytes more : List ℕ) → length bytes ≤ most → Are ops bytes more → All (λ op. is_allowed B imported op ≡ true) ops
      → steps_in W B ops s ≡ Some t → is_finished t ≡ true → typed_from W B imported most s bytes ≡ Some (t, more)

  pub shorter : (bytes next : List ℕ) (i : Instruction ℕ) → instruction_at (λ n. n) bytes ≡ Some (i, next) → length next < length bytes
  shorter bytes next i e = (goes_on (instruction_at (λ n. n)) (λ more. instruction-reads {more = more} (λ n. n)) bytes i next e).shorter

  ended_by : (most : ℕ) (s t : State R) (bytes more : List ℕ) → bytes ≡ more → Some s ≡ Some t → is_finished t ≡ true → typed_from W B imported most s bytes ≡ Some (t, more)
  ended_by most s t bytes more e f c =
      let same : t ≡ s = cc in
      done most s bytes (subst (λ x. is_finished x ≡ true) same c) ∙ (rw (e, same) refl)

  stepped_by : (m : ℕ) → First m → (op : Instruction ℕ) (ops : List (Instruction ℕ)) (s t : State R) (bytes next more : List ℕ) (o : Option (State R)) → step_in W B op s ≡ o
      → length bytes ≤ suc m → instruction_at (λ n. n) bytes ≡ Some (op, next) → Are ops next more → is_allowed B imported op ≡ true → All (λ op. is_allowed B imported op ≡ true) ops
      → (o >>= steps_in W B ops) ≡ Some t → is_finished t ≡ true → typed_from W B imported (suc m) s bytes ≡ Some (t, more)
  stepped_by m first op ops s t bytes next more None d enough e are a rest f c = absurd cc
  stepped_by m first op ops s t bytes next more (Some u) d enough e are a rest f c =
      let less = shorter bytes next op e in
      one_step W B imported m s u bytes next op (not_closed (is_finished s) op s u refl d) e (steps op s u a d) ∙ first ops u t next more (omega (arith, less, enough)) are rest f c

  all_by : (most : ℕ) (ops : List (Instruction ℕ)) (s t : State R) (bytes more : List ℕ) → length bytes ≤ most → Are ops bytes more → All (λ op. is_allowed B imported op ≡ true) ops
      → steps_in W B ops s ≡ Some t → is_finished t ≡ true → typed_from W B imported most s bytes ≡ Some (t, more)
  all_by most [] s t bytes more enough are rest f c = ended_by most s t bytes more are f c
  all_by zero (op ∷ ops) s t bytes more enough are rest f c = let less = shorter bytes are.0 op are.1 in absurd (omega (arith, less, enough))
  all_by (suc m) (op ∷ ops) s t bytes more enough are rest f c =
      stepped_by m (all_by m) op ops s t bytes are.0 more (step_in W B op s) refl enough are.1 are.2
      (All-head (λ op. is_allowed B imported op ≡ true) op ops rest) (All-tail (λ op. is_allowed B imported op ≡ true) op ops rest) f c

  pub are_found : ConstantsAreFound W B imported
  unfolding constant_from
  are_found s bytes t more x = all_by (length bytes) x.instructions s t bytes more (omega arith) x.written x.allowed x.typed x.finished
