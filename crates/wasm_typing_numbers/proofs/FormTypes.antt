-- Operators by their forms: what their checks say, and the types that they take.
use Rattle.std.proofs.Common.{◌≡◌, ℕ, Bool, true, false, ◌&&◌, ◌||◌, ◌^◌, List, [], ◌∷◌, ◌++◌, map, refl, sym, ap, subst, ◌∙◌}
use Rattle.std.specs.Option.{option_map}
use Rattle.std.specs.Prelude.{Option, Some, None, Result, Err, slice_get, nat_lt}
use Rattle.wasm_readers_errors.specs.WasmSpec.Syntax.{Val}
use Rattle.wasm_readers_errors.specs.WasmSpec.ValueTypes.{allows_val}
use Rattle.wasm_readers_types.specs.SeenExterns.{memory_of}
use Rattle.wasm_readers_types.specs.declared.externs.MemoryType.{MemoryType}
use Rattle.wasm_readers_types.specs.WasmReadersValues.declared.indices.UnpackedIndex.{UnpackedIndex}
use Rattle.wasm_operators.specs.WasmOperatorsPlain.declared.memories.MemArg.{MemArg}
use Rattle.wasm_operators.specs.WasmOperatorsAtomic.WasmOperatorsVector.declared.forms.ValueType.{ValueType}
use Rattle.wasm_operators.specs.WasmOperatorsAtomic.WasmOperatorsVector.declared.forms.ValueType.TheVariants as number
use Rattle.wasm_operators.specs.WasmOperatorsAtomic.WasmOperatorsVector.declared.forms.Immediates.{Immediates}
use Rattle.wasm_operators.specs.WasmOperatorsAtomic.WasmOperatorsVector.declared.forms.Immediates.TheVariants as form
use Rattle.wasm_operators.specs.WasmOperatorsAtomic.WasmOperatorsVector.declared.forms.Operands.{Operands}
use Rattle.wasm_operators.specs.WasmOperatorsAtomic.WasmOperatorsVector.declared.forms.Operands.TheVariants as operands
use Rattle.wasm_operators.specs.WasmOperatorsAtomic.WasmOperatorsVector.declared.forms.Form.{Form}
use Rattle.wasm_operators.specs.WasmOperatorsAtomic.WasmOperatorsVector.declared.forms.Form.TheVariants.{Compute, Access}
use Rattle.wasm_operators.specs.declared.immediates.ImmediateValues.{ImmediateValues}
use Rattle.wasm_operators.specs.declared.immediates.ImmediateValues.TheVariants as given
use Rattle.wasm_typing_checks.specs.WasmSpecRules.Contexts.{Context}
use Rattle.wasm_typing_checks.specs.WasmSpecRules.FeatureFlags.{features_of}
use Rattle.wasm_typing_checks.specs.WasmSpecRules.Signatures.{resolve_val, resolve_vals}
use Rattle.wasm_typing_checks.specs.WasmSpecSteps.Actions.{these, joined, memory_address, suits, allows, Action, need}
use Rattle.wasm_typing_checks.specs.WasmSpecSteps.Forms.{value_type, operand_types, result_types, types_taken, types_given, allows_each, suits_immediates, suits_form, memarg_of, reaches_memory}
use Rattle.wasm_typing_checks.specs.WasmSpecSteps.Shapes.{address_of, allow_each}
use Rattle.wasm_typing_checks.specs.WasmSpecSteps.Machine.{State}
use Rattle.wasm_typing_checks.specs.WasmSpecSteps.Meanings.{address}
use Rattle.wasm_typing_checks.specs.WasmTypingStacks.declared.stacks.Stacks.{Stacks}
use Rattle.wasm_typing_checks.specs.Steps.{Took, acted, typed, held}
use Rattle.wasm_typing_checks.specs.declared.faults.OperatorFault.{OperatorFault}
use Rattle.wasm_typing_checks.specs.declared.faults.OperatorError.{OperatorError}
use Rattle.wasm_typing_checks.specs.declared.faults.OperatorError.TheVariants.{Refused}
use Rattle.wasm_typing_checks.proofs.ActionSteps.{needed, refused_here, refused_later, allows_held}
use Rattle.wasm_typing_checks.proofs.TypeLookups.{nothing_typed, joined_typed, both_typed, memory_typed}
use Rattle.wasm_typing_numbers.specs.Forms.{stored_types, operands_in, result_in}

-- types by the parts of a form
taken_in : {R : Type 0} (f : Form) → types_taken {R = R} f ≡ operand_types (operands_in f)
taken_in (Compute i t g) = refl
taken_in (Access a lanes t g) = refl

given_in : {R : Type 0} (f : Form) → types_given {R = R} f ≡ result_types (result_in f)
given_in (Compute i t g) = refl
given_in (Access a lanes t g) = refl

value_resolved : (ts : List UnpackedIndex) (x : ValueType) → resolve_val ts (value_type x) ≡ Some (value_type x)
value_resolved ts number.I32 = refl
value_resolved ts number.I64 = refl
value_resolved ts number.F32 = refl
value_resolved ts number.F64 = refl
value_resolved ts number.V128 = refl

operands_resolved : (ts : List UnpackedIndex) (t : Operands) → resolve_vals ts (operand_types t) ≡ Some (operand_types t)
operands_resolved ts operands.Nothing = refl
operands_resolved ts (operands.One x) = rw (value_resolved ts x) refl
operands_resolved ts (operands.Two x y) = rw (value_resolved ts x, value_resolved ts y) refl
operands_resolved ts (operands.Three x y z) = rw (value_resolved ts x, value_resolved ts y, value_resolved ts z) refl

result_resolved : (ts : List UnpackedIndex) (g : Option ValueType) → resolve_vals ts (result_types g) ≡ Some (result_types g)
result_resolved ts None = refl
result_resolved ts (Some x) = rw (value_resolved ts x) refl

-- an operator that accesses no memory has no memory argument
no_memarg : (i : Immediates) (values : ImmediateValues) (m : MemArg) → suits_immediates i values ≡ true → Some m ≡ memarg_of values → ⊥
no_memarg i given.Nothing m s e = cc
no_memarg i (given.Lane l) m s e = cc
no_memarg i (given.Lanes v) m s e = cc
no_memarg form.Nothing (given.MemArg a) m s e = cc
no_memarg (form.Lane n) (given.MemArg a) m s e = cc
no_memarg form.Lanes (given.MemArg a) m s e = cc
no_memarg form.Zero (given.MemArg a) m s e = cc
no_memarg form.Nothing (given.MemArgLane a l) m s e = cc
no_memarg (form.Lane n) (given.MemArgLane a l) m s e = cc
no_memarg form.Lanes (given.MemArgLane a l) m s e = cc
no_memarg form.Zero (given.MemArgLane a l) m s e = cc

-- where a memory is accessed two operands are all
both_stored : (f : Form) (values : ImmediateValues) (m : MemArg) → suits_form f values ≡ true → Some m ≡ memarg_of values → stored_types (operands_in f) ≡ operand_types (operands_in f)
both_stored (Access a lanes (operands.Three x y z) g) values m s e = cc
both_stored (Access a lanes operands.Nothing g) values m s e = refl
both_stored (Access a lanes (operands.One x) g) values m s e = refl
both_stored (Access a lanes (operands.Two x y) g) values m s e = refl
both_stored (Compute i operands.Nothing g) values m s e = refl
both_stored (Compute i (operands.One x) g) values m s e = refl
both_stored (Compute i (operands.Two x y) g) values m s e = refl
both_stored (Compute i (operands.Three x y z) g) values m s e = absurd (no_memarg i values m s e)

-- the first of two flags
left_of : (a b : Bool) → a ≡ false → (a && b) ≡ false
left_of a b e = rw e refl

module _ {A : Type 0} (v : Stacks A) (C : Context UnpackedIndex) where
  -- immediates
  pub unsuited : (f : Form) (values : ImmediateValues) → suits_form f values ≡ false → held v C (suits f values) ≡ false
  unfolding held
  unsuited f values e = left_of (suits_form f values) (reaches_memory C.memories (memarg_of values)) e

  pub suited_alone : (f : Form) (values : ImmediateValues) → suits_form f values ≡ true → None ≡ memarg_of values → held v C (suits f values) ≡ true
  unfolding held
  suited_alone f values e n = rw (e, ← n) refl

  pub suited_there :
      (f : Form) (values : ImmediateValues) (m : MemArg) (x : MemoryType) (b : Bool) → suits_form f values ≡ true → Some m ≡ memarg_of values → option_map memory_of (Some x) ≡ slice_get C.memories m.memory
      → (x.memory64 || nat_lt m.offset (2 ^ 32)) ≡ b → held v C (suits f values) ≡ b
  unfolding held
  suited_there f values m x b e n k h = rw (e, ← n, ← k) h

  pub suited_nowhere : (f : Form) (values : ImmediateValues) (m : MemArg) → suits_form f values ≡ true → Some m ≡ memarg_of values → option_map memory_of None ≡ slice_get C.memories m.memory → held v C (suits f values) ≡ false
  unfolding held
  suited_nowhere f values m e n k = rw (e, ← n, ← k) refl

  -- types that the features allow, and one that they don't
  both_of : (a b : Bool) → (a && b) ≡ true → (a ≡ true) × (b ≡ true)
  both_of true b e = (refl, e)
  both_of false b e = cc

  pub each_allowed : (vs : List (Val ℕ)) (r : Result (Unit {0}) OperatorError) (rest : List Action) (old new : State UnpackedIndex)
      → allows_each (features_of v.features) vs ≡ true → Took r (acted v C rest) old new → Took r (acted v C (map need (allow_each vs) ++ rest)) old new
  each_allowed [] r rest old new e t = t
  each_allowed (w ∷ vs) r rest old new e t =
      let p = both_of (allows_val (features_of v.features) w) (allows_each (features_of v.features) vs) e in
      needed v C r (allows w) (map need (allow_each vs) ++ rest) old new (allows_held v C w true p.0) (each_allowed vs r rest old new p.1 t)

  not_each : (w : Val ℕ) (vs : List (Val ℕ)) (f : OperatorFault) (rest : List Action) (old : State UnpackedIndex) (b : Bool) → allows_val (features_of v.features) w ≡ b
      → (b && allows_each (features_of v.features) vs) ≡ false → (allows_each (features_of v.features) vs ≡ false → Took (Err (Refused f)) (acted v C (map need (allow_each vs) ++ rest)) old old)
      → Took (Err (Refused f)) (acted v C (need (allows w) ∷ map need (allow_each vs) ++ rest)) old old
  not_each w vs f rest old false a e t = refused_here v C f (allows w) (map need (allow_each vs) ++ rest) old (allows_held v C w false a)
  not_each w vs f rest old true a e t = refused_later v C f (allows w) (map need (allow_each vs) ++ rest) old old (t e)

  pub one_not_allowed : (vs : List (Val ℕ)) (f : OperatorFault) (rest : List Action) (old : State UnpackedIndex)
      → allows_each (features_of v.features) vs ≡ false → Took (Err (Refused f)) (acted v C (map need (allow_each vs) ++ rest)) old old
  one_not_allowed [] f rest old e = cc
  one_not_allowed (w ∷ vs) f rest old e = not_each w vs f rest old (allows_val (features_of v.features) w) refl e (one_not_allowed vs f rest old)

  -- types by forms
  pub form_allowed : (f : Form) (t : Operands) (g : Option ValueType) (b : Bool) → operands_in f ≡ t → result_in f ≡ g
      → b ≡ allows_each (features_of v.features) (operand_types t ++ result_types g) → allows_each (features_of v.features) (types_taken f ++ types_given f) ≡ b
  form_allowed f t g b e h a = rw (taken_in {R = ℕ} f, given_in {R = ℕ} f, e, h) (sym a)

  pub result_typed : (f : Form) (g : Option ValueType) (xs : List (Val UnpackedIndex)) → result_in f ≡ g → xs ≡ result_types g → typed v C (these (types_given f)) ≡ Some xs
  unfolding typed
  result_typed f g xs e h = rw (given_in {R = ℕ} f, e, result_resolved C.types g, h) refl

  pub operands_typed : (f : Form) (t : Operands) → operands_in f ≡ t → typed v C (these (types_taken f)) ≡ Some (operand_types t)
  unfolding typed
  operands_typed f t e = rw (taken_in {R = ℕ} f, e) (operands_resolved C.types t)

  -- what is taken, without an address and with one
  pub taken_typed : (f : Form) (values : ImmediateValues) (t : Operands) (xs : List (Val UnpackedIndex)) → None ≡ memarg_of values → operands_in f ≡ t → xs ≡ operand_types t
      → typed v C (joined (address_of (memarg_of values)) (these (types_taken f))) ≡ Some xs
  taken_typed f values t xs n e h =
      rw (← n) (both_typed v C (these []) (these (types_taken f)) [] (operand_types t) (nothing_typed v C) (operands_typed f t e) ∙ ap Some (sym h))

  pub taken_above_typed :
      (f : Form) (values : ImmediateValues) (m : MemArg) (x : MemoryType) (a : Val UnpackedIndex) (t : Operands) (xs : List (Val UnpackedIndex)) → suits_form f values ≡ true → Some m ≡ memarg_of values
      → option_map memory_of (Some x) ≡ slice_get C.memories m.memory → a ≡ address x.memory64 → operands_in f ≡ t → xs ≡ a ∷ stored_types t
      → typed v C (joined (address_of (memarg_of values)) (these (types_taken f))) ≡ Some xs
  taken_above_typed f values m x a t xs s n k d e h =
      let stored : stored_types t ≡ operand_types t = subst (λ (u : Operands). stored_types u ≡ operand_types u) e (both_stored f values m s n) in
      rw (← n) (joined_typed v C (memory_address m.memory) (these (types_taken f)) a (operand_types t) (memory_typed v C m.memory x a k d) (operands_typed f t e)
      ∙ ap Some (sym (h ∙ ap (λ (ys : List (Val UnpackedIndex)). a ∷ ys) stored)))

  -- all checks of a form: one type isn't allowed, or all checks hold
  pub not_allowed : (f : Form) (values : ImmediateValues) (t : Operands) (g : Option ValueType) (fault : OperatorFault) (rest : List Action) (old : State UnpackedIndex)
      → operands_in f ≡ t → result_in f ≡ g → false ≡ allows_each (features_of v.features) (operand_types t ++ result_types g)
      → Took (Err (Refused fault)) (acted v C (need (suits f values) ∷ map need (allow_each (types_taken f ++ types_given f)) ++ rest)) old old
  not_allowed f values t g fault rest old e h a =
      refused_later v C fault (suits f values) (map need (allow_each (types_taken f ++ types_given f)) ++ rest) old old
      (one_not_allowed (types_taken f ++ types_given f) fault rest old (form_allowed f t g false e h a))

  pub formed : (r : Result (Unit {0}) OperatorError) (f : Form) (values : ImmediateValues) (t : Operands) (g : Option ValueType) (rest : List Action) (old new : State UnpackedIndex)
      → held v C (suits f values) ≡ true → operands_in f ≡ t → result_in f ≡ g → true ≡ allows_each (features_of v.features) (operand_types t ++ result_types g) → Took r (acted v C rest) old new
      → Took r (acted v C (need (suits f values) ∷ map need (allow_each (types_taken f ++ types_given f)) ++ rest)) old new
  formed r f values t g rest old new s e h a k =
      needed v C r (suits f values) (map need (allow_each (types_taken f ++ types_given f)) ++ rest) old new s
      (each_allowed (types_taken f ++ types_given f) r rest old new (form_allowed f t g true e h a) k)

pub ruleset forms = (unsuited, suited_alone, suited_there, suited_nowhere, not_allowed, formed, result_typed, taken_typed, taken_above_typed)
