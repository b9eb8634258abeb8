-- Operators that need a feature take no step without it, and a `try_table` of too many catch clauses none with the limits.
use Rattle.std.proofs.Common.{◌≡◌, refl, ℕ, ◌≤◌, ◌<◌, Bool, true, false, not, ◌||◌, leb, List, [], ◌∷◌, ◌++◌, length}
use Rattle.std.specs.Prelude.{Option, Some, None, drop}
use Rattle.std.proofs.lemmas.Bool.{le-leb, lt-leb}
use Rattle.wasm_spec_rules.specs.WasmSpec.Syntax.{i64}
use Rattle.wasm_spec_rules.specs.WasmSpec.MatchingTests.{World}
use Rattle.wasm_spec_rules.specs.WasmSpec.Features.{Features}
use Rattle.wasm_spec_rules.specs.Attempts.{◌>>=◌, guard}
use Rattle.wasm_spec_rules.specs.WasmSpec.CrateLimits.{most_clauses}
use Rattle.wasm_operators.specs.Control.{try_table}
use Rattle.wasm_operators.specs.Continuations.{Continuation, cont_new, cont_bind, suspend, resume, resume_throw, resume_throw_ref, switch}
use Rattle.wasm_operators.specs.References.{Cast, ref_test, ref_cast, br_on_cast, br_on_cast_fail, ref_get_desc, ref_cast_desc_eq, br_on_cast_desc_eq, br_on_cast_desc_eq_fail}
use Rattle.wasm_operators.specs.Instructions.{Instruction, control, legacy, call, parametric, variable, table, access, memory, constant, numeric, saturating, reference, cast, conversion, structure, array, vector, atomic, wide, shared, continuation}
use Rattle.wasm_operators.specs.WasmOperatorsPlain.declared.memories.BulkMemoryOperator.{BulkMemoryOperator}
use Rattle.wasm_operators.specs.WasmOperatorsPlain.declared.memories.BulkMemoryOperator.TheVariants.{MemorySize, MemoryGrow, MemoryFill, MemoryCopy, MemoryInit, DataDrop, MemoryDiscard}
use Rattle.wasm_spec_steps.specs.Bodies.{Surroundings}
use Rattle.wasm_spec_steps.specs.Machine.{State}
use Rattle.wasm_operators.specs.WasmOperatorsAtomic.WasmOperatorsVector.Forms as vectors
use Rattle.wasm_operators.specs.WasmOperatorsAtomic.Forms as atomics
use Rattle.wasm_operators.specs.WasmOperatorsAtomic.SharedForms as shareds
use Rattle.wasm_operators.specs.WasmOperatorsAtomic.declared.shared_forms.SharedForm.{SharedForm}
use Rattle.wasm_operators.specs.WasmOperatorsProposals.declared.accesses.AccessValues.{AccessValues}
use Rattle.wasm_operators.specs.WasmOperatorsAtomic.WasmOperatorsVector.declared.forms.Form.{Form}
use Rattle.wasm_operators.specs.declared.immediates.ImmediateValues.{ImmediateValues}
use Rattle.wasm_spec_steps.specs.Forms.{types_taken, types_given, memarg_of}
use Rattle.wasm_spec_steps.specs.Actions.{Needed, Check, has, Action, need, take, give, enter, these, joined, custom_descriptors, descriptor_operators, simd, threads, vector_operators, atomic_operators, shared_atomic_operators, shared_everything_threads, exceptions, few_clauses, memory_address, wide_arithmetic, memory_control, stack_switching, stack_switching_operators}
use Rattle.wasm_spec_steps.specs.Meanings.{is_on, holds, run}
use Rattle.wasm_spec_steps.specs.Machine.{try_table_kind}
use Rattle.wasm_spec_steps.specs.Shapes.{Shape, shape_of, cast_shape, continuation_shape, form_checks, shared_checks, shared_place, shared_value, access_of, access_taken, access_given, address_of, nothing, block_checks, catch_checks, wide_taken}
use Rattle.wasm_spec_steps.specs.Steps.{checked, actions_of, is_open, step_in}
use Rattle.wasm_spec_steps.specs.Laws.{OperatorsAreOptIn, ClausesAreLimited, is_on_descriptors}
use Rattle.wasm_spec_steps.specs.ConstantExpressions.{is_constant}
use Rattle.wasm_spec_steps.specs.ServedInstructions.{serves_memory, serves_cast, serves, UnservedTakeNone}

nowhere : {X Y : Type 0} (o : Option X) (k : X → Option Y) → ((x : X) → k x ≡ None) → (o >>= k) ≡ None
nowhere None k h = refl
nowhere (Some x) k h = h x

module _ {R : Type 0} (W : World R) (B : Surroundings R) where
  -- actions behind a check of a feature that is off, and behind another check
  first : (p : Needed) (rest : List Action) → is_on B.features p ≡ false → (s : State R) → run W B (need (has p) ∷ rest) s ≡ None
  first p rest e s = rw e refl

  second : (c : Check) (p : Needed) (rest : List Action) → is_on B.features p ≡ false → (s : State R) → run W B (need c ∷ need (has p) ∷ rest) s ≡ None
  second c p rest e s = nowhere (guard (holds W B s c) s) (run W B (need (has p) ∷ rest)) (first p rest e)

  step_by : (op : Instruction ℕ) → ((s : State R) → run W B (actions_of (shape_of op)) s ≡ None) → (s : State R) → step_in W B op s ≡ None
  step_by op h s = nowhere (guard (is_open s) s) (run W B (actions_of (shape_of op))) h

-- what an operator of a form does behind the checks of its features
abbrev behind : Form → ImmediateValues → List Action
behind f values = checked (form_checks f values) (take (joined (address_of (memarg_of values)) (these (types_taken f))) ∷ give (these (types_given f)) ∷ [])

-- and what an atomic access does there
abbrev behind_access : SharedForm → AccessValues → List Action
behind_access f v = checked (shared_checks f v) (take (access_taken (access_of f) (shared_place f v) (shared_value f v)) ∷ give (access_given (access_of f) (shared_value f v)) ∷ [])

-- what an instruction does behind the first check of a feature, and behind the second
abbrev past_one : Shape → List Action
past_one x = drop 1 (actions_of x)

abbrev past_two : Shape → List Action
past_two x = drop 2 (actions_of x)

not_both : false ≡ true → ⊥
not_both e = cc

not_one : true ≡ false → ⊥
not_one e = cc

module _ {R : Type 0} (W : World R) (B : Surroundings R) where
  undescribed : (op : Cast ℕ) → is_on_descriptors op ≡ true → B.features.descriptor_operators ≡ false → (s : State R) → run W B (actions_of (cast_shape op)) s ≡ None
  undescribed (ref_get_desc x) h e = first W B descriptor_operators (past_one (cast_shape (ref_get_desc x))) e
  undescribed (ref_cast_desc_eq q) h e = first W B descriptor_operators (past_one (cast_shape (ref_cast_desc_eq q))) e
  undescribed (br_on_cast_desc_eq l r q) h e = first W B descriptor_operators (past_one (cast_shape (br_on_cast_desc_eq l r q))) e
  undescribed (br_on_cast_desc_eq_fail l r q) h e = first W B descriptor_operators (past_one (cast_shape (br_on_cast_desc_eq_fail l r q))) e
  undescribed (ref_test q) h e = absurd (not_both h)
  undescribed (ref_cast q) h e = absurd (not_both h)
  undescribed (br_on_cast l r q) h e = absurd (not_both h)
  undescribed (br_on_cast_fail l r q) h e = absurd (not_both h)

  uncustomized : (op : Cast ℕ) → is_on_descriptors op ≡ true → B.features.custom_descriptors ≡ false → (s : State R) → run W B (actions_of (cast_shape op)) s ≡ None
  uncustomized (ref_get_desc x) h e = second W B (has descriptor_operators) custom_descriptors (past_two (cast_shape (ref_get_desc x))) e
  uncustomized (ref_cast_desc_eq q) h e = second W B (has descriptor_operators) custom_descriptors (past_two (cast_shape (ref_cast_desc_eq q))) e
  uncustomized (br_on_cast_desc_eq l r q) h e = second W B (has descriptor_operators) custom_descriptors (past_two (cast_shape (br_on_cast_desc_eq l r q))) e
  uncustomized (br_on_cast_desc_eq_fail l r q) h e = second W B (has descriptor_operators) custom_descriptors (past_two (cast_shape (br_on_cast_desc_eq_fail l r q))) e
  uncustomized (ref_test q) h e = absurd (not_both h)
  uncustomized (ref_cast q) h e = absurd (not_both h)
  uncustomized (br_on_cast l r q) h e = absurd (not_both h)
  uncustomized (br_on_cast_fail l r q) h e = absurd (not_both h)

  unswitched : (op : Continuation) → B.features.stack_switching_operators ≡ false → (s : State R) → run W B (actions_of (continuation_shape op)) s ≡ None
  unswitched (cont_new n) e = first W B stack_switching_operators (past_one (continuation_shape (cont_new n))) e
  unswitched (cont_bind m n) e = first W B stack_switching_operators (past_one (continuation_shape (cont_bind m n))) e
  unswitched (suspend x) e = first W B stack_switching_operators (past_one (continuation_shape (suspend x))) e
  unswitched (resume n hs) e = first W B stack_switching_operators (past_one (continuation_shape (resume n hs))) e
  unswitched (resume_throw n x hs) e = first W B stack_switching_operators (past_one (continuation_shape (resume_throw n x hs))) e
  unswitched (resume_throw_ref n hs) e = first W B stack_switching_operators (past_one (continuation_shape (resume_throw_ref n hs))) e
  unswitched (switch n x) e = first W B stack_switching_operators (past_one (continuation_shape (switch n x))) e

  unstacked : (op : Continuation) → B.features.stack_switching ≡ false → (s : State R) → run W B (actions_of (continuation_shape op)) s ≡ None
  unstacked (cont_new n) e = second W B (has stack_switching_operators) stack_switching (past_two (continuation_shape (cont_new n))) e
  unstacked (cont_bind m n) e = second W B (has stack_switching_operators) stack_switching (past_two (continuation_shape (cont_bind m n))) e
  unstacked (suspend x) e = second W B (has stack_switching_operators) stack_switching (past_two (continuation_shape (suspend x))) e
  unstacked (resume n hs) e = second W B (has stack_switching_operators) stack_switching (past_two (continuation_shape (resume n hs))) e
  unstacked (resume_throw n x hs) e = second W B (has stack_switching_operators) stack_switching (past_two (continuation_shape (resume_throw n x hs))) e
  unstacked (resume_throw_ref n hs) e = second W B (has stack_switching_operators) stack_switching (past_two (continuation_shape (resume_throw_ref n hs))) e
  unstacked (switch n x) e = second W B (has stack_switching_operators) stack_switching (past_two (continuation_shape (switch n x))) e

pub operators_are_opt_in : {R : Type 0} → OperatorsAreOptIn R
operators_are_opt_in W B = record {
  needs_vector_operators = λ e op values. step_by W B (vector op values) (first W B vector_operators (need (has simd) ∷ behind (vectors.form_of op) values) e);
  needs_simd = λ e op values. step_by W B (vector op values) (second W B (has vector_operators) simd (behind (vectors.form_of op) values) e);
  needs_atomic_operators = λ e op values. step_by W B (atomic op values) (first W B atomic_operators (need (has threads) ∷ behind (atomics.form_of op) values) e);
  needs_threads = λ e op values. step_by W B (atomic op values) (second W B (has atomic_operators) threads (behind (atomics.form_of op) values) e);
  needs_wide_arithmetic = λ e op. step_by W B (wide op) (first W B wide_arithmetic (take (these (wide_taken op)) ∷ give (these (i64 ∷ i64 ∷ [])) ∷ []) e);
  needs_memory_control = λ e x. step_by W B (memory (MemoryDiscard x)) (first W B memory_control (take (joined (memory_address x) (memory_address x)) ∷ give nothing ∷ []) e);
  needs_shared_atomic_operators = λ e op values. step_by W B (shared op values) (first W B shared_atomic_operators (need (has shared_everything_threads) ∷ behind_access (shareds.shared_form_of op) values) e);
  needs_shared_everything_threads = λ e op values. step_by W B (shared op values) (second W B (has shared_atomic_operators) shared_everything_threads (behind_access (shareds.shared_form_of op) values) e);
  needs_descriptor_operators = λ e op s h. step_by W B (cast op) (undescribed W B op h e) s;
  needs_custom_descriptors = λ e op s h. step_by W B (cast op) (uncustomized W B op h e) s;
  needs_stack_switching_operators = λ e op. step_by W B (continuation op) (unswitched W B op e);
  needs_stack_switching = λ e op. step_by W B (continuation op) (unstacked W B op e);
}

-- an instruction that isn't served needs its feature
unserved_memory : {R : Type 0} (W : World R) (B : Surroundings R) (op : BulkMemoryOperator) (s : State R) → serves_memory B.features op ≡ false → step_in W B (memory op) s ≡ None
unserved_memory W B (MemoryDiscard x) s e = (operators_are_opt_in W B).needs_memory_control e x s
unserved_memory W B (MemorySize x) s e = absurd (not_one e)
unserved_memory W B (MemoryGrow x) s e = absurd (not_one e)
unserved_memory W B (MemoryFill x) s e = absurd (not_one e)
unserved_memory W B (MemoryCopy x y) s e = absurd (not_one e)
unserved_memory W B (MemoryInit y x) s e = absurd (not_one e)
unserved_memory W B (DataDrop y) s e = absurd (not_one e)

unserved_cast : {R : Type 0} (W : World R) (B : Surroundings R) (op : Cast ℕ) (s : State R) → serves_cast B.features op ≡ false → step_in W B (cast op) s ≡ None
unserved_cast W B (ref_get_desc x) s e = (operators_are_opt_in W B).needs_descriptor_operators e (ref_get_desc x) s refl
unserved_cast W B (ref_cast_desc_eq q) s e = (operators_are_opt_in W B).needs_descriptor_operators e (ref_cast_desc_eq q) s refl
unserved_cast W B (br_on_cast_desc_eq l r q) s e = (operators_are_opt_in W B).needs_descriptor_operators e (br_on_cast_desc_eq l r q) s refl
unserved_cast W B (br_on_cast_desc_eq_fail l r q) s e = (operators_are_opt_in W B).needs_descriptor_operators e (br_on_cast_desc_eq_fail l r q) s refl
unserved_cast W B (ref_test q) s e = absurd (not_one e)
unserved_cast W B (ref_cast q) s e = absurd (not_one e)
unserved_cast W B (br_on_cast l r q) s e = absurd (not_one e)
unserved_cast W B (br_on_cast_fail l r q) s e = absurd (not_one e)

unserved_step : {R : Type 0} (W : World R) (B : Surroundings R) (op : Instruction ℕ) (s : State R) → serves B.features op ≡ false → step_in W B op s ≡ None
unserved_step W B (memory op) s e = unserved_memory W B op s e
unserved_step W B (cast op) s e = unserved_cast W B op s e
unserved_step W B (wide op) s e = (operators_are_opt_in W B).needs_wide_arithmetic e op s
unserved_step W B (shared op values) s e = (operators_are_opt_in W B).needs_shared_atomic_operators e op values s
unserved_step W B (continuation op) s e = (operators_are_opt_in W B).needs_stack_switching_operators e op s
unserved_step W B (control op) s e = absurd (not_one e)
unserved_step W B (legacy op) s e = absurd (not_one e)
unserved_step W B (call op) s e = absurd (not_one e)
unserved_step W B (parametric op) s e = absurd (not_one e)
unserved_step W B (variable op) s e = absurd (not_one e)
unserved_step W B (table op) s e = absurd (not_one e)
unserved_step W B (access op m) s e = absurd (not_one e)
unserved_step W B (constant op) s e = absurd (not_one e)
unserved_step W B (numeric op) s e = absurd (not_one e)
unserved_step W B (saturating op) s e = absurd (not_one e)
unserved_step W B (reference op) s e = absurd (not_one e)
unserved_step W B (conversion op) s e = absurd (not_one e)
unserved_step W B (structure op) s e = absurd (not_one e)
unserved_step W B (array op) s e = absurd (not_one e)
unserved_step W B (vector op values) s e = absurd (not_one e)
unserved_step W B (atomic op values) s e = absurd (not_one e)

unserved_constant : (F : Features) (op : Instruction ℕ) → serves F op ≡ false → is_constant F op ≡ false
unserved_constant F (memory op) e = refl
unserved_constant F (cast op) e = refl
unserved_constant F (wide op) e = refl
unserved_constant F (shared op values) e = refl
unserved_constant F (continuation op) e = refl
unserved_constant F (control op) e = absurd (not_one e)
unserved_constant F (legacy op) e = absurd (not_one e)
unserved_constant F (call op) e = absurd (not_one e)
unserved_constant F (parametric op) e = absurd (not_one e)
unserved_constant F (variable op) e = absurd (not_one e)
unserved_constant F (table op) e = absurd (not_one e)
unserved_constant F (access op m) e = absurd (not_one e)
unserved_constant F (constant op) e = absurd (not_one e)
unserved_constant F (numeric op) e = absurd (not_one e)
unserved_constant F (saturating op) e = absurd (not_one e)
unserved_constant F (reference op) e = absurd (not_one e)
unserved_constant F (conversion op) e = absurd (not_one e)
unserved_constant F (structure op) e = absurd (not_one e)
unserved_constant F (array op) e = absurd (not_one e)
unserved_constant F (vector op values) e = absurd (not_one e)
unserved_constant F (atomic op values) e = absurd (not_one e)

pub unserved_take_none : {R : Type 0} → UnservedTakeNone R
unserved_take_none W B = record {
  step = unserved_step W B;
  constant = unserved_constant B.features;
}

-- a number against a limit that is asked for, that isn't, and that the number keeps
past : (b : Bool) (n most : ℕ) → b ≡ true → most < n → (not b || leb n most) ≡ false
past b n most e h = rw (e, lt-leb n most h) refl

unasked : (b : Bool) (n most : ℕ) → b ≡ false → (not b || leb n most) ≡ true
unasked b n most e = rw e refl

kept : (b : Bool) (n most : ℕ) → n ≤ most → (not b || leb n most) ≡ true
kept true n most h = le-leb n most h
kept false n most h = refl

pub clauses_are_limited : {R : Type 0} → ClausesAreLimited R
clauses_are_limited W B = record {
  limited = λ e b cs h. step_by W B (control (try_table b cs))
      (first W B (few_clauses (length cs)) (checked (has exceptions ∷ block_checks b ++ catch_checks cs) (take nothing ∷ enter try_table_kind b ∷ [])) (past B.features.crate_limits (length cs) most_clauses e h));
  without = λ e n s. unasked B.features.crate_limits n most_clauses e;
  within = λ n h s. kept B.features.crate_limits n most_clauses h;
}
