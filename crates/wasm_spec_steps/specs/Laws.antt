-- Laws of the steps, as facts that a contract can name.
use Rattle.std.specs.Prelude.{◌≡◌, ◌≤◌, ◌<◌, ℕ, Bool, true, false, ◌&&◌, List, ◌++◌, length, Option, Some, None, is_some}
use Rattle.std.specs.Bool.{Decides}
use Rattle.std.specs.Option.{option_map}
use Rattle.wasm_spec_rules.specs.WasmSpec.Syntax.{Sub}
use Rattle.wasm_spec_rules.specs.WasmSpec.SupertypeOrder.{ancestor_at, IsAncestor}
use Rattle.wasm_spec_rules.specs.WasmSpec.CrateLimits.{most_clauses}
use Rattle.wasm_spec_rules.specs.WasmSpec.MatchingTests.{World, IsWorld}
use Rattle.wasm_spec_rules.specs.Contexts.{Context}
use Rattle.wasm_operators.specs.WasmOperatorsPlain.Numeric.{numeric_opcode}
use Rattle.wasm_operators.specs.WasmOperatorsPlain.Signatures.{signature_at}
use Rattle.wasm_operators.specs.WasmOperatorsPlain.declared.numeric.NumericOperator.{NumericOperator}
use Rattle.wasm_operators.specs.Control.{Block, try_table}
use Rattle.wasm_operators.specs.declared.control.Catch.{Catch}
use Rattle.wasm_operators.specs.Maps.{map_block}
use Rattle.wasm_operators.specs.Instructions.{Instruction, control, memory, numeric, legacy, cast, vector, atomic, wide, shared, continuation}
use Rattle.wasm_operators.specs.WasmOperatorsPlain.declared.memories.BulkMemoryOperator.TheVariants.{MemoryDiscard}
use Rattle.wasm_operators.specs.WasmOperatorsAtomic.declared.wide.WideOperator.{WideOperator}
use Rattle.wasm_operators.specs.WasmOperatorsAtomic.WasmOperatorsVector.declared.operators.VectorOperator.{VectorOperator}
use Rattle.wasm_operators.specs.WasmOperatorsAtomic.declared.operators.AtomicOperator.{AtomicOperator}
use Rattle.wasm_operators.specs.WasmOperatorsAtomic.declared.shared.SharedAtomicOperator.{SharedAtomicOperator}
use Rattle.wasm_operators.specs.WasmOperatorsProposals.declared.accesses.AccessValues.{AccessValues}
use Rattle.wasm_operators.specs.declared.immediates.ImmediateValues.{ImmediateValues}
use Rattle.wasm_operators.specs.Legacy.{Legacy}
use Rattle.wasm_operators.specs.Continuations.{Continuation}
use Rattle.wasm_operators.specs.References.{Cast, ref_get_desc, ref_cast_desc_eq, br_on_cast_desc_eq, br_on_cast_desc_eq_fail}
use Rattle.wasm_spec_rules.specs.Worlds.{declared_in, world_of}
use Rattle.wasm_spec_steps.specs.Bodies.{Surroundings, map_surroundings}
use Rattle.wasm_spec_steps.specs.Machine.{State, map_state}
use Rattle.wasm_spec_steps.specs.Identities.{refs_surroundings, refs_state, refs_block, IsOneToOneOn}
use Rattle.wasm_spec_steps.specs.ConstantExpressions.{gives_reference, takes_no_reference, is_number, GivesOne, GivesOneReference}
use Rattle.wasm_spec_steps.specs.Actions.{has, few_clauses}
use Rattle.wasm_spec_steps.specs.Meanings.{holds}
use Rattle.wasm_spec_steps.specs.Shapes.{computing, shape_of}
use Rattle.wasm_spec_steps.specs.Steps.{step_in, step, steps, is_typed}

-- A step, a run of steps and a finish over renamed identities are those over the identities themselves, renamed.
pub record AreRenamed {R S : Type 0} (same : R → R → Bool) (renamed : S → S → Bool) (f : R → S) (B : Surroundings R) : Type 0 where
  pub step : (op : Instruction ℕ) (s : State R) → step renamed (map_surroundings f B) op (map_state f s) ≡ option_map (map_state f) (step same B op s)
  pub steps : (ops : List (Instruction ℕ)) (s : State R) → steps renamed (map_surroundings f B) ops (map_state f s) ≡ option_map (map_state f) (steps same B ops s)
  pub typed : (b : Block R) (ops : List (Instruction ℕ)) → is_typed renamed (map_surroundings f B) (map_block f b) ops ≡ is_typed same B b ops

-- They are, where renamed identities are the same exactly where they were.
abbrev pub StepsRename : (R S : Type 0) → Type 0
StepsRename R S =
    (same : R → R → Bool) (renamed : S → S → Bool) (f : R → S) → ((a b : R) → renamed (f a) (f b) ≡ same a b) → (B : Surroundings R) → AreRenamed same renamed f B

-- Whether a step can be taken, whether a run of steps can, and whether it leads to the end of a frame doesn't depend on the identities
-- of types, as long as the renaming is one-to-one on those in the context, the locals and the state.
pub record KeepsVerdicts {R S : Type 0} (same : R → R → Bool) (renamed : S → S → Bool) (f : R → S) (B : Surroundings R) : Type 0 where
  pub step :
      (op : Instruction ℕ) (s : State R) → IsOneToOneOn same renamed f (refs_surroundings B ++ refs_state s)
      → is_some (step renamed (map_surroundings f B) op (map_state f s)) ≡ is_some (step same B op s)
  pub steps :
      (ops : List (Instruction ℕ)) (s : State R) → IsOneToOneOn same renamed f (refs_surroundings B ++ refs_state s)
      → is_some (steps renamed (map_surroundings f B) ops (map_state f s)) ≡ is_some (steps same B ops s)
  pub typed :
      (b : Block R) (ops : List (Instruction ℕ)) → IsOneToOneOn same renamed f (refs_surroundings B ++ refs_block b)
      → is_typed renamed (map_surroundings f B) (map_block f b) ops ≡ is_typed same B b ops

abbrev pub VerdictsRename : (R S : Type 0) → Type 0
VerdictsRename R S = Discrete R → (same : R → R → Bool) (renamed : S → S → Bool) (f : R → S) (B : Surroundings R) → KeepsVerdicts same renamed f B

-- the descriptor of a reference, and casts and branches by descriptors
abbrev pub is_on_descriptors : Cast ℕ → Bool
is_on_descriptors (ref_get_desc x) = true
is_on_descriptors (ref_cast_desc_eq q) = true
is_on_descriptors (br_on_cast_desc_eq l r q) = true
is_on_descriptors (br_on_cast_desc_eq_fail l r q) = true
is_on_descriptors _ = false

-- Where one of their two features is off no step is taken by an operator on vectors, by an atomic one, by an atomic access to a global, a
-- table, a structure or an array, by an operator on descriptors or by one on continuations. Where its feature is off none is taken by a
-- wide operator, and none by `memory.discard`.
pub record AreOptIn {R : Type 0} (W : World R) (B : Surroundings R) : Type 0 where
  pub needs_vector_operators : B.features.vector_operators ≡ false → (op : VectorOperator) (values : ImmediateValues) (s : State R) → step_in W B (vector op values) s ≡ None
  pub needs_simd : B.features.simd ≡ false → (op : VectorOperator) (values : ImmediateValues) (s : State R) → step_in W B (vector op values) s ≡ None
  pub needs_atomic_operators : B.features.atomic_operators ≡ false → (op : AtomicOperator) (values : ImmediateValues) (s : State R) → step_in W B (atomic op values) s ≡ None
  pub needs_threads : B.features.threads ≡ false → (op : AtomicOperator) (values : ImmediateValues) (s : State R) → step_in W B (atomic op values) s ≡ None
  pub needs_wide_arithmetic : B.features.wide_arithmetic ≡ false → (op : WideOperator) (s : State R) → step_in W B (wide op) s ≡ None
  pub needs_memory_control : B.features.memory_control ≡ false → (x : ℕ) (s : State R) → step_in W B (memory (MemoryDiscard x)) s ≡ None
  pub needs_shared_atomic_operators : B.features.shared_atomic_operators ≡ false → (op : SharedAtomicOperator) (values : AccessValues) (s : State R) → step_in W B (shared op values) s ≡ None
  pub needs_shared_everything_threads : B.features.shared_everything_threads ≡ false → (op : SharedAtomicOperator) (values : AccessValues) (s : State R) → step_in W B (shared op values) s ≡ None
  pub needs_descriptor_operators : B.features.descriptor_operators ≡ false → (op : Cast ℕ) (s : State R) → is_on_descriptors op ≡ true → step_in W B (cast op) s ≡ None
  pub needs_custom_descriptors : B.features.custom_descriptors ≡ false → (op : Cast ℕ) (s : State R) → is_on_descriptors op ≡ true → step_in W B (cast op) s ≡ None
  pub needs_stack_switching_operators : B.features.stack_switching_operators ≡ false → (op : Continuation) (s : State R) → step_in W B (continuation op) s ≡ None
  pub needs_stack_switching : B.features.stack_switching ≡ false → (op : Continuation) (s : State R) → step_in W B (continuation op) s ≡ None

abbrev pub OperatorsAreOptIn : (R : Type 0) → Type 0
OperatorsAreOptIn R = (W : World R) (B : Surroundings R) → AreOptIn W B

-- Where limits are asked for, no step is taken by a `try_table` of more catch clauses. Where they aren't, and up to the limit, the
-- number of clauses is no obstacle.
pub record AreClausesLimited {R : Type 0} (W : World R) (B : Surroundings R) : Type 0 where
  pub limited : B.features.crate_limits ≡ true → (b : Block ℕ) (cs : List Catch) → most_clauses < length cs → (s : State R) → step_in W B (control (try_table b cs)) s ≡ None
  pub without : B.features.crate_limits ≡ false → (n : ℕ) (s : State R) → holds W B s (has (few_clauses n)) ≡ true
  pub within : (n : ℕ) → n ≤ most_clauses → (s : State R) → holds W B s (has (few_clauses n)) ≡ true

abbrev pub ClausesAreLimited : (R : Type 0) → Type 0
ClausesAreLimited R = (W : World R) (B : Surroundings R) → AreClausesLimited W B

-- A numeric instruction checks, takes and gives what the table of signatures says of its opcode.
abbrev pub NumericShapesByOpcode : Type 0
NumericShapesByOpcode = (op : NumericOperator) → option_map computing (signature_at (numeric_opcode op)) ≡ Some (shape_of (numeric op))

-- Without their feature, or without that of exceptions, no step is taken by an operator of the legacy exception-handling proposal.
abbrev pub LegacyNeedsFeatures : (R : Type 0) → Type 0
LegacyNeedsFeatures R =
    (W : World R) (B : Surroundings R) (op : Legacy ℕ) (s : State R) → (B.features.legacy_exceptions && B.features.exceptions) ≡ false → step_in W B (legacy op) s ≡ None

-- Of the instructions of constant expressions some give exactly one reference each, and the others take none.
pub record ReferencesAreCounted {R : Type 0} (same : R → R → Bool) (B : Surroundings R) : Type 0 where
  pub gives_one : (op : Instruction ℕ) (s t : State R) → gives_reference op ≡ true → step same B op s ≡ Some t → GivesOneReference s.operands t.operands
  pub takes_none : (op : Instruction ℕ) (s t : State R) → takes_no_reference op ≡ true → step same B op s ≡ Some t → GivesOne is_number s.operands t.operands

abbrev pub ConstantsGiveReferences : (R : Type 0) → Type 0
ConstantsGiveReferences R = (same : R → R → Bool) (B : Surroundings R) → ReferencesAreCounted same B

-- b is an ancestor of a, or a itself, no further away than so many steps
pub record IsNear {R : Type 0} (C : Context R) (D : R → Option (Sub R)) (a b : R) : Type 0 where
  pub steps : ℕ
  pub within : steps ≤ length C.declares
  pub leads : ancestor_at D steps a ≡ Some b

-- Where the test for the same identity is right, and no ancestor is further away than there are types that declare something, the tests of
-- a context's world are right: so is then what `matches_val` says of value types.
abbrev pub WorldsAreRight : (R : Type 0) → Type 0
WorldsAreRight R =
    (same : R → R → Bool) (C : Context R) → ((a b : R) → Decides (same a b) (a ≡ b))
    → ((a b : R) → IsAncestor (declared_in same C.declares) a b → IsNear C (declared_in same C.declares) a b) → IsWorld (world_of same C)
