-- How the rules of the shapes read for instructions whose types the context fixes: calls, exceptions, globals, tables,
-- functions, casts, loads, structures, arrays and continuations.
-- Core Specification 3.0, Validation, Instructions.
use Rattle.std.specs.Prelude.{◌≡◌, ◌↔◌, ℕ, true, false, List, [], ◌∷◌, ◌++◌, map, Some, length, slice_get}
use Rattle.wasm_spec_steps.specs.WasmSpecRules.WasmSpec.Syntax.{exn_heap, abstract_heap, concrete, Heap, Ref, Val, Field, Global, Table, Memory, i32, i64, reference}
use Rattle.wasm_spec_steps.specs.WasmSpecRules.WasmSpec.MatchingTests.{World}
use Rattle.wasm_spec_steps.specs.WasmSpecRules.Attempts.{among}
use Rattle.wasm_spec_steps.specs.WasmSpecRules.Signatures.{Signature, resolve_ref, resolve_val}
use Rattle.wasm_operators.specs.Control as control
use Rattle.wasm_operators.specs.References as references
use Rattle.wasm_operators.specs.Continuations as continuations
use Rattle.wasm_operators.specs.WasmOperatorsProposals.declared.continuations.Handle.{Handle}
use Rattle.wasm_operators.specs.Instructions as instruction
use Rattle.wasm_operators.specs.WasmOperatorsPlain.declared.calls.CallOperator.TheVariants.{Call, CallRef}
use Rattle.wasm_operators.specs.WasmOperatorsPlain.declared.variables.VariableOperator.TheVariants.{GlobalGet, GlobalSet}
use Rattle.wasm_operators.specs.WasmOperatorsPlain.declared.tables.TableOperator.TheVariants.{TableGet}
use Rattle.wasm_operators.specs.WasmOperatorsPlain.declared.memories.MemoryOperator.{MemoryOperator}
use Rattle.wasm_operators.specs.WasmOperatorsPlain.declared.memories.MemArg.{MemArg}
use Rattle.wasm_operators.specs.WasmOperatorsPlain.declared.structs.StructOperator.TheVariants.{StructNew, StructGet}
use Rattle.wasm_operators.specs.WasmOperatorsPlain.declared.arrays.ArrayOperator.TheVariants.{ArrayGet}
use Rattle.wasm_operators.specs.WasmOperatorsAtomic.declared.wide.WideOperator.TheVariants.{I64Add128, I64MulWideS}
use Rattle.wasm_spec_steps.specs.Bodies.{Surroundings}
use Rattle.wasm_spec_steps.specs.Actions.{of_type, of_function, of_tag, reaches_function, reaches_global, reaches_table, reaches_type, can_be_tested, has_no_descriptor, allows, field_is_packed, element_is_packed}
use Rattle.wasm_spec_steps.specs.Shapes.{loading}
use Rattle.wasm_spec_steps.specs.Meanings.{signature_at, function_heap, top_heap, descriptor_heap, exact_if, fields_at, field_at, element_at, unpack_field, allows_memarg, address, holds}
use Rattle.wasm_spec_instructions.specs.ValueTypes.{ValueType, val, vals, reference_at}
use Rattle.wasm_spec_instructions.specs.Scopes.{Scope, nowhere}
use Rattle.wasm_spec_instructions.specs.Rules.{Rule}
use Rattle.wasm_spec_instructions.specs.Names.{Goes}
use Rattle.wasm_spec_instructions.specs.ContinuationShapes.{MakesContinuation, Binds, Suspends, Resumes, ResumesByTag, ResumesByException, Switches}

module _ {R : Type 0} (W : World R) (B : Surroundings R) where
  -- `nop : eps -> eps`
  pub record DoesNothing (ts us : List (ValueType R)) : Type 0 where
    pub takes : ts ≡ []
    pub gives : us ≡ []

  -- `call x : t1* -> t2*`, where C.funcs[x] = t1* -> t2*
  pub record Calls (x : ℕ) (ts us : List (ValueType R)) : Type 0 where
    pub callee : Signature R
    pub reached : holds W B (nowhere W B) (reaches_function x) ≡ true
    pub there : signature_at W B (of_function x) ≡ Some callee
    pub takes : ts ≡ vals callee.takes
    pub gives : us ≡ vals callee.gives

  -- `throw x : t1* t* -> t2*`, where C.tags[x] = t* -> eps
  pub record Throws (x : ℕ) (ts : List (ValueType R)) : Type 0 where
    pub on : B.features.exceptions ≡ true
    pub tag : Signature R
    pub below : List (ValueType R)
    pub there : signature_at W B (of_tag x) ≡ Some tag
    pub gives_nothing : length tag.gives ≡ 0
    pub takes : ts ≡ below ++ vals tag.takes

  -- `throw_ref : t1* (ref null exn) -> t2*`
  pub record ThrowsAgain (ts : List (ValueType R)) : Type 0 where
    pub on : B.features.exceptions ≡ true
    pub below : List (ValueType R)
    pub takes : ts ≡ below ++ val (reference_at true (abstract_heap false exn_heap)) ∷ []

  -- `global.get x : eps -> t`, where C.globals[x] = mut? t
  pub record GetsGlobal (x : ℕ) (ts us : List (ValueType R)) : Type 0 where
    pub it : Global R
    pub reached : holds W B (nowhere W B) (reaches_global x) ≡ true
    pub there : slice_get B.context.globals x ≡ Some it
    pub takes : ts ≡ []
    pub gives : us ≡ val it.content ∷ []

  -- `global.set x : t -> eps`, where C.globals[x] = mut t
  pub record SetsGlobal (x : ℕ) (ts us : List (ValueType R)) : Type 0 where
    pub it : Global R
    pub reached : holds W B (nowhere W B) (reaches_global x) ≡ true
    pub there : slice_get B.context.globals x ≡ Some it
    pub mutable : it.mutable ≡ true
    pub takes : ts ≡ val it.content ∷ []
    pub gives : us ≡ []

  -- `table.get x : at -> t`, where C.tables[x] = at lim t
  pub record GetsElement (x : ℕ) (ts us : List (ValueType R)) : Type 0 where
    pub it : Table R
    pub on : B.features.reference_types ≡ true
    pub reached : holds W B (nowhere W B) (reaches_table x) ≡ true
    pub there : slice_get B.context.tables x ≡ Some it
    pub takes : ts ≡ val (address it.is_64) ∷ []
    pub gives : us ≡ val (reference it.element) ∷ []

  -- `ref.func x : eps -> (ref dt)`, where C.funcs[x] = dt and C.refs has x
  pub record RefersTo (x : ℕ) (ts us : List (ValueType R)) : Type 0 where
    pub it : Heap R
    pub on : B.features.reference_types ≡ true
    pub referenced : among x B.context.references ≡ true
    pub there : function_heap W B x ≡ Some it
    pub takes : ts ≡ []
    pub gives : us ≡ val (reference_at false it) ∷ []

  -- `call_ref x : t1* (ref null x) -> t2*`, where C.types[x] = t1* -> t2*
  pub record CallsReference (x : ℕ) (ts us : List (ValueType R)) : Type 0 where
    pub it : R
    pub callee : Signature R
    pub on : B.features.function_references ≡ true
    pub reached : holds W B (nowhere W B) (reaches_type x) ≡ true
    pub is : slice_get B.context.types x ≡ Some it
    pub there : signature_at W B (of_type x) ≡ Some callee
    pub takes : ts ≡ vals callee.takes ++ val (reference_at true (concrete it)) ∷ []
    pub gives : us ≡ vals callee.gives

  -- `ref.cast rt : rt' -> rt`, where rt' is the greatest type of the hierarchy of rt
  pub record CastsTo (q : Ref ℕ) (ts us : List (ValueType R)) : Type 0 where
    pub it : Ref R
    pub greatest : Heap R
    pub on : B.features.gc ≡ true
    pub allowed : holds W B (nowhere W B) (allows (reference q)) ≡ true
    pub tested : holds W B (nowhere W B) (can_be_tested q) ≡ true
    pub is : resolve_ref B.context.types q ≡ Some it
    pub above : top_heap W B q.heap ≡ Some greatest
    pub takes : ts ≡ val (reference_at true greatest) ∷ []
    pub gives : us ≡ val (reference it) ∷ []

  -- `ref.cast_desc_eq rt : rt' (ref null dt) -> rt`, where rt' is the greatest type of the hierarchy of rt, and dt is the descriptor of the
  -- type that rt names, exactly where rt does so (the proposal for custom descriptors)
  pub record CastsByDescriptor (q : Ref ℕ) (ts us : List (ValueType R)) : Type 0 where
    pub it : Ref R
    pub greatest : Heap R
    pub descriptor : Heap R
    pub served : B.features.descriptor_operators ≡ true
    pub described : B.features.custom_descriptors ≡ true
    pub on : B.features.gc ≡ true
    pub allowed : holds W B (nowhere W B) (allows (reference q)) ≡ true
    pub tested : holds W B (nowhere W B) (can_be_tested q) ≡ true
    pub is : resolve_ref B.context.types q ≡ Some it
    pub above : top_heap W B q.heap ≡ Some greatest
    pub there : descriptor_heap W B q.heap ≡ Some descriptor
    pub takes : ts ≡ val (reference_at true greatest) ∷ val (reference_at true descriptor) ∷ []
    pub gives : us ≡ val (reference it) ∷ []

  -- `t.load memarg : at -> t`, where C.mems[x] = at lim
  pub record Loads (op : MemoryOperator) (m : MemArg) (v : Val ℕ) (ts us : List (ValueType R)) : Type 0 where
    pub it : Memory
    pub loaded : Val R
    pub allowed : holds W B (nowhere W B) (allows v) ≡ true
    pub there : slice_get B.context.memories m.memory ≡ Some it
    pub aligned : allows_memarg op m it ≡ true
    pub is : resolve_val B.context.types v ≡ Some loaded
    pub takes : ts ≡ val (address it.is_64) ∷ []
    pub gives : us ≡ val loaded ∷ []

  -- `struct.new x : t* -> (ref x)`, where C.types[x] has fields of t*, unpacked
  pub record MakesStructure (x : ℕ) (ts us : List (ValueType R)) : Type 0 where
    pub it : R
    pub fields : List (Field R)
    pub on : B.features.gc ≡ true
    pub reached : holds W B (nowhere W B) (reaches_type x) ≡ true
    pub plain : holds W B (nowhere W B) (has_no_descriptor x) ≡ true
    pub is : slice_get B.context.types x ≡ Some it
    pub there : fields_at W B x ≡ Some fields
    pub takes : ts ≡ vals (map unpack_field fields)
    pub gives : us ≡ val (reference_at false (exact_if W B true it)) ∷ []

  -- `struct.get x i : (ref null x) -> t`, where C.types[x] has a field i of t, which isn't packed
  pub record GetsField (x i : ℕ) (ts us : List (ValueType R)) : Type 0 where
    pub it : R
    pub field : Field R
    pub on : B.features.gc ≡ true
    pub reached : holds W B (nowhere W B) (reaches_type x) ≡ true
    pub unpacked : holds W B (nowhere W B) (field_is_packed false x i) ≡ true
    pub is : slice_get B.context.types x ≡ Some it
    pub there : field_at W B x i ≡ Some field
    pub takes : ts ≡ val (reference_at true (concrete it)) ∷ []
    pub gives : us ≡ val (unpack_field field) ∷ []

  -- `array.get x : (ref null x) i32 -> t`, where C.types[x] has elements of t, which aren't packed
  pub record GetsItem (x : ℕ) (ts us : List (ValueType R)) : Type 0 where
    pub it : R
    pub element : Field R
    pub on : B.features.gc ≡ true
    pub reached : holds W B (nowhere W B) (reaches_type x) ≡ true
    pub unpacked : holds W B (nowhere W B) (element_is_packed false x) ≡ true
    pub is : slice_get B.context.types x ≡ Some it
    pub there : element_at W B x ≡ Some element
    pub takes : ts ≡ val (reference_at true (concrete it)) ∷ val i32 ∷ []
    pub gives : us ≡ val (unpack_field element) ∷ []

  -- `i64.add128 : i64 i64 i64 i64 -> i64 i64`, by the wide-arithmetic proposal
  pub record AddsWide (ts us : List (ValueType R)) : Type 0 where
    pub on : B.features.wide_arithmetic ≡ true
    pub takes : ts ≡ val i64 ∷ val i64 ∷ val i64 ∷ val i64 ∷ []
    pub gives : us ≡ val i64 ∷ val i64 ∷ []

  -- `i64.mul_wide_s : i64 i64 -> i64 i64`, by the same
  pub record MultipliesWide (ts us : List (ValueType R)) : Type 0 where
    pub on : B.features.wide_arithmetic ≡ true
    pub takes : ts ≡ val i64 ∷ val i64 ∷ []
    pub gives : us ≡ val i64 ∷ val i64 ∷ []

  pub record FixedTypes (C : Scope R) : Type 0 where
    pub nop : (ts us : List (ValueType R)) → Goes W B C (instruction.control control.nop) ts us ↔ DoesNothing ts us
    pub call : (x : ℕ) (ts us : List (ValueType R)) → Goes W B C (instruction.call (Call x)) ts us ↔ Calls x ts us
    pub throw : (x : ℕ) (ts us : List (ValueType R)) → Goes W B C (instruction.control (control.throw x)) ts us ↔ Throws x ts
    pub throw_ref : (ts us : List (ValueType R)) → Goes W B C (instruction.control control.throw_ref) ts us ↔ ThrowsAgain ts
    pub global_get : (x : ℕ) (ts us : List (ValueType R)) → Goes W B C (instruction.variable (GlobalGet x)) ts us ↔ GetsGlobal x ts us
    pub global_set : (x : ℕ) (ts us : List (ValueType R)) → Goes W B C (instruction.variable (GlobalSet x)) ts us ↔ SetsGlobal x ts us
    pub table_get : (x : ℕ) (ts us : List (ValueType R)) → Goes W B C (instruction.table (TableGet x)) ts us ↔ GetsElement x ts us
    pub ref_func : (x : ℕ) (ts us : List (ValueType R)) → Goes W B C (instruction.reference (references.ref_func x)) ts us ↔ RefersTo x ts us
    pub call_ref : (x : ℕ) (ts us : List (ValueType R)) → Goes W B C (instruction.call (CallRef x)) ts us ↔ CallsReference x ts us
    pub ref_cast : (q : Ref ℕ) (ts us : List (ValueType R)) → Goes W B C (instruction.cast (references.ref_cast q)) ts us ↔ CastsTo q ts us
    pub ref_cast_desc_eq : (q : Ref ℕ) (ts us : List (ValueType R)) → Goes W B C (instruction.cast (references.ref_cast_desc_eq q)) ts us ↔ CastsByDescriptor q ts us
    pub load : (op : MemoryOperator) (m : MemArg) (v : Val ℕ) (ts us : List (ValueType R)) → Rule W B C (loading op m v) ts us ↔ Loads op m v ts us
    pub struct_new : (x : ℕ) (ts us : List (ValueType R)) → Goes W B C (instruction.structure (StructNew x)) ts us ↔ MakesStructure x ts us
    pub struct_get : (x i : ℕ) (ts us : List (ValueType R)) → Goes W B C (instruction.structure (StructGet x i)) ts us ↔ GetsField x i ts us
    pub array_get : (x : ℕ) (ts us : List (ValueType R)) → Goes W B C (instruction.array (ArrayGet x)) ts us ↔ GetsItem x ts us
    pub add128 : (ts us : List (ValueType R)) → Goes W B C (instruction.wide I64Add128) ts us ↔ AddsWide ts us
    pub cont_new : (x : ℕ) (ts us : List (ValueType R)) → Goes W B C (instruction.continuation (continuations.cont_new x)) ts us ↔ MakesContinuation W B x ts us
    pub cont_bind : (x y : ℕ) (ts us : List (ValueType R)) → Goes W B C (instruction.continuation (continuations.cont_bind x y)) ts us ↔ Binds W B x y ts us
    pub suspend : (x : ℕ) (ts us : List (ValueType R)) → Goes W B C (instruction.continuation (continuations.suspend x)) ts us ↔ Suspends W B x ts us
    pub resume : (x : ℕ) (hs : List Handle) (ts us : List (ValueType R)) → Goes W B C (instruction.continuation (continuations.resume x hs)) ts us ↔ Resumes W B C x hs ts us
    pub resume_throw : (x y : ℕ) (hs : List Handle) (ts us : List (ValueType R)) → Goes W B C (instruction.continuation (continuations.resume_throw x y hs)) ts us ↔ ResumesByTag W B C x y hs ts us
    pub resume_throw_ref : (x : ℕ) (hs : List Handle) (ts us : List (ValueType R)) → Goes W B C (instruction.continuation (continuations.resume_throw_ref x hs)) ts us ↔ ResumesByException W B C x hs ts us
    pub switch : (x y : ℕ) (ts us : List (ValueType R)) → Goes W B C (instruction.continuation (continuations.switch x y)) ts us ↔ Switches W B x y ts us
    pub mul_wide_s : (ts us : List (ValueType R)) → Goes W B C (instruction.wide I64MulWideS) ts us ↔ MultipliesWide ts us

-- Each of these instructions has the standard's rule.
abbrev pub FixedTypesHaveTheirRules : (R : Type 0) → Type 0
FixedTypesHaveTheirRules R = (W : World R) (B : Surroundings R) (C : Scope R) → FixedTypes W B C
