-- The typing rules of instructions that contain no others, by their shape: with what the table of shapes says that an instruction checks,
-- takes and gives, the rule of its shape is the rule of that instruction. Core Specification 3.0, Validation, Instructions.
-- Lists of types have the last one on top.
use Rattle.std.specs.Prelude.{◌≡◌, ℕ, Bool, true, false, List, [], ◌∷◌, ◌++◌, Option, Some, slice_get}
use Rattle.wasm_spec_steps.specs.WasmSpecRules.WasmSpec.Syntax.{AbstractHeap, eq_heap, Heap, abstract_heap, concrete, exact, Ref, Val, i32, reference}
use Rattle.wasm_spec_steps.specs.WasmSpecRules.WasmSpec.MatchingTests.{World}
use Rattle.wasm_spec_steps.specs.Bodies.{Local, Surroundings}
use Rattle.wasm_spec_steps.specs.Machine.{same_number}
use Rattle.wasm_spec_steps.specs.Meanings.{descriptor_at}
use Rattle.wasm_spec_steps.specs.Actions.{OperandTypes, Check}
use Rattle.wasm_spec_steps.specs.Shapes.{Shape, plain, ending, dropping, choosing, testing_null, asserting_non_null, branching_on_null, branching_on_non_null, branching_by_table, setting, giving_back, measuring, comparing, converting, describing, rethrowing}
use Rattle.wasm_spec_instructions.specs.ValueTypes.{ValueType, val, reference_at, reference_type, vals, matches_type, Match}
use Rattle.wasm_spec_instructions.specs.Scopes.{Scope, types_in, AllHold}

-- the locals that an instruction sets
abbrev pub sets_of : Shape → List ℕ
sets_of (setting x) = x ∷ []
sets_of (giving_back x) = x ∷ []
sets_of _ = []

module _ {R : Type 0} (W : World R) where
  -- these types match those at each of these labels
  abbrev pub MatchLabels : List (List (Val R)) → List (ValueType R) → List ℕ → Type 0
  MatchLabels labels ts [] = Unit {0}
  MatchLabels labels ts (n ∷ ns) = (ls : List (Val R)) × (slice_get labels n ≡ Some ls) × Match W ts (vals ls) × MatchLabels labels ts ns

module _ {R : Type 0} (W : World R) (B : Surroundings R) (C : Scope R) where
  pub data Rule : Shape → List (ValueType R) → List (ValueType R) → Type 0 where
    -- most instructions, and `br_if`, `select t`, `local.get`, calls, `br_on_cast`, `br_on_cast_fail`, `ref.test` and `ref.cast`
    plain_rule :
        {cs : List Check} {t u : OperandTypes} {ts us : List (Val R)}
        → AllHold W B C cs → types_in W B C.labels C.returns t ≡ Some ts → types_in W B C.labels C.returns u ≡ Some us
        → Rule (plain cs t u) (vals ts) (vals us)
    -- `unreachable`, `br`, `return`, `throw`, `throw_ref`, `return_call`, `return_call_ref`, `return_call_indirect`: stack-polymorphic
    ending_rule :
        {cs : List Check} {t : OperandTypes} {ts : List (Val R)} (below after : List (ValueType R))
        → AllHold W B C cs → types_in W B C.labels C.returns t ≡ Some ts → Rule (ending cs t) (below ++ vals ts) after
    -- `rethrow`, also stack-polymorphic: the label is that of a handler
    rethrowing_rule :
        {cs : List Check} {l : ℕ} (below after : List (ValueType R)) → AllHold W B C cs → slice_get C.caught l ≡ Some true → Rule (rethrowing cs l) below after
    -- `drop`
    dropping_rule : (t : ValueType R) → Rule dropping (t ∷ []) []
    -- `select` without a type: of a type that matches that of numbers or vectors
    choosing_rule : (t : ValueType R) (v : Val R) → same_number v v ≡ true → matches_type W t (val v) ≡ true → Rule choosing (t ∷ t ∷ val i32 ∷ []) (t ∷ [])
    -- `ref.is_null`
    testing_null_rule : {cs : List Check} (h : Option (Heap R)) → AllHold W B C cs → Rule (testing_null cs) (reference_type true h ∷ []) (val i32 ∷ [])
    -- `ref.as_non_null`
    asserting_non_null_rule :
        {cs : List Check} (h : Option (Heap R)) → AllHold W B C cs → Rule (asserting_non_null cs) (reference_type true h ∷ []) (reference_type false h ∷ [])
    -- `br_on_null`
    branching_on_null_rule :
        {cs : List Check} {l : ℕ} {ls : List (Val R)} (h : Option (Heap R)) → AllHold W B C cs → slice_get C.labels l ≡ Some ls
        → Rule (branching_on_null cs l) (vals ls ++ reference_type true h ∷ []) (vals ls ++ reference_type false h ∷ [])
    -- `br_on_non_null`: the label takes the reference, known not to be null
    branching_on_non_null_rule :
        {cs : List Check} {l : ℕ} (ls : List (Val R)) (r : Ref R) → AllHold W B C cs → slice_get C.labels l ≡ Some (ls ++ reference r ∷ [])
        → Rule (branching_on_non_null cs l) (vals ls ++ val (reference_at true r.heap) ∷ []) (vals ls)
    -- `br_table`: some types match those at each label
    branching_by_table_rule :
        {ls : List ℕ} {l : ℕ} (below ts after : List (ValueType R)) → MatchLabels W C.labels ts (l ∷ ls)
        → Rule (branching_by_table ls l) (below ++ (ts ++ val i32 ∷ [])) after
    -- `local.set`
    setting_rule : {x : ℕ} (l : Local R) → slice_get B.locals x ≡ Some l → Rule (setting x) (val l.content ∷ []) []
    -- `local.tee`
    giving_back_rule : {x : ℕ} (l : Local R) → slice_get B.locals x ≡ Some l → Rule (giving_back x) (val l.content ∷ []) (val l.content ∷ [])
    -- `i31.get_s`, `i31.get_u`, `array.len`: shared or not
    measuring_rule :
        {cs : List Check} {k : AbstractHeap} {t : OperandTypes} {us : List (Val R)} (shared : Bool)
        → AllHold W B C cs → types_in W B C.labels C.returns t ≡ Some us → Rule (measuring cs k t) (val (reference_at true (abstract_heap shared k)) ∷ []) (vals us)
    -- `ref.eq`: both shared or neither
    comparing_rule :
        {cs : List Check} {t : OperandTypes} {us : List (Val R)} (shared : Bool)
        → AllHold W B C cs → types_in W B C.labels C.returns t ≡ Some us
        → Rule (comparing cs t) (val (reference_at true (abstract_heap shared eq_heap)) ∷ val (reference_at true (abstract_heap shared eq_heap)) ∷ []) (vals us)
    -- `any.convert_extern`, `extern.convert_any`: null and shared as before
    converting_rule :
        {cs : List Check} {j k : AbstractHeap} (nullable shared : Bool)
        → AllHold W B C cs → Rule (converting cs j k) (val (reference_at nullable (abstract_heap shared j)) ∷ []) (val (reference_at nullable (abstract_heap shared k)) ∷ [])
    -- `ref.get_desc`: a reference, or null, to exactly a type, or to the type
    describing_exactly_rule :
        {cs : List Check} {n : ℕ} {a b : R}
        → AllHold W B C cs → slice_get B.context.types n ≡ Some a → descriptor_at W B n ≡ Some b
        → Rule (describing cs n) (val (reference_at true (exact a)) ∷ []) (val (reference_at false (exact b)) ∷ [])
    describing_rule :
        {cs : List Check} {n : ℕ} {a b : R}
        → AllHold W B C cs → slice_get B.context.types n ≡ Some a → descriptor_at W B n ≡ Some b
        → Rule (describing cs n) (val (reference_at true (concrete a)) ∷ []) (val (reference_at false (concrete b)) ∷ [])
