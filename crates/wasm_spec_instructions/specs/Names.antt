-- How the rules of the shapes read for single instructions, as the standard writes them.
-- Core Specification 3.0, Validation, Instructions.
use Rattle.std.specs.Prelude.{◌≡◌, ◌↔◌, ℕ, true, false, List, [], ◌∷◌, ◌++◌, Option, Some, slice_get}
use Rattle.wasm_spec_steps.specs.WasmSpecRules.WasmSpec.Syntax.{Heap, Ref, Val, i32, reference}
use Rattle.wasm_spec_steps.specs.WasmSpecRules.WasmSpec.MatchingTests.{World}
use Rattle.wasm_spec_steps.specs.WasmSpecRules.Signatures.{Signature}
use Rattle.wasm_operators.specs.Control as control
use Rattle.wasm_operators.specs.Legacy as legacy
use Rattle.wasm_operators.specs.References as references
use Rattle.wasm_operators.specs.Instructions as instruction
use Rattle.wasm_operators.specs.Instructions.{Instruction}
use Rattle.wasm_operators.specs.WasmOperatorsPlain.declared.calls.CallOperator.TheVariants.{ReturnCall}
use Rattle.wasm_operators.specs.WasmOperatorsPlain.declared.variables.VariableOperator.TheVariants.{LocalGet, LocalSet, LocalTee}
use Rattle.wasm_spec_steps.specs.Matching.{matches_vals}
use Rattle.wasm_spec_steps.specs.Bodies.{Local, Surroundings}
use Rattle.wasm_spec_steps.specs.Machine.{same_number}
use Rattle.wasm_spec_steps.specs.Actions.{of_function, reaches_function}
use Rattle.wasm_spec_steps.specs.Shapes.{shape_of}
use Rattle.wasm_spec_steps.specs.Meanings.{signature_at}
use Rattle.wasm_spec_instructions.specs.ValueTypes.{ValueType, val, vals, reference_at, reference_type, matches_type}
use Rattle.wasm_spec_instructions.specs.Scopes.{Scope, is_set, holds_in}
use Rattle.wasm_spec_instructions.specs.Rules.{MatchLabels, Rule}

module _ {R : Type 0} (W : World R) (B : Surroundings R) (C : Scope R) where
  -- the instruction goes from these types to those
  abbrev pub Goes : Instruction ℕ → List (ValueType R) → List (ValueType R) → Type 0
  Goes i ts us = Rule W B C (shape_of i) ts us

  -- `br l : t1* t* -> t2*`, where C.labels[l] = t*
  pub record Branches (l : ℕ) (ts : List (ValueType R)) : Type 0 where
    pub sent : List (Val R)
    pub below : List (ValueType R)
    pub there : slice_get C.labels l ≡ Some sent
    pub takes : ts ≡ below ++ vals sent

  -- `br_if l : t* i32 -> t*`, where C.labels[l] = t*
  pub record BranchesIf (l : ℕ) (ts us : List (ValueType R)) : Type 0 where
    pub sent : List (Val R)
    pub there : slice_get C.labels l ≡ Some sent
    pub takes : ts ≡ vals sent ++ val i32 ∷ []
    pub gives : us ≡ vals sent

  -- `br_table l* l' : t1* t* i32 -> t2*`, where t* matches C.labels[l] for each l, and C.labels[l']
  pub record BranchesByTable (ls : List ℕ) (l : ℕ) (ts : List (ValueType R)) : Type 0 where
    pub sent : List (ValueType R)
    pub below : List (ValueType R)
    pub there : MatchLabels W C.labels sent (l ∷ ls)
    pub takes : ts ≡ below ++ (sent ++ val i32 ∷ [])

  -- `return : t1* t* -> t2*`, where C.return = t*
  pub record Returns (ts : List (ValueType R)) : Type 0 where
    pub sent : List (Val R)
    pub below : List (ValueType R)
    pub there : C.returns ≡ Some sent
    pub takes : ts ≡ below ++ vals sent

  -- `rethrow l : t1* -> t2*`, where C.labels[l] = catch t*
  pub record Rethrows (l : ℕ) : Type 0 where
    pub legacy_on : B.features.legacy_exceptions ≡ true
    pub on : B.features.exceptions ≡ true
    pub there : slice_get C.caught l ≡ Some true

  -- `local.get x : eps -> t`, where C.locals[x] = set t
  pub record Gets (x : ℕ) (ts us : List (ValueType R)) : Type 0 where
    pub it : Local R
    pub there : slice_get B.locals x ≡ Some it
    pub set : is_set W B x C.sets ≡ true
    pub takes : ts ≡ []
    pub gives : us ≡ val it.content ∷ []

  -- `drop : t -> eps`
  pub record Drops (ts us : List (ValueType R)) : Type 0 where
    pub it : ValueType R
    pub takes : ts ≡ it ∷ []
    pub gives : us ≡ []

  -- `select : t t i32 -> t`, where t matches a number type or vector type
  pub record Selects (ts us : List (ValueType R)) : Type 0 where
    pub it : ValueType R
    pub number : Val R
    pub is_number : same_number number number ≡ true
    pub matches : matches_type W it (val number) ≡ true
    pub takes : ts ≡ it ∷ it ∷ val i32 ∷ []
    pub gives : us ≡ it ∷ []

  -- `local.set x : t ->_x eps` and `local.tee x : t ->_x t`, where C.locals[x] = set? t
  pub record Sets (x : ℕ) (ts us : List (ValueType R)) : Type 0 where
    pub it : Local R
    pub there : slice_get B.locals x ≡ Some it
    pub takes : ts ≡ val it.content ∷ []
    pub gives : us ≡ []

  pub record Tees (x : ℕ) (ts us : List (ValueType R)) : Type 0 where
    pub it : Local R
    pub there : slice_get B.locals x ≡ Some it
    pub takes : ts ≡ val it.content ∷ []
    pub gives : us ≡ val it.content ∷ []

  -- `ref.is_null : (ref null ht) -> i32` and `ref.as_non_null : (ref null ht) -> (ref ht)`
  pub record TestsNull (ts us : List (ValueType R)) : Type 0 where
    pub on : B.features.reference_types ≡ true
    pub heap : Option (Heap R)
    pub takes : ts ≡ reference_type true heap ∷ []
    pub gives : us ≡ val i32 ∷ []

  pub record AssertsNonNull (ts us : List (ValueType R)) : Type 0 where
    pub on : B.features.function_references ≡ true
    pub heap : Option (Heap R)
    pub takes : ts ≡ reference_type true heap ∷ []
    pub gives : us ≡ reference_type false heap ∷ []

  -- `br_on_null l : t* (ref null ht) -> t* (ref ht)`, where C.labels[l] = t*
  pub record BranchesOnNull (l : ℕ) (ts us : List (ValueType R)) : Type 0 where
    pub on : B.features.function_references ≡ true
    pub sent : List (Val R)
    pub heap : Option (Heap R)
    pub there : slice_get C.labels l ≡ Some sent
    pub takes : ts ≡ vals sent ++ reference_type true heap ∷ []
    pub gives : us ≡ vals sent ++ reference_type false heap ∷ []

  -- `br_on_non_null l : t* (ref null ht) -> t*`, where C.labels[l] = t* (ref null? ht)
  pub record BranchesOnNonNull (l : ℕ) (ts us : List (ValueType R)) : Type 0 where
    pub on : B.features.function_references ≡ true
    pub sent : List (Val R)
    pub it : Ref R
    pub there : slice_get C.labels l ≡ Some (sent ++ reference it ∷ [])
    pub takes : ts ≡ vals sent ++ val (reference_at true it.heap) ∷ []
    pub gives : us ≡ vals sent

  -- `return_call x : t3* t1* -> t4*`, where C.funcs[x] = t1* -> t2*, and t2* matches C.return
  pub record CallsInPlace (x : ℕ) (ts : List (ValueType R)) : Type 0 where
    pub callee : Signature R
    pub results : List (Val R)
    pub below : List (ValueType R)
    pub reached : holds_in W B C.labels C.returns C.sets (reaches_function x) ≡ true
    pub there : signature_at W B (of_function x) ≡ Some callee
    pub returned : C.returns ≡ Some results
    pub matches : matches_vals W callee.gives results ≡ true
    pub takes : ts ≡ below ++ vals callee.takes

  pub record RulesByName : Type 0 where
    pub unreachable : (ts us : List (ValueType R)) → Goes (instruction.control control.unreachable) ts us
    pub br : (l : ℕ) (ts us : List (ValueType R)) → Goes (instruction.control (control.br l)) ts us ↔ Branches l ts
    pub br_if : (l : ℕ) (ts us : List (ValueType R)) → Goes (instruction.control (control.br_if l)) ts us ↔ BranchesIf l ts us
    pub br_table : (ls : List ℕ) (l : ℕ) (ts us : List (ValueType R)) → Goes (instruction.control (control.br_table ls l)) ts us ↔ BranchesByTable ls l ts
    pub return_ : (ts us : List (ValueType R)) → Goes (instruction.control control.return_) ts us ↔ Returns ts
    pub rethrow : (l : ℕ) (ts us : List (ValueType R)) → Goes (instruction.legacy (legacy.rethrow l)) ts us ↔ Rethrows l
    pub return_call : (x : ℕ) (ts us : List (ValueType R)) → Goes (instruction.call (ReturnCall x)) ts us ↔ CallsInPlace x ts
    pub br_on_null : (l : ℕ) (ts us : List (ValueType R)) → Goes (instruction.reference (references.br_on_null l)) ts us ↔ BranchesOnNull l ts us
    pub br_on_non_null : (l : ℕ) (ts us : List (ValueType R)) → Goes (instruction.reference (references.br_on_non_null l)) ts us ↔ BranchesOnNonNull l ts us
    pub ref_is_null : (ts us : List (ValueType R)) → Goes (instruction.reference references.ref_is_null) ts us ↔ TestsNull ts us
    pub ref_as_non_null : (ts us : List (ValueType R)) → Goes (instruction.reference references.ref_as_non_null) ts us ↔ AssertsNonNull ts us
    pub drop_ : (ts us : List (ValueType R)) → Goes (instruction.parametric control.drop_) ts us ↔ Drops ts us
    pub select : (ts us : List (ValueType R)) → Goes (instruction.parametric control.select) ts us ↔ Selects ts us
    pub local_set : (x : ℕ) (ts us : List (ValueType R)) → Goes (instruction.variable (LocalSet x)) ts us ↔ Sets x ts us
    pub local_tee : (x : ℕ) (ts us : List (ValueType R)) → Goes (instruction.variable (LocalTee x)) ts us ↔ Tees x ts us
    pub local_get : (x : ℕ) (ts us : List (ValueType R)) → Goes (instruction.variable (LocalGet x)) ts us ↔ Gets x ts us

-- Each of these instructions has the standard's rule.
abbrev pub InstructionsHaveTheirRules : (R : Type 0) → Type 0
InstructionsHaveTheirRules R = (W : World R) (B : Surroundings R) (C : Scope R) → RulesByName W B C
