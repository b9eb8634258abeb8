-- What the machine does for each instruction that contains no others: its role. All that only compute something of their operands have one.
-- Core Specification 3.0, Execution, Instructions.
use Rattle.std.specs.Prelude.{ℕ, zero, suc, List, [], ◌∷◌, Option, Some, None, length}
use Rattle.std.specs.Option.{option_map}
use Rattle.wasm_spec_steps.specs.WasmSpecRules.WasmSpec.Syntax.{Ref}
use Rattle.wasm_spec_steps.specs.WasmSpecRules.WasmSpec.MatchingTests.{World}
use Rattle.wasm_operators.specs.Control as control
use Rattle.wasm_operators.specs.Control.{Control, Parametric}
use Rattle.wasm_operators.specs.Legacy as legacy
use Rattle.wasm_operators.specs.Legacy.{Legacy}
use Rattle.wasm_operators.specs.References as references
use Rattle.wasm_operators.specs.References.{Reference, Cast}
use Rattle.wasm_operators.specs.Continuations as continuations
use Rattle.wasm_operators.specs.Continuations.{Continuation}
use Rattle.wasm_operators.specs.WasmOperatorsProposals.declared.continuations.Handle.{Handle}
use Rattle.wasm_operators.specs.WasmOperatorsProposals.declared.continuations.Handle.TheVariants as handle
use Rattle.wasm_operators.specs.Instructions as instruction
use Rattle.wasm_operators.specs.Instructions.{Instruction}
use Rattle.wasm_operators.specs.WasmOperatorsPlain.declared.calls.CallOperator.{CallOperator}
use Rattle.wasm_operators.specs.WasmOperatorsPlain.declared.calls.CallOperator.TheVariants.{Call, CallIndirect, ReturnCall, ReturnCallIndirect, CallRef, ReturnCallRef}
use Rattle.wasm_operators.specs.WasmOperatorsPlain.declared.variables.VariableOperator.{VariableOperator}
use Rattle.wasm_operators.specs.WasmOperatorsPlain.declared.variables.VariableOperator.TheVariants.{LocalGet, LocalSet, LocalTee}
use Rattle.wasm_spec_steps.specs.Bodies.{Surroundings}
use Rattle.wasm_spec_steps.specs.Shapes.{Shape, plain, measuring, comparing, converting, describing}
use Rattle.wasm_spec_instructions.specs.Scopes.{types_in}

-- which function is called: the one of an index; the one that the top operand refers to; or the one that a table has there, where it is of
-- the type of an index
pub data Callee : Type 0 where
  by_index : ℕ → Callee
  by_reference : Callee
  by_table : ℕ → ℕ → Callee

-- Compute something; trap; return; drop an operand, or choose one of two; throw the exception that the top operand refers to; test a
-- reference for null, or trap where it is null; give null; stand nowhere by themselves; branch, always, where a number isn't zero, where a
-- reference is null, or where it isn't; read a local, write it, or do so and give it back; give a reference to a function; throw a new
-- exception; throw again; branch by a table; call a function, or do so in its own place; branch where a cast succeeds, or where it fails; do so
-- where one reference is described by another, or where it isn't; and resume a continuation, with these handlers.
pub data Role : Type 0 where
  computing trapping returning dropping choosing throwing_again testing_null asserting_non_null giving_null nowhere : Role
  branching branching_if branching_on_null branching_on_non_null reading writing giving_back naming throwing rethrowing : ℕ → Role
  branching_by_table : List ℕ → ℕ → Role
  calling calling_in_place : Callee → Role
  branching_on_cast branching_on_failure branching_on_description branching_on_no_description : ℕ → Ref ℕ → Role
  resuming : List Handle → Role

abbrev pub control_role : Control ℕ → Role
control_role control.unreachable = trapping
control_role control.nop = computing
control_role (control.block b) = nowhere
control_role (control.loop b) = nowhere
control_role (control.if_ b) = nowhere
control_role control.else_ = nowhere
control_role control.end_ = nowhere
control_role (control.try_table b cs) = nowhere
control_role (control.throw x) = throwing x
control_role control.throw_ref = throwing_again
control_role (control.br l) = branching l
control_role (control.br_if l) = branching_if l
control_role (control.br_table ls l) = branching_by_table ls l
control_role control.return_ = returning

abbrev pub legacy_role : Legacy ℕ → Role
legacy_role (legacy.rethrow l) = rethrowing l
legacy_role _ = nowhere

abbrev pub call_role : CallOperator → Role
call_role (Call x) = calling (by_index x)
call_role (CallIndirect y x) = calling (by_table y x)
call_role (CallRef y) = calling by_reference
call_role (ReturnCall x) = calling_in_place (by_index x)
call_role (ReturnCallIndirect y x) = calling_in_place (by_table y x)
call_role (ReturnCallRef y) = calling_in_place by_reference

abbrev pub parametric_role : Parametric ℕ → Role
parametric_role control.drop_ = dropping
parametric_role _ = choosing

abbrev pub variable_role : VariableOperator → Role
variable_role (LocalGet x) = reading x
variable_role (LocalSet x) = writing x
variable_role (LocalTee x) = giving_back x
variable_role _ = computing

abbrev pub reference_role : Reference ℕ → Role
reference_role (references.ref_null h) = giving_null
reference_role references.ref_is_null = testing_null
reference_role references.ref_eq = computing
reference_role references.ref_as_non_null = asserting_non_null
reference_role (references.ref_func x) = naming x
reference_role (references.br_on_null l) = branching_on_null l
reference_role (references.br_on_non_null l) = branching_on_non_null l

abbrev pub cast_role : Cast ℕ → Role
cast_role (references.br_on_cast l r q) = branching_on_cast l q
cast_role (references.br_on_cast_fail l r q) = branching_on_failure l q
cast_role (references.br_on_cast_desc_eq l r q) = branching_on_description l q
cast_role (references.br_on_cast_desc_eq_fail l r q) = branching_on_no_description l q
cast_role _ = computing

abbrev pub continuation_role : Continuation → Role
continuation_role (continuations.resume n hs) = resuming hs
continuation_role (continuations.resume_throw n x hs) = resuming hs
continuation_role (continuations.resume_throw_ref n hs) = resuming hs
continuation_role _ = computing

-- the tag and the label of a handler; of one for switches there is none
abbrev pub handler_at : List Handle → ℕ → Option (ℕ × ℕ)
handler_at [] k = None
handler_at (handle.OnLabel x l ∷ hs) zero = Some (x, l)
handler_at (handle.OnSwitch x ∷ hs) zero = None
handler_at (handle.OnLabel x l ∷ hs) (suc k) = handler_at hs k
handler_at (handle.OnSwitch x ∷ hs) (suc k) = handler_at hs k

abbrev pub role_of : Instruction ℕ → Role
role_of (instruction.control op) = control_role op
role_of (instruction.legacy op) = legacy_role op
role_of (instruction.call op) = call_role op
role_of (instruction.parametric op) = parametric_role op
role_of (instruction.variable op) = variable_role op
role_of (instruction.reference op) = reference_role op
role_of (instruction.cast op) = cast_role op
role_of (instruction.continuation op) = continuation_role op
role_of _ = computing

-- how many operands instructions take that compute something, as their shape says: no label and no results of the function count
abbrev pub operand_count : {R : Type 0} → World R → Surroundings R → Shape → Option ℕ
operand_count W B (plain cs t u) = option_map length (types_in W B [] None t)
operand_count W B (measuring cs k t) = Some 1
operand_count W B (comparing cs t) = Some 2
operand_count W B (converting cs j k) = Some 1
operand_count W B (describing cs n) = Some 1
operand_count W B _ = None
