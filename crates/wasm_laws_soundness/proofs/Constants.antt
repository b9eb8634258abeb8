-- A constant expression is accepted exactly where the rules type it: it has no branches.
use Rattle.std.proofs.Common.{◌≡◌, refl, ap, ◌∙◌, ℕ, suc, true, false, List, [], ◌∷◌, arith}
use Rattle.std.specs.List.{All}
use Rattle.wasm_spec.specs.Syntax.{Val}
use Rattle.wasm_spec.specs.Features.{Features}
use Rattle.wasm_spec.specs.MatchingTests.{World}
use Rattle.wasm_operators.specs.WasmOperatorsPlain.Signatures.{signature_of}
use Rattle.wasm_operators.specs.WasmOperatorsPlain.declared.signatures.Signature.{Signature}
use Rattle.wasm_operators.specs.WasmOperatorsPlain.declared.signatures.Signature.TheVariants.{Unary, Binary}
use Rattle.wasm_operators.specs.Control as control
use Rattle.wasm_operators.specs.Control.{value_block}
use Rattle.wasm_operators.specs.References as references
use Rattle.wasm_operators.specs.References.{Reference}
use Rattle.wasm_operators.specs.Instructions as instruction
use Rattle.wasm_operators.specs.Instructions.{Instruction}
use Rattle.wasm_operators.specs.WasmOperatorsPlain.declared.variables.VariableOperator.{VariableOperator}
use Rattle.wasm_operators.specs.WasmOperatorsPlain.declared.variables.VariableOperator.TheVariants.{LocalGet, LocalSet, LocalTee, GlobalGet, GlobalSet}
use Rattle.wasm_operators.specs.WasmOperatorsPlain.declared.conversions.ConversionOperator.{ConversionOperator}
use Rattle.wasm_operators.specs.WasmOperatorsPlain.declared.conversions.ConversionOperator.TheVariants.{AnyConvertExtern, ExternConvertAny, RefI31, I31GetS, I31GetU, RefI31Shared}
use Rattle.wasm_operators.specs.WasmOperatorsPlain.declared.structs.StructOperator.{StructOperator}
use Rattle.wasm_operators.specs.WasmOperatorsPlain.declared.structs.StructOperator.TheVariants.{StructNew, StructNewDefault, StructGet, StructGetS, StructGetU, StructSet, StructNewDesc, StructNewDefaultDesc}
use Rattle.wasm_operators.specs.WasmOperatorsPlain.declared.arrays.ArrayOperator.{ArrayOperator}
use Rattle.wasm_operators.specs.WasmOperatorsPlain.declared.arrays.ArrayOperator.TheVariants.{ArrayNew, ArrayNewDefault, ArrayNewFixed, ArrayNewData, ArrayNewElem, ArrayGet, ArrayGetS, ArrayGetU, ArraySet, ArrayLen, ArrayFill, ArrayCopy, ArrayInitData, ArrayInitElem}
use Rattle.wasm_spec_steps.specs.WasmSpecRules.Attempts.{passes}
use Rattle.wasm_spec_steps.specs.Bodies.{Surroundings}
use Rattle.wasm_spec_steps.specs.ConstantExpressions.{is_constant}
use Rattle.wasm_spec_steps.specs.ConstantRules.{is_readable, is_allowed, IsConstantExpression}
use Rattle.wasm_spec_steps.specs.Machine.{State}
use Rattle.wasm_spec_steps.specs.Steps.{is_finished, start, steps_in}
use Rattle.wasm_spec_steps.specs.Shapes.{variable_shape, computing, reference_shape, conversion_shape, struct_shape, array_shape, shape_of}
use Rattle.wasm_spec_instructions.specs.ValueTypes.{IsInOrder}
use Rattle.wasm_spec_instructions.specs.Laws.{is_served, AreServedAs}
use Rattle.wasm_spec_instructions.proofs.Attempts.{no, and-both, passes-gives}
use Rattle.wasm_spec_instructions.proofs.MainTheorems.{completeness, soundness}
use Rattle.wasm_laws_soundness.specs.BodiesByRules.{IsTypedConstant}
use Rattle.wasm_laws_soundness.specs.TypingLaws.{ConstantsAreTyped}

variable-served : (op : VariableOperator) → is_served false (variable_shape op) ≡ true
variable-served (LocalGet x) = refl
variable-served (LocalSet x) = refl
variable-served (LocalTee x) = refl
variable-served (GlobalGet x) = refl
variable-served (GlobalSet x) = refl

reference-served : (op : Reference ℕ) → is_served false (reference_shape op) ≡ true
reference-served (references.ref_null h) = refl
reference-served references.ref_is_null = refl
reference-served references.ref_eq = refl
reference-served references.ref_as_non_null = refl
reference-served (references.ref_func x) = refl
reference-served (references.br_on_null l) = refl
reference-served (references.br_on_non_null l) = refl

conversion-served : (op : ConversionOperator) → is_served false (conversion_shape op) ≡ true
conversion-served AnyConvertExtern = refl
conversion-served ExternConvertAny = refl
conversion-served RefI31 = refl
conversion-served RefI31Shared = refl
conversion-served I31GetS = refl
conversion-served I31GetU = refl

struct-served : (op : StructOperator) → is_served false (struct_shape op) ≡ true
struct-served (StructNew x) = refl
struct-served (StructNewDefault x) = refl
struct-served (StructGet x i) = refl
struct-served (StructGetS x i) = refl
struct-served (StructGetU x i) = refl
struct-served (StructSet x i) = refl
struct-served (StructNewDesc x) = refl
struct-served (StructNewDefaultDesc x) = refl

array-served : (op : ArrayOperator) → is_served false (array_shape op) ≡ true
array-served (ArrayNew x) = refl
array-served (ArrayNewDefault x) = refl
array-served (ArrayNewFixed x n) = refl
array-served (ArrayNewData x y) = refl
array-served (ArrayNewElem x y) = refl
array-served (ArrayGet x) = refl
array-served (ArrayGetS x) = refl
array-served (ArrayGetU x) = refl
array-served (ArraySet x) = refl
array-served ArrayLen = refl
array-served (ArrayFill x) = refl
array-served (ArrayCopy x y) = refl
array-served (ArrayInitData x y) = refl
array-served (ArrayInitElem x y) = refl

computing-served : (s : Signature) → is_served false (computing s) ≡ true
computing-served (Unary a b) = refl
computing-served (Binary a b) = refl

constant-served : (F : Features) (op : Instruction ℕ) → is_constant F op ≡ true → is_served false (shape_of op) ≡ true
constant-served F (instruction.control control.end_) e = refl
constant-served F (instruction.control control.unreachable) e = refl
constant-served F (instruction.control control.nop) e = refl
constant-served F (instruction.control (control.block b)) e = refl
constant-served F (instruction.control (control.loop b)) e = refl
constant-served F (instruction.control (control.if_ b)) e = refl
constant-served F (instruction.control (control.try_table b cs)) e = refl
constant-served F (instruction.control control.else_) e = refl
constant-served F (instruction.control (control.throw x)) e = refl
constant-served F (instruction.control control.throw_ref) e = refl
constant-served F (instruction.control (control.br l)) e = refl
constant-served F (instruction.control (control.br_if l)) e = refl
constant-served F (instruction.control (control.br_table ls l)) e = no e
constant-served F (instruction.control control.return_) e = refl
constant-served F (instruction.legacy op) e = no e
constant-served F (instruction.call op) e = no e
constant-served F (instruction.parametric op) e = no e
constant-served F (instruction.variable op) e = variable-served op
constant-served F (instruction.table op) e = no e
constant-served F (instruction.access op m) e = no e
constant-served F (instruction.memory op) e = no e
constant-served F (instruction.constant op) e = refl
constant-served F (instruction.numeric op) e = computing-served (signature_of op)
constant-served F (instruction.saturating op) e = no e
constant-served F (instruction.reference op) e = reference-served op
constant-served F (instruction.cast op) e = no e
constant-served F (instruction.conversion op) e = conversion-served op
constant-served F (instruction.structure op) e = struct-served op
constant-served F (instruction.array op) e = array-served op
constant-served F (instruction.vector op values) e = no e
constant-served F (instruction.atomic op values) e = no e
constant-served F (instruction.wide op) e = no e
constant-served F (instruction.shared op values) e = no e
constant-served F (instruction.continuation op) e = no e

module _ {R : Type 0} (W : World R) (o : IsInOrder W) (B : Surroundings R) (imported : ℕ) where
  all-served : (ops : List (Instruction ℕ)) → All (λ op. is_allowed B imported op ≡ true) ops → AreServedAs false ops
  all-served [] h = tt
  all-served (i ∷ ops) h =
      let e : is_allowed B imported i ≡ true = h 0 i (omega arith) in (
        constant-served B.features i (and-both (is_constant B.features i) (is_readable B.features imported B.context.globals i) e).0,
        all-served ops (λ k d l. h (suc k) d (omega (arith, l))),
      )

  sound : (v : Val R) (bytes : List ℕ) (last : State R) → IsConstantExpression W B imported (start (value_block v)) bytes last [] → IsTypedConstant W B imported v bytes
  sound v bytes last h = record {
    instructions = h.instructions;
    written = h.written;
    allowed = h.allowed;
    typed =
        soundness R W B (value_block v) (record { takes = []; gives = v ∷ [] }) h.instructions o refl (false, all-served h.instructions h.allowed)
        (ap (passes is_finished) h.typed ∙ h.finished);
  }

  complete : (v : Val R) (bytes : List ℕ) → IsTypedConstant W B imported v bytes → (last : State R) × IsConstantExpression W B imported (start (value_block v)) bytes last []
  complete v bytes t =
      let a = passes-gives is_finished (steps_in W B t.instructions (start (value_block v)))
      (completeness R W B (value_block v) (record { takes = []; gives = v ∷ [] }) t.instructions o refl t.typed) in
      (a.0, record { instructions = t.instructions; written = t.written; allowed = t.allowed; typed = a.1; finished = a.2 })

pub constants_are_typed : (R : Type 0) → ConstantsAreTyped R
constants_are_typed R W B imported v bytes o = ((λ h. sound W o B imported v bytes h.0 h.1), complete W o B imported v bytes)
