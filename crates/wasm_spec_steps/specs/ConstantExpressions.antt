-- Which instructions a constant expression may have, and what references they take and give.
-- Core Specification 3.0, Validation, Instructions (Expressions, Constant Expressions).
use Rattle.std.specs.Prelude.{◌≡◌, ℕ, Bool, true, false, not, ◌&&◌, List, ◌∷◌}
use Rattle.wasm_spec_rules.specs.WasmSpec.Syntax.{i32, i64, f32, f64, v128}
use Rattle.wasm_spec_rules.specs.WasmSpec.Features.{Features}
use Rattle.wasm_operators.specs.WasmOperatorsPlain.declared.numeric.NumericOperator.{NumericOperator}
use Rattle.wasm_operators.specs.WasmOperatorsPlain.declared.numeric.NumericOperator.TheVariants.{I32Add, I32Sub, I32Mul, I64Add, I64Sub, I64Mul}
use Rattle.wasm_operators.specs.Control.{end_}
use Rattle.wasm_operators.specs.References.{ref_null, ref_func}
use Rattle.wasm_operators.specs.Instructions as instruction
use Rattle.wasm_operators.specs.Instructions.{Instruction, control, variable, constant, numeric, conversion, structure, array}
use Rattle.wasm_operators.specs.WasmOperatorsPlain.declared.variables.VariableOperator.TheVariants.{GlobalGet}
use Rattle.wasm_operators.specs.WasmOperatorsPlain.declared.conversions.ConversionOperator.{ConversionOperator}
use Rattle.wasm_operators.specs.WasmOperatorsPlain.declared.conversions.ConversionOperator.TheVariants.{AnyConvertExtern, ExternConvertAny, RefI31, RefI31Shared}
use Rattle.wasm_operators.specs.WasmOperatorsPlain.declared.structs.StructOperator.{StructOperator}
use Rattle.wasm_operators.specs.WasmOperatorsPlain.declared.structs.StructOperator.TheVariants.{StructNew, StructNewDefault, StructNewDesc, StructNewDefaultDesc}
use Rattle.wasm_operators.specs.WasmOperatorsPlain.declared.arrays.ArrayOperator.{ArrayOperator}
use Rattle.wasm_operators.specs.WasmOperatorsPlain.declared.arrays.ArrayOperator.TheVariants.{ArrayNew, ArrayNewDefault, ArrayNewFixed}
use Rattle.wasm_spec_steps.specs.Machine.{Operand, bottom, known}

-- the arithmetic of extended constant expressions
abbrev pub is_extended : NumericOperator → Bool
is_extended I32Add = true
is_extended I32Sub = true
is_extended I32Mul = true
is_extended I64Add = true
is_extended I64Sub = true
is_extended I64Mul = true
is_extended _ = false

abbrev pub makes_structure : StructOperator → Bool
makes_structure (StructNew x) = true
makes_structure (StructNewDefault x) = true
makes_structure (StructNewDesc x) = true
makes_structure (StructNewDefaultDesc x) = true
makes_structure _ = false

abbrev pub makes_array : ArrayOperator → Bool
makes_array (ArrayNew x) = true
makes_array (ArrayNewDefault x) = true
makes_array (ArrayNewFixed x n) = true
makes_array _ = false

-- conversions that give a reference, by what they need
abbrev pub is_constant_conversion : Features → ConversionOperator → Bool
is_constant_conversion F AnyConvertExtern = F.gc
is_constant_conversion F ExternConvertAny = F.gc
is_constant_conversion F RefI31 = F.gc
is_constant_conversion F RefI31Shared = F.shared_everything_threads
is_constant_conversion F _ = false

-- Instructions that a constant expression may have under these features. Which globals it may read is a rule of its own.
abbrev pub is_constant : Features → Instruction ℕ → Bool
is_constant F (control end_) = true
is_constant F (constant c) = true
is_constant F (instruction.reference (ref_null h)) = true
is_constant F (instruction.reference (ref_func x)) = true
is_constant F (variable (GlobalGet x)) = true
is_constant F (numeric op) = F.extended_const && is_extended op
is_constant F (structure op) = F.gc && makes_structure op
is_constant F (array op) = F.gc && makes_array op
is_constant F (conversion op) = is_constant_conversion F op
is_constant F _ = false

-- those that give a reference
abbrev pub gives_reference : Instruction ℕ → Bool
gives_reference (instruction.reference (ref_null h)) = true
gives_reference (instruction.reference (ref_func x)) = true
gives_reference (structure op) = makes_structure op
gives_reference (array op) = makes_array op
gives_reference (conversion AnyConvertExtern) = true
gives_reference (conversion ExternConvertAny) = true
gives_reference (conversion RefI31) = true
gives_reference (conversion RefI31Shared) = true
gives_reference _ = false

-- those that take no reference: constants, reading of a global, and numbers
abbrev pub takes_no_reference : Instruction ℕ → Bool
takes_no_reference (constant c) = true
takes_no_reference (numeric op) = true
takes_no_reference (variable (GlobalGet x)) = true
takes_no_reference _ = false

abbrev pub is_reference : {R : Type 0} → Operand R → Bool
is_reference bottom = false
is_reference (known i32) = false
is_reference (known i64) = false
is_reference (known f32) = false
is_reference (known f64) = false
is_reference (known v128) = false
is_reference _ = true

-- What is left of a stack of operands when some are taken from its top, where each that is taken passes a test.
pub data IsLeft {R : Type 0} (test : Operand R → Bool) : List (Operand R) → List (Operand R) → Type 0 where
  none_taken : {xs : List (Operand R)} → IsLeft test xs xs
  one_taken : {x : Operand R} {xs ys : List (Operand R)} → test x ≡ true → IsLeft test xs ys → IsLeft test (x ∷ xs) ys

-- One operand is given, in the place of some that pass a test.
pub record GivesOne {R : Type 0} (test : Operand R → Bool) (before after : List (Operand R)) : Type 0 where
  pub given : Operand R
  pub left : List (Operand R)
  pub gives : after ≡ given ∷ left
  pub takes : IsLeft test before left

-- those in one frame, and a reference at the top
pub record GivesOneReference {R : Type 0} (before after : List (Operand R)) : Type 0 where
  pub one : GivesOne (λ x. true) before after
  pub is_one : is_reference one.given ≡ true

abbrev pub is_number : {R : Type 0} → Operand R → Bool
is_number x = not (is_reference x)
