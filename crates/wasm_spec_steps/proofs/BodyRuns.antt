-- The body, read and run.
use Rattle.std.proofs.Common.{refl, arith, true, false, pos, [], ◌∷◌}
use Rattle.wasm_spec_rules.specs.WasmSpec.Syntax.{i32, i64}
use Rattle.wasm_operators.specs.Control.{control_from, end_}
use Rattle.wasm_operators.specs.Instructions.{instruction_at, plain_from, control, constant, variable}
use Rattle.wasm_operators.specs.WasmOperatorsPlain.Constants.{constant_from}
use Rattle.wasm_operators.specs.WasmOperatorsPlain.Variables.{variable_from}
use Rattle.wasm_operators.specs.WasmOperatorsPlain.declared.constants.ConstantOperator.TheVariants.{I64Const}
use Rattle.wasm_operators.specs.WasmOperatorsPlain.declared.variables.VariableOperator.TheVariants.{LocalGet, LocalSet}
use Rattle.wasm_spec_steps.specs.BodyExamples.{ParametersAreLocals}

pub parameters_are_locals : ParametersAreLocals
unfolding instruction_at plain_from constant_from variable_from control_from
parameters_are_locals = record {
  signature = record { takes = i32 ∷ i64 ∷ []; gives = i32 ∷ [] };
  shared = false;
  locals = record { content = i32; set = true } ∷ record { content = i64; set = true } ∷ [];
  last = _;
  is_function = refl;
  is_shared = refl;
  body = record {
    declarations = [];
    locals = [];
    instructions = constant (I64Const (pos 0)) ∷ variable (LocalSet 1) ∷ variable (LocalGet 0) ∷ control end_ ∷ [];
    behind = 0x42 ∷ 0 ∷ 0x21 ∷ 1 ∷ 0x20 ∷ 0 ∷ 0x0b ∷ [];
    listed = refl;
    declared = refl;
    all = refl;
    few = omega arith;
    written = (0x21 ∷ 1 ∷ 0x20 ∷ 0 ∷ 0x0b ∷ [], refl, (0x20 ∷ 0 ∷ 0x0b ∷ [], refl, (0x0b ∷ [], refl, ([], refl, refl))));
    typed = refl;
    finished = refl;
  };
}
