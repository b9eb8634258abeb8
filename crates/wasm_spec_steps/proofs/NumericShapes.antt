-- The shapes of numeric instructions, by their opcodes.
use Rattle.std.proofs.Common.{ap, option_map}
use Rattle.wasm_operators.proofs.WasmOperatorsPlain.OpcodeSignatures.{signatures-by_opcode}
use Rattle.wasm_spec_steps.specs.Shapes.{computing}
use Rattle.wasm_spec_steps.specs.Laws.{NumericShapesByOpcode}

pub numeric_shapes_by_opcode : NumericShapesByOpcode
numeric_shapes_by_opcode op = ap (option_map computing) (signatures-by_opcode op)
