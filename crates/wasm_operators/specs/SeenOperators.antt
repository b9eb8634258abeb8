-- What contracts see of an operator.
use Rattle.wasm_operators_proposals.specs.WasmOperatorsPlain.WasmReadersTypes.WasmReadersValues.declared.indices.UnpackedIndex.{UnpackedIndex}
use Rattle.wasm_operators.specs.Instructions as syntax
use Rattle.wasm_operators.specs.Instructions.{Instruction}
use Rattle.wasm_operators.specs.SeenControl.{control_of, parametric_of}
use Rattle.wasm_operators.specs.SeenLegacy.{legacy_of}
use Rattle.wasm_operators.specs.SeenContinuations.{continuation_of}
use Rattle.wasm_operators.specs.SeenReferences.{reference_of, cast_of}
use Rattle.wasm_operators.specs.declared.operators.Operator.{Operator}
use Rattle.wasm_operators.specs.declared.operators.Operator.TheVariants as operator

abbrev pub operator_of : Operator → Instruction UnpackedIndex
operator_of (operator.Control op) = syntax.control (control_of op)
operator_of (operator.Legacy op) = syntax.legacy (legacy_of op)
operator_of (operator.Call op) = syntax.call op
operator_of (operator.Parametric op) = syntax.parametric (parametric_of op)
operator_of (operator.Variable op) = syntax.variable op
operator_of (operator.Table op) = syntax.table op
operator_of (operator.Memory op arg) = syntax.access op arg
operator_of (operator.BulkMemory op) = syntax.memory op
operator_of (operator.Constant op) = syntax.constant op
operator_of (operator.Numeric op) = syntax.numeric op
operator_of (operator.Saturating op) = syntax.saturating op
operator_of (operator.Reference op) = syntax.reference (reference_of op)
operator_of (operator.Cast op) = syntax.cast (cast_of op)
operator_of (operator.Conversion op) = syntax.conversion op
operator_of (operator.Struct op) = syntax.structure op
operator_of (operator.Array op) = syntax.array op
operator_of (operator.Vector op values) = syntax.vector op values
operator_of (operator.Atomic op values) = syntax.atomic op values
operator_of (operator.Wide op) = syntax.wide op
operator_of (operator.Continuation op) = syntax.continuation (continuation_of op)
operator_of (operator.Shared op values) = syntax.shared op values
