-- What contracts see of control and parametric operators.
use Rattle.std.specs.Prelude.{ℕ, List}
use Rattle.wasm_operators_proposals.specs.WasmOperatorsPlain.WasmSpec.Values.{u32_at}
use Rattle.wasm_operators_proposals.specs.WasmOperatorsPlain.WasmSpec.BinaryTypes.{val_at}
use Rattle.wasm_operators_proposals.specs.WasmOperatorsPlain.WasmReaders.WrittenIndices.{written}
use Rattle.wasm_operators_proposals.specs.WasmOperatorsPlain.WasmReadersTypes.WasmReadersValues.SeenValues.{val_of}
use Rattle.wasm_operators_proposals.specs.WasmOperatorsPlain.WasmReadersTypes.WasmReadersValues.declared.indices.UnpackedIndex.{UnpackedIndex}
use Rattle.wasm_operators.specs.Control as syntax
use Rattle.wasm_operators.specs.Control.{Block, Control, Parametric, catch_at}
use Rattle.wasm_operators.specs.SeenLists.{listed}
use Rattle.wasm_operators.specs.declared.control.Catch.{Catch}
use Rattle.wasm_operators.specs.declared.control.BrTable.{BrTable}
use Rattle.wasm_operators.specs.declared.control.TryTable.{TryTable}
use Rattle.wasm_operators.specs.declared.control.BlockType.{BlockType}
use Rattle.wasm_operators.specs.declared.control.BlockType.TheVariants as block
use Rattle.wasm_operators.specs.declared.control.ControlOperator.{ControlOperator}
use Rattle.wasm_operators.specs.declared.control.ControlOperator.TheVariants as control
use Rattle.wasm_operators.specs.declared.control.ParametricOperator.{ParametricOperator}
use Rattle.wasm_operators.specs.declared.control.ParametricOperator.TheVariants as parametric

abbrev pub block_of : BlockType → Block UnpackedIndex
block_of block.Empty = syntax.empty_block
block_of (block.Value v) = syntax.value_block (val_of v)
block_of (block.FuncType x) = syntax.func_block x

abbrev pub labels_of : BrTable → List ℕ × ℕ
labels_of t = (listed u32_at t.targets, t.default)

abbrev pub catches_of : TryTable → Block UnpackedIndex × List Catch
catches_of t = (block_of t.ty, listed catch_at t.catches)

abbrev pub control_of : ControlOperator → Control UnpackedIndex
control_of control.Unreachable = syntax.unreachable
control_of control.Nop = syntax.nop
control_of (control.Block b) = syntax.block (block_of b)
control_of (control.Loop b) = syntax.loop (block_of b)
control_of (control.If b) = syntax.if_ (block_of b)
control_of control.Else = syntax.else_
control_of (control.TryTable t) = syntax.try_table (catches_of t).0 (catches_of t).1
control_of (control.Throw x) = syntax.throw x
control_of control.ThrowRef = syntax.throw_ref
control_of control.End = syntax.end_
control_of (control.Br l) = syntax.br l
control_of (control.BrIf l) = syntax.br_if l
control_of (control.BrTable t) = syntax.br_table (labels_of t).0 (labels_of t).1
control_of control.Return = syntax.return_

abbrev pub parametric_of : ParametricOperator → Parametric UnpackedIndex
parametric_of parametric.Drop = syntax.drop_
parametric_of parametric.Select = syntax.select
parametric_of (parametric.TypedSelect ts) = syntax.select_of (listed (val_at written) ts)
