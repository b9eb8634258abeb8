-- Operators as they are written in a module, over type indices.
use Rattle.std.specs.Prelude.{ℕ, ⊤}
use Rattle.wasm_readers_types.specs.WasmReadersValues.declared.indices.UnpackedIndex.{UnpackedIndex}
use Rattle.wasm_operators.specs.Control as syntax
use Rattle.wasm_operators.specs.Control.{Block, empty_block, value_block, func_block, Control, Parametric}
use Rattle.wasm_operators.specs.Legacy.{Legacy, try_}
use Rattle.wasm_operators.specs.Maps.{map_block, map_control, map_legacy, map_parametric}
use Rattle.wasm_operators.specs.SeenControl.{block_of, control_of, parametric_of}
use Rattle.wasm_operators.specs.SeenLegacy.{legacy_of}
use Rattle.wasm_operators.specs.declared.control.BlockType.{BlockType}
use Rattle.wasm_operators.specs.declared.control.ControlOperator.{ControlOperator}
use Rattle.wasm_operators.specs.declared.control.ParametricOperator.{ParametricOperator}
use Rattle.wasm_operators.specs.declared.legacy.LegacyOperator.{LegacyOperator}
use Rattle.wasm_typing_control.specs.WasmTypingChecks.WasmValidatorResources.Answers.{written_index, IsWrittenVal}

abbrev pub block_written : BlockType → Block ℕ
block_written b = map_block written_index (block_of b)

abbrev pub control_written : ControlOperator → Control ℕ
control_written op = map_control written_index (control_of op)

abbrev pub legacy_written : LegacyOperator → Legacy ℕ
legacy_written op = map_legacy written_index (legacy_of op)

abbrev pub parametric_written : ParametricOperator → Parametric ℕ
parametric_written op = map_parametric written_index (parametric_of op)

-- an index in the type of the block, if there is one, is a type index of a module
abbrev pub IsWrittenBlock : Block UnpackedIndex → Type 0
IsWrittenBlock empty_block = ⊤
IsWrittenBlock (value_block v) = IsWrittenVal v
IsWrittenBlock (func_block n) = ⊤

abbrev pub IsWrittenControl : Control UnpackedIndex → Type 0
IsWrittenControl (syntax.block b) = IsWrittenBlock b
IsWrittenControl (syntax.loop b) = IsWrittenBlock b
IsWrittenControl (syntax.if_ b) = IsWrittenBlock b
IsWrittenControl (syntax.try_table b cs) = IsWrittenBlock b
IsWrittenControl _ = ⊤

abbrev pub IsWrittenLegacy : Legacy UnpackedIndex → Type 0
IsWrittenLegacy (try_ b) = IsWrittenBlock b
IsWrittenLegacy _ = ⊤
