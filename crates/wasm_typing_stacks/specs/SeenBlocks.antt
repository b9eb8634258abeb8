-- What contracts see of block types and frames.
use Rattle.std.specs.Prelude.{Bool, true, false, List, [], ◌∷◌, map}
use Rattle.wasm_operators_plain.specs.WasmReadersTypes.WasmReadersValues.declared.indices.UnpackedIndex.{UnpackedIndex}
use Rattle.wasm_typing_stacks.specs.SeenTypeWords.{val_in}
use Rattle.wasm_spec_steps.specs.Control as syntax
use Rattle.wasm_spec_steps.specs.Control.{empty_block, value_block, func_block}
use Rattle.wasm_spec_steps.specs.FrameKind.{FrameKind}
use Rattle.wasm_spec_steps.specs.FrameKind.TheVariants as frame_kind
use Rattle.wasm_spec_steps.specs.Machine as machine
use Rattle.wasm_spec_steps.specs.Machine.{Kind, block_kind, loop_kind, if_kind, else_kind, try_table_kind, legacy_try_kind, legacy_catch_kind, legacy_catch_all_kind}
use Rattle.wasm_typing_stacks.specs.Words.{block_at}
use Rattle.wasm_typing_stacks.specs.declared.block_word.BlockWord.{BlockWord}
use Rattle.wasm_typing_stacks.specs.declared.block_word.Block.{Block}
use Rattle.wasm_typing_stacks.specs.declared.block_word.Block.TheVariants as block
use Rattle.wasm_typing_stacks.specs.declared.stacks.Frame.{Frame}

abbrev pub block_in : BlockWord → syntax.Block UnpackedIndex
block_in w = block_at w.bits

abbrev pub block_seen : Block → syntax.Block UnpackedIndex
block_seen block.Empty = empty_block
block_seen (block.Value t) = value_block (val_in t)
block_seen (block.Func n) = func_block n

abbrev pub kind_of : FrameKind → Kind
kind_of frame_kind.Block = block_kind
kind_of frame_kind.If = if_kind
kind_of frame_kind.Else = else_kind
kind_of frame_kind.Loop = loop_kind
kind_of frame_kind.TryTable = try_table_kind
kind_of frame_kind.LegacyTry = legacy_try_kind
kind_of frame_kind.LegacyCatch = legacy_catch_kind
kind_of frame_kind.LegacyCatchAll = legacy_catch_all_kind

abbrev pub frame_of : Frame → machine.Frame UnpackedIndex
frame_of x = record { kind = kind_of x.kind; block = block_in x.block; height = x.height; unreachable = x.unreachable; init_height = x.init_height }

-- the innermost frame and those around it, where one is open
abbrev pub frames_seen : Bool → Frame → List Frame → List (machine.Frame UnpackedIndex)
frames_seen true x xs = frame_of x ∷ map frame_of xs
frames_seen false x xs = []
