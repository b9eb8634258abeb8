-- What is asked of a module, and of the frames of a body, to tell how many operands an instruction takes and gives.
use Rattle.std.specs.Prelude.{ℕ, List, Option, Some, None}
use Rattle.wasm_spec_steps.specs.WasmSpecRules.WasmSpec.Syntax.{Comp, func, Sub}
use Rattle.wasm_readers_types.specs.WasmReadersValues.declared.indices.UnpackedIndex.{UnpackedIndex}
use Rattle.wasm_readers_types.specs.WasmReadersValues.declared.indices.UnpackedIndex.TheVariants.{Module, RecGroup, Id}
use Rattle.wasm_operators.specs.Control.{Block}
use Rattle.wasm_operators.specs.declared.control.FrameKind.{FrameKind}
use Rattle.wasm_operators.specs.declared.control.FrameKind.TheVariants as frame
use Rattle.wasm_spec_steps.specs.Machine.{Kind, block_kind, loop_kind, if_kind, else_kind, try_table_kind, legacy_try_kind, legacy_catch_kind, legacy_catch_all_kind}

-- Answers, where there is one: the type of a type index and of an id, the type index of a function, and how many parameters and
-- results the type of a tag has; and the block type and the kind of each frame, the innermost first.
pub record Asked : Type 0 where
  pub types : ℕ → Option (Sub UnpackedIndex)
  pub ids : ℕ → Option (Sub UnpackedIndex)
  pub functions : ℕ → Option ℕ
  pub tags : ℕ → Option (ℕ × ℕ)
  pub frames : List (Block UnpackedIndex × Kind)

-- what opened a frame
abbrev pub kind_of : FrameKind → Kind
kind_of frame.Block = block_kind
kind_of frame.If = if_kind
kind_of frame.Else = else_kind
kind_of frame.Loop = loop_kind
kind_of frame.TryTable = try_table_kind
kind_of frame.LegacyTry = legacy_try_kind
kind_of frame.LegacyCatch = legacy_catch_kind
kind_of frame.LegacyCatchAll = legacy_catch_all_kind

-- the type of an index that is an id
abbrev pub type_of_id : Asked → UnpackedIndex → Option (Sub UnpackedIndex)
type_of_id M (Module n) = None
type_of_id M (RecGroup n) = None
type_of_id M (Id id) = M.ids id.index

-- a composite type, where it is a function type
abbrev pub func_alone : {R : Type 0} → Comp R → Option (Comp R)
func_alone (func ps rs) = Some (func ps rs)
func_alone _ = None
