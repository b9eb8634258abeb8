-- What the queries of a validator of operators show.
-- Core Specification 3.0, Validation, Instructions (Control Instructions), and Appendix, Validation Algorithm (Data Structures).
use Rattle.std.specs.Prelude.{ℕ, length, Option, Some, None, slice_get}
use Rattle.std.specs.Option.{option_map}
use Rattle.wasm_typing_families.specs.WasmTypingBlocks.WasmTypingChecks.WasmSpecRules.Attempts.{◌>>=◌}
use Rattle.wasm_typing_families.specs.WasmTypingBlocks.WasmTypingChecks.WasmSpecRules.Contexts.{Context}
use Rattle.wasm_typing_families.specs.WasmTypingBlocks.WasmTypingChecks.WasmSpecRules.WasmSpec.Syntax.{Val}
use Rattle.wasm_readers_types.specs.WasmReadersValues.declared.indices.UnpackedIndex.{UnpackedIndex}
use Rattle.wasm_operators.specs.Control.{Block, empty_block}
use Rattle.wasm_operators.specs.SeenControl.{block_of}
use Rattle.wasm_typing_families.specs.WasmTypingBlocks.WasmTypingChecks.WasmSpecSteps.Machine as machine
use Rattle.wasm_typing_families.specs.WasmTypingBlocks.WasmTypingChecks.WasmSpecSteps.Machine.{State, Operand, known}
use Rattle.wasm_typing_families.specs.WasmTypingBlocks.WasmTypingChecks.WasmSpecSteps.Meanings.{label_by}
use Rattle.wasm_typing_families.specs.WasmTypingBlocks.WasmTypingChecks.WasmTypingStacks.SeenBlocks.{kind_of}
use Rattle.wasm_typing_families.specs.WasmTypingSteps.WasmTypingControl.Blocks.{signature_in}
use Rattle.wasm_typing_validator.specs.declared.queries.Frame.{Frame}

-- the type of an operand, where it is known
abbrev pub known_type : Operand UnpackedIndex → Option (Val UnpackedIndex)
known_type (known v) = Some v
known_type _ = None

abbrev pub shown_frame : Frame → machine.Frame UnpackedIndex
shown_frame x = record { kind = kind_of x.kind; block = block_of x.block_type; height = x.height; unreachable = x.unreachable; init_height = x.init_height }

-- how many operands a branch to a label takes, and how many stand below its frame
abbrev pub label_counts_in : Context UnpackedIndex → State UnpackedIndex → ℕ → Option (ℕ × ℕ)
label_counts_in C s l = slice_get s.frames l >>= λ x. option_map (λ g. (length (label_by x.kind g), x.height)) (signature_in C x.block)

-- that many below a frame, where its block has no types
abbrev pub height_over : Block UnpackedIndex → ℕ → Option ℕ
height_over empty_block h = Some h
height_over _ h = None

-- how many operands stand below the frame of a label, where its block has no types
abbrev pub height_of_empty_in : State UnpackedIndex → ℕ → Option ℕ
height_of_empty_in s l = slice_get s.frames l >>= λ x. height_over x.block x.height
