-- What a validator of operators answers of its module and its frames, to tell how many operands an operator takes and gives.
-- Core Specification 3.0, Validation, Conventions (Contexts), and Appendix, Validation Algorithm (Data Structures).
use Rattle.std.specs.Prelude.{◌-◌, ◌^◌, ℕ, List, map, take, Option, slice_get}
use Rattle.std.specs.Option.{option_map, option_and_then}
use Rattle.wasm_typing_families.specs.WasmTypingBlocks.WasmTypingChecks.WasmSpecRules.Contexts.{Context}
use Rattle.wasm_readers_types.specs.WasmReadersValues.declared.indices.UnpackedIndex.{UnpackedIndex}
use Rattle.wasm_operators.specs.Control.{Block}
use Rattle.wasm_typing_families.specs.WasmTypingBlocks.WasmTypingChecks.WasmSpecSteps.Machine.{Kind, Frame}
use Rattle.wasm_typing_arity.specs.Arities.{in_u32}
use Rattle.wasm_typing_arity.specs.ArityQueries.{Asked}
use Rattle.wasm_typing_arity.specs.Lengths.{lengths_of}
use Rattle.wasm_typing_families.specs.WasmTypingBlocks.WasmTypingChecks.WasmValidatorResources.Answers.{sub_in, sub_of_id, tag_in}
use Rattle.wasm_typing_families.specs.WasmTypingBlocks.WasmTypingChecks.WasmTypingStacks.BodyStacks.{state_of}
use Rattle.wasm_typing_families.specs.WasmTypingBlocks.WasmTypingChecks.WasmTypingStacks.declared.stacks.Stacks.{Stacks}

-- the block type and the kind of a frame
abbrev pub label_seen : Frame UnpackedIndex → Block UnpackedIndex × Kind
label_seen x = (x.block, x.kind)

-- how many parameters and results the type of a tag has, where both numbers have 32 bits
abbrev pub tag_counts : Context UnpackedIndex → ℕ → Option (ℕ × ℕ)
tag_counts C n = option_and_then in_u32 (option_map lengths_of (tag_in C n))

module _ {A : Type 0} (v : Stacks A) where
  -- the block types and kinds of the frames, the innermost first, as many as 32 bits count
  abbrev pub labels_in : List (Block UnpackedIndex × Kind)
  labels_in = take (2 ^ 32 - 1) (map label_seen (state_of v).frames)

  -- the kinds of all of them
  abbrev pub kinds_in : List Kind
  kinds_in = map (λ (x : Frame UnpackedIndex). x.kind) (state_of v).frames

  -- the answers of this context and of these frames
  abbrev pub asked_in : Context UnpackedIndex → Asked
  asked_in C = record {
    types = sub_in C;
    ids = λ n. sub_of_id C (record { index = n });
    functions = slice_get C.functions;
    tags = tag_counts C;
    frames = labels_in;
  }
