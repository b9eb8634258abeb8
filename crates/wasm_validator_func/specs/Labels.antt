-- How many operands blocks and labels take. Core Specification 3.0, Validation, Instructions (Control Instructions).
use Rattle.std.specs.Prelude.{ℕ, length, Option, slice_get}
use Rattle.std.specs.Option.{option_map}
use Rattle.wasm_spec_rules.specs.Attempts.{◌>>=◌}
use Rattle.wasm_spec_rules.specs.Contexts.{Context}
use Rattle.wasm_spec_rules.specs.Signatures.{Signature}
use Rattle.wasm_readers_types.specs.WasmReadersValues.declared.indices.UnpackedIndex.{UnpackedIndex}
use Rattle.wasm_operators.specs.Control.{Block}
use Rattle.wasm_spec_steps.specs.Machine.{State}
use Rattle.wasm_spec_steps.specs.Meanings.{label_by}
use Rattle.wasm_typing_validator.specs.WasmTypingControl.Blocks.{signature_in}
pub use Rattle.wasm_typing_validator.specs.QueryResults.{label_counts_in, height_of_empty_in}

-- how many parameters and results there are
abbrev pub both_lengths : Signature UnpackedIndex → ℕ × ℕ
both_lengths g = (length g.takes, length g.gives)

abbrev pub block_arity_in : Context UnpackedIndex → Block UnpackedIndex → Option (ℕ × ℕ)
block_arity_in C b = option_map both_lengths (signature_in C b)

-- how many operands a branch to a label takes
abbrev pub label_arity_in : Context UnpackedIndex → State UnpackedIndex → ℕ → Option ℕ
label_arity_in C s l = slice_get s.frames l >>= λ x. option_map (λ g. length (label_by x.kind g)) (signature_in C x.block)
