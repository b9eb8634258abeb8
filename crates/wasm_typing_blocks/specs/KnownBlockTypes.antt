-- Block types that are known: what their checks say, and what they stand for.
use Rattle.std.specs.Prelude.{ℕ, Bool, true, ◌&&◌, ◌≡◌, List, [], ◌∷◌, ◌++◌, Option, Some, None, Result, Ok, Err, if◌then◌else◌}
use Rattle.std.specs.Option.{option_map}
use Rattle.wasm_spec.specs.Syntax.{Val}
use Rattle.wasm_spec.specs.MatchingTests.{World}
use Rattle.wasm_spec_rules.specs.Contexts.{Context}
use Rattle.wasm_readers_types.specs.WasmReadersValues.declared.indices.UnpackedIndex.{UnpackedIndex}
use Rattle.wasm_operators.specs.Control.{Block}
use Rattle.wasm_operators.specs.declared.control.Catch.{Catch}
use Rattle.wasm_spec_rules.specs.Attempts.{◌>>=◌}
use Rattle.wasm_typing_control.specs.WasmTypingChecks.WasmSpecSteps.Actions.{Check, has, exceptions}
use Rattle.wasm_typing_control.specs.WasmTypingChecks.WasmSpecSteps.Bodies.{Surroundings}
use Rattle.wasm_typing_control.specs.WasmTypingChecks.WasmSpecSteps.Machine.{State}
use Rattle.wasm_typing_control.specs.WasmTypingChecks.WasmSpecSteps.Meanings.{resolve_block, holds}
use Rattle.wasm_typing_control.specs.WasmTypingChecks.WasmSpecSteps.Shapes.{block_checks, catch_checks}
use Rattle.wasm_typing_control.specs.WasmTypingChecks.WasmValidatorResources.Answers.{world}
use Rattle.wasm_typing_control.specs.WasmTypingChecks.WasmTypingStacks.BodyStacks.{state_of, around}
use Rattle.wasm_typing_control.specs.WasmTypingChecks.WasmTypingStacks.SeenBlocks.{block_in}
use Rattle.wasm_typing_control.specs.WasmTypingChecks.WasmTypingStacks.declared.stacks.Stacks.{Stacks}
use Rattle.wasm_typing_control.specs.WasmTypingChecks.SeenTypes.{types_seen}
use Rattle.wasm_typing_control.specs.WasmTypingChecks.declared.faults.OperatorFault.{OperatorFault}
use Rattle.wasm_typing_control.specs.Blocks.{signature_in}
use Rattle.wasm_typing_blocks.specs.declared.openings.Opening.{Opening}

abbrev pub hold_all : World UnpackedIndex → Surroundings UnpackedIndex → State UnpackedIndex → List Check → Bool
hold_all W B s [] = true
hold_all W B s (c ∷ cs) = holds W B s c && hold_all W B s cs

-- what a `try_table` checks, the number of its catch clauses aside
abbrev pub try_checks : Block ℕ → List Catch → List Check
try_checks b cs = has exceptions ∷ block_checks b ++ catch_checks cs

-- the block type by identities, and what it takes
abbrev pub taken_by : Context UnpackedIndex → Block UnpackedIndex → Option (Block UnpackedIndex × List (Val UnpackedIndex))
taken_by C c = option_map (λ g. (c, g.takes)) (signature_in C c)

module _ {A : Type 0} (v : Stacks A) (C : Context UnpackedIndex) where
  -- whether each of these checks holds
  unfoldable pub all_held : List Check → Bool
  all_held cs = hold_all (world C) (around v C) (state_of v) cs

  -- what a written block type stands for, where its checks hold
  unfoldable pub block_known : Block ℕ → Option (Block UnpackedIndex × List (Val UnpackedIndex))
  block_known b = if hold_all (world C) (around v C) (state_of v) (block_checks b) then (resolve_block C.types b >>= taken_by C) else None

abbrev pub Opens : Result Opening OperatorFault → Option (Block UnpackedIndex × List (Val UnpackedIndex)) → Type 0
Opens (Ok o) k = k ≡ Some (block_in o.word, types_seen o.takes)
Opens (Err f) k = k ≡ None
