-- Labels that a branch table lists, each of a block without types.
use Rattle.std.specs.Prelude.{◌≡◌, ℕ, true, List, Some}
use Rattle.wasm_operators.specs.WasmOperatorsPlain.WasmSpec.Values.{u32_at, many_at}
use Rattle.wasm_typing_families.specs.WasmTypingBlocks.WasmTypingChecks.WasmSpecRules.Contexts.{Context}
use Rattle.wasm_typing_families.specs.WasmTypingBlocks.WasmTypingChecks.WasmTypingStacks.declared.stacks.Stacks.{Stacks}
use Rattle.wasm_typing_families.specs.WasmTypingBlocks.BranchTargets.{all_fit}
use Rattle.wasm_readers_types.specs.WasmReadersValues.declared.indices.UnpackedIndex.{UnpackedIndex}

-- so many labels with these bytes behind, to each of which a branch takes nothing below the index on top
unfoldable pub Lists : {A : Type 0} → Stacks A → Context UnpackedIndex → ℕ → List ℕ → List ℕ → Type 0
Lists v C n bytes more = (ls : List ℕ) × (many_at u32_at n bytes ≡ Some (ls, more)) × (all_fit v C 1 0 ls ≡ true)
