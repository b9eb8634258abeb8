-- What contracts see of references among operands.
use Rattle.std.specs.Prelude.{◌≡◌, ◌≤◌, ℕ, length, Option, Some, None, Result, Ok, Err}
use Rattle.wasm_typing_control.specs.WasmSpec.Syntax.{AbstractHeap, reference}
use Rattle.wasm_typing_control.specs.WasmSpec.MatchingTests.{World}
use Rattle.wasm_typing_control.specs.WasmReadersTypes.WasmReadersValues.SeenValues.{ref_of, abstract_heap_of}
use Rattle.wasm_typing_control.specs.WasmReadersTypes.WasmReadersValues.declared.indices.UnpackedIndex.{UnpackedIndex}
use Rattle.wasm_typing_control.specs.WasmTypingChecks.WasmSpecRules.Attempts.{◌>>=◌, guard}
use Rattle.wasm_typing_control.specs.WasmTypingChecks.WasmSpecSteps.Bodies.{Surroundings}
use Rattle.wasm_typing_control.specs.WasmTypingChecks.WasmSpecSteps.Machine.{Operand, bottom_reference, open_reference, known, State, pop_reference}
use Rattle.wasm_typing_control.specs.WasmTypingChecks.WasmSpecSteps.Meanings.{is_below_either}
use Rattle.wasm_typing_control.specs.WasmTypingChecks.WasmTypingStacks.BodyStacks.{below}
use Rattle.wasm_typing_control.specs.WasmTypingChecks.declared.faults.OperatorFault.{OperatorFault}
use Rattle.wasm_typing_references.specs.declared.referenced.Referenced.{Referenced}
use Rattle.wasm_typing_references.specs.declared.referenced.Referenced.TheVariants as referenced

abbrev pub reference_seen : Referenced → Operand UnpackedIndex
reference_seen (referenced.Known r) = known (reference (ref_of r))
reference_seen referenced.Bottom = bottom_reference
reference_seen (referenced.Open k) = open_reference (abstract_heap_of k)

-- a look at a reference, and how many operands are taken then
abbrev pub LookedAt : Result (Referenced × ℕ) OperatorFault → Option (Operand UnpackedIndex × State UnpackedIndex) → State UnpackedIndex → Type 0
LookedAt (Ok p) o s = (o ≡ Some (reference_seen p.0, below p.1 s)) × (p.1 ≤ length s.operands)
LookedAt (Err f) o s = o ≡ None

-- a reference below an abstract heap type, shared or not, and the state without it
unfoldable pub pop_below : World UnpackedIndex → Surroundings UnpackedIndex → AbstractHeap → State UnpackedIndex → Option (Operand UnpackedIndex × State UnpackedIndex)
pop_below W B k s = pop_reference s >>= λ p. guard (is_below_either W B k p.0) p
