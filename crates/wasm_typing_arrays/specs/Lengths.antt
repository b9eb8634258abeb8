-- References to arrays, of any sharedness.
use Rattle.std.specs.Prelude.{Bool, true, false}
use Rattle.wasm_spec.specs.Matching.{is_shared_heap}
use Rattle.wasm_spec.specs.MatchingTests.{World, matches_heap}
use Rattle.wasm_spec.specs.Syntax.{AbstractHeap, abstract_heap, reference}
use Rattle.wasm_readers_types.specs.WasmReadersValues.declared.indices.UnpackedIndex.{UnpackedIndex}
use Rattle.wasm_typing_checks.specs.WasmSpecSteps.Machine.{Operand, bottom, bottom_reference, open_reference, known}

-- an operand is a reference below an abstract heap type, shared or not
abbrev pub is_reference_below : World UnpackedIndex → AbstractHeap → Operand UnpackedIndex → Bool
is_reference_below W k (known (reference r)) = matches_heap W r.heap (abstract_heap (is_shared_heap W.declared r.heap) k)
is_reference_below W k (known v) = false
is_reference_below W k (open_reference j) = matches_heap W (abstract_heap false j) (abstract_heap false k)
is_reference_below W k bottom_reference = true
is_reference_below W k bottom = true
