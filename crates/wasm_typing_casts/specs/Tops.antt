-- The greatest type of the hierarchy of a written heap type.
use Rattle.std.specs.Prelude.{ℕ, Bool, Option}
use Rattle.wasm_typing_references.specs.WasmSpec.Syntax.{Heap, abstract_heap}
use Rattle.wasm_typing_references.specs.WasmSpec.Matching.{top_of_heap}
use Rattle.wasm_typing_references.specs.WasmSpecRules.Contexts.{Context}
use Rattle.wasm_typing_references.specs.WasmReadersTypes.WasmReadersValues.SeenValues.{abstract_heap_of}
use Rattle.wasm_typing_references.specs.WasmReadersTypes.WasmReadersValues.declared.indices.UnpackedIndex.{UnpackedIndex}
use Rattle.wasm_typing_references.specs.WasmReadersTypes.WasmReadersValues.declared.values.AbstractHeapType.{AbstractHeapType}
use Rattle.wasm_typing_references.specs.WasmSpecRules.Attempts.{◌>>=◌}
use Rattle.wasm_typing_references.specs.WasmSpecRules.Signatures.{resolve_heap}
use Rattle.wasm_typing_references.specs.WasmTypingChecks.WasmValidatorResources.Answers.{world}

abbrev pub top_seen : Bool × AbstractHeapType → Heap UnpackedIndex
top_seen p = abstract_heap p.0 (abstract_heap_of p.1)

-- where the module has the type that is named, and knows what it declares
unfoldable pub top_in : Context UnpackedIndex → Heap ℕ → Option (Heap UnpackedIndex)
top_in C h = resolve_heap C.types h >>= top_of_heap (world C).declared
