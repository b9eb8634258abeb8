-- Loads and stores by what they give or take.
use Rattle.wasm_operators.specs.WasmOperatorsPlain.declared.memories.MemoryOperator.{MemoryOperator}
use Rattle.wasm_operators.specs.WasmOperatorsPlain.declared.memories.MemArg.{MemArg}
use Rattle.wasm_typing_checks.specs.WasmSpecSteps.Shapes.{Shape, loading, storing, number_type}
use Rattle.wasm_typing_numbers.specs.declared.accesses.Access.{Access}
use Rattle.wasm_typing_numbers.specs.declared.accesses.Access.TheVariants.{Load, Store}

abbrev pub accessing : Access → MemoryOperator → MemArg → Shape
accessing (Load t) op m = loading op m (number_type t)
accessing (Store t) op m = storing op m (number_type t)
