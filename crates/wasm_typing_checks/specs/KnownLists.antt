-- Lists of operands that are known to be of given types.
use Rattle.std.specs.Prelude.{◌≡◌, ℕ, List, map, take}
use Rattle.wasm_validator_resources.specs.WasmReadersTypes.WasmReadersValues.SeenValues.{val_of}
use Rattle.wasm_validator_resources.specs.WasmReadersTypes.WasmReadersValues.declared.values.ValType.{ValType}
use Rattle.wasm_typing_stacks.specs.WasmSpecSteps.Machine.{known}
use Rattle.wasm_typing_stacks.specs.SeenOperands.{operand_of}
use Rattle.wasm_typing_stacks.specs.declared.word.Word.{Word}

-- the first so many operands are known to be of the first so many types, place by place
unfoldable pub KnownTo : List Word → List ValType → ℕ → Type 0
KnownTo os vs n = map operand_of (take n os) ≡ map known (map val_of (take n vs))
