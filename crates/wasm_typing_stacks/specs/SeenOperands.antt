-- What contracts see of operands.
use Rattle.wasm_operators_plain.specs.WasmReadersTypes.WasmReadersValues.SeenValues.{val_of, abstract_heap_of}
use Rattle.wasm_operators_plain.specs.WasmReadersTypes.WasmReadersValues.declared.indices.UnpackedIndex.{UnpackedIndex}
use Rattle.wasm_spec_steps.specs.Machine as machine
use Rattle.wasm_spec_steps.specs.Machine.{bottom, bottom_reference, open_reference, known}
use Rattle.wasm_typing_stacks.specs.Words.{operand_at}
use Rattle.wasm_typing_stacks.specs.declared.word.Word.{Word}
use Rattle.wasm_typing_stacks.specs.declared.word.Operand.{Operand}
use Rattle.wasm_typing_stacks.specs.declared.word.Operand.TheVariants as operand

abbrev pub operand_of : Word → machine.Operand UnpackedIndex
operand_of w = operand_at w.bits

abbrev pub operand_seen : Operand → machine.Operand UnpackedIndex
operand_seen (operand.Known v) = known (val_of v)
operand_seen operand.Bottom = bottom
operand_seen operand.BottomReference = bottom_reference
operand_seen (operand.Open k) = open_reference (abstract_heap_of k)
