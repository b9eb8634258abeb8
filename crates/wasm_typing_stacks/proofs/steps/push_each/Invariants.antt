use Rattle.std.proofs.Common.{◌≡◌, ◌-◌, ◌≤◌, length, drop, take, map}
use Rattle.wasm_operators_plain.specs.WasmReadersTypes.WasmReadersValues.SeenValues.{val_of}
use Rattle.wasm_spec_steps.specs.Machine.{pushed_onto}
use Rattle.wasm_typing_stacks.specs.SeenOperands.{operand_of}
use Rattle.wasm_typing_stacks.proofs.steps.push_each.Given as goal

abbrev pub invariant-pushing : goal.invariant-pushing
invariant-pushing g l = record {
  so_far : map operand_of l.operands ≡ pushed_onto (map val_of (take l.i l.types)) (map operand_of l.initial.operands);
  more : length l.initial.operands ≤ length l.operands;
  above : drop (length l.operands - length l.initial.operands) l.operands ≡ l.initial.operands;
}
