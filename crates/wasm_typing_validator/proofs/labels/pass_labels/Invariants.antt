use Rattle.std.proofs.Common.{◌≤◌, ℕ, List}
use Rattle.wasm_readers.specs.WasmReadersBytes.Reader.{SameInput, position_in, rest}
use Rattle.wasm_typing_validator.specs.Labels.{Lists}
use Rattle.wasm_typing_validator.proofs.labels.pass_labels.Given as goal

abbrev pub invariant-passing : goal.invariant-passing
invariant-passing g l = record {
  same : SameInput l.initial.ahead l.ahead;
  onward : position_in l.initial.ahead ≤ position_in l.ahead;
  listed : (more : List ℕ) → Lists l.stacks (g.T.WasmModuleResources.context l.resources) l.left (rest l.ahead) more → Lists l.stacks (g.T.WasmModuleResources.context l.resources) l.initial.left (rest l.initial.ahead) more;
}

abbrev pub decreases-passing : goal.decreases-passing
decreases-passing g l = l.left
