use Rattle.std.proofs.Common.{◌≡◌, length}
use Rattle.wasm_validator_types.specs.IteratorItems.{imports_left}
use Rattle.wasm_validator_types.proofs.imports_exports.CoreImportsIterator.next.Given as goal

abbrev pub invariant-pairs : goal.invariant-pairs
invariant-pairs g l = imports_left l.self ≡ imports_left l.initial.self

abbrev pub decreases-pairs : goal.decreases-pairs
decreases-pairs g l = length l.self.pairs
