-- A code for where validators stand, by which two can be told apart: what the kit asks of a value that a model holds.
use Rattle.std.specs.Coded.{Coded, codes}
use Rattle.wasm_spec.specs.TreeCode.{coded_tree}
use Rattle.wasm_validator_states.specs.ValidatorStages.{Standing}

pub coded_standing : Coded Standing
coded_standing = hlevel (codes, coded_tree)
