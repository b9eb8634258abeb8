use Rattle.wasm_spec_steps.proofs.OperandSequences.{unreached_code_takes_anything}
use Rattle.wasm_spec_steps.proofs.operands_are_taken_in_turn.Goals as goal

pub returns-clause-unreached : goal.returns-clause-unreached
returns-clause-unreached g c = unreached_code_takes_anything
