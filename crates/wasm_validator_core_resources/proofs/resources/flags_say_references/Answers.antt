use Rattle.wasm_validator_core_resources.proofs.Lists.{flags_say_references}
use Rattle.wasm_validator_core_resources.proofs.resources.flags_say_references.Goals as goal

pub returns : goal.returns
returns c = flags_say_references
