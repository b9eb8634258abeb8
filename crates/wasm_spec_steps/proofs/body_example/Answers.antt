use Rattle.wasm_spec_steps.proofs.BodyRuns.{parameters_are_locals}
use Rattle.wasm_spec_steps.proofs.body_example.Goals as goal

pub returns : goal.returns
returns c = record { parameters = parameters_are_locals }
