use Rattle.wasm_laws_core.proofs.WorldsAlone.{verdicts_rename_in_worlds}
use Rattle.wasm_laws_core.proofs.steps_rename_in_worlds.Goals as goal

pub returns-clause-verdicts : goal.returns-clause-verdicts
returns-clause-verdicts g c = verdicts_rename_in_worlds
