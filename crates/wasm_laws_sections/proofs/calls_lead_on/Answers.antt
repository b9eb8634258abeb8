use Rattle.wasm_laws_sections.proofs.Calls.{new_states_are_reached, calls_lead_on as lead_on, resets_lead_on}
use Rattle.wasm_laws_sections.proofs.calls_lead_on.Goals as goal

pub returns-clause-new : goal.returns-clause-new
returns-clause-new c c' = new_states_are_reached

pub returns-clause-call : goal.returns-clause-call
returns-clause-call c c' = lead_on

pub returns-clause-reset : goal.returns-clause-reset
returns-clause-reset c c' = resets_lead_on
