use Rattle.std.proofs.Common.{true, false}
use Rattle.wasm_typing_continuations.proofs.HandlerClauses.{switch_suits}
use Rattle.wasm_typing_continuations.proofs.handlers.check_switch.Goals as goal

pub returns-then-is_of_switches : goal.returns-then-is_of_switches
returns-then-is_of_switches g c = switch_suits _ _ _ _ _ _ true c.in-Ok.ensures.ok c.is_of_switches.ensures c.if-is_of_switches.true

pub returns-else-is_of_switches : goal.returns-else-is_of_switches
returns-else-is_of_switches g c = switch_suits _ _ _ _ _ _ false c.in-Ok.ensures.ok c.is_of_switches.ensures c.if-is_of_switches.false
