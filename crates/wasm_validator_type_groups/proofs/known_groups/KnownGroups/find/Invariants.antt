use Rattle.wasm_validator_type_groups.proofs.HashChains.{IsLeft, steps_left}
use Rattle.wasm_validator_type_groups.proofs.known_groups.KnownGroups.find.Given as goal

abbrev pub invariant-numbers : goal.invariant-numbers
invariant-numbers g l = IsLeft g.T.Hash.hash_input l.groups l.group l.next

abbrev pub decreases-numbers : goal.decreases-numbers
decreases-numbers g l = steps_left l.next
