use Rattle.wasm_validator_type_ancestors.proofs.Items.{FirstHold}
use Rattle.wasm_validator_type_ancestors.proofs.ListableGroups.{StandAt}
use Rattle.wasm_validator_type_ancestors.proofs.listable.group_is_listable.Given as goal

abbrev pub invariant-types : goal.invariant-types
invariant-types g l = FirstHold (StandAt l.types l.group) l.group l.i
