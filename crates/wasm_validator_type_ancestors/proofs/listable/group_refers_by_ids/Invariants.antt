use Rattle.wasm_validator_type_ancestors.proofs.Items.{FirstHold}
use Rattle.wasm_validator_type_ancestors.proofs.ByIds.{ByIds}
use Rattle.wasm_validator_type_ancestors.proofs.listable.group_refers_by_ids.Given as goal

abbrev pub invariant-types : goal.invariant-types
invariant-types g l = FirstHold (λ k s. ByIds l.types s) l.group l.i
