use Rattle.wasm_validator_type_list.proofs.type_list.TypeList.holds_value.Goals as goal

pub returns-in-Ref : goal.returns-in-Ref
returns-in-Ref g c = rw c.in-Ref.is c.holds_reference.ensures
