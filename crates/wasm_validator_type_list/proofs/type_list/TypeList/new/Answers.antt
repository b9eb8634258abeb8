use Rattle.std.proofs.Common.{refl, true}
use Rattle.wasm_validator_type_list.proofs.ListInvariants.{sound_none, shown_none}
use Rattle.wasm_validator_type_list.proofs.type_list.TypeList.new.Goals as goal

pub invariant_of-result : goal.invariant_of-result
invariant_of-result g c = sound_none _ c.new.ensures c.new-2.ensures c.new-3.ensures refl

pub returns : goal.returns
returns g c = shown_none (record { groups = c.new.result; ancestors = c.new-2.result; depths = c.new-3.result; refers_by_ids = true; is_canonical = c.args.is_canonical; is_open = true; alloc = c.args.alloc }) c.args.is_canonical c.new.ensures c.new-3.ensures refl refl
