use Rattle.std.proofs.Common.{refl, false}
use Rattle.wasm_validator_type_list.proofs.ListInvariants.{sound_same, sound_closed, shown_closed}
use Rattle.wasm_validator_type_list.proofs.type_list.TypeList.commit.Goals as goal

pub invariant_of-result : goal.invariant_of-result
invariant_of-result g c = sound_closed c.self.inside _ c.self.invariant c.in_ok-groups.ensures.copy refl c.in_ok-ancestors.ensures.copy c.new.ensures refl

pub invariant_of-self : goal.invariant_of-self
invariant_of-self g c = sound_same c.self.inside _ c.self.invariant c.commit.ensures.same refl refl refl refl refl

pub invariant_of-self-2 : goal.invariant_of-self-2
invariant_of-self-2 g c = sound_same c.self.inside _ c.self.invariant c.commit.ensures.same refl refl c.commit-2.ensures.same refl refl

pub returns-clause-copy : goal.returns-clause-copy
returns-clause-copy g c = shown_closed c.self.inside (record { groups = c.in_ok-groups.groups; ancestors = c.in_ok-ancestors.ancestors; depths = c.new.result; refers_by_ids = c.self.inside.refers_by_ids; is_canonical = c.self.inside.is_canonical; is_open = false; alloc = c.self.inside.alloc }) c.args.self.now c.self.view_is c.in_ok-groups.ensures.copy c.new.ensures refl refl

pub invariant_of-self-in_err-ancestors : goal.invariant_of-self-in_err-ancestors
invariant_of-self-in_err-ancestors g c = sound_same c.self.inside _ c.self.invariant c.commit.ensures.same refl refl c.commit-2.ensures.same refl refl
