use Rattle.std.proofs.Common.{ap, refl, ◌∙◌}
use Rattle.wasm_validator_type_list.specs.Depths.{with_depth}
use Rattle.wasm_validator_type_list.proofs.ListInvariants.{sound_same, sound_depth, has_depth, shown_depths}
use Rattle.wasm_validator_type_list.proofs.type_list.TypeList.set_subtyping_depth.Goals as goal

pub invariant_of-self : goal.invariant_of-self
invariant_of-self g c = sound_same c.self.inside _ c.self.invariant refl refl refl refl c.in_err-put.ensures.err refl

pub invariant_of-self-2 : goal.invariant_of-self-2
invariant_of-self-2 g c =
    let a = c.self.inside in
    sound_depth a _ c.args.id.index c.args.depth c.self.invariant (has_depth a c.args.self.now c.args.id.index c.args.depth c.self.view_is c.requires.there c.requires.right) refl refl refl refl
    (c.in_ok-put.ensures.ok ∙ ap (λ id. with_depth a.depths id c.args.depth) c.index.ensures) refl

pub returns-clause-ok : goal.returns-clause-ok
returns-clause-ok g c =
    let a = c.self.inside in
    shown_depths a (record { groups = a.groups; ancestors = a.ancestors; depths = c.put.new.self; refers_by_ids = a.refers_by_ids; is_canonical = a.is_canonical; is_open = a.is_open; alloc = a.alloc }) c.args.self.now c.args.id.index c.args.depth
    c.self.view_is refl refl refl
    (c.in_ok-put.ensures.ok ∙ ap (λ id. with_depth a.depths id c.args.depth) c.index.ensures)
