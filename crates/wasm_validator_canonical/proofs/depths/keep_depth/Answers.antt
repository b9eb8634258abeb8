use Rattle.std.proofs.Common.{sym}
use Rattle.wasm_validator_canonical.proofs.KeptDepths.{then_ok, either_way, put_kept, put_others, put_earlier, same_others, same_earlier}
use Rattle.wasm_validator_canonical.proofs.depths.keep_depth.Goals as goal

pub returns-in-Some-known_depth-clause-kept : goal.returns-in-Some-known_depth-clause-kept
returns-in-Some-known_depth-clause-kept g c =
    then_ok c.set_subtyping_depth.result (put_kept c.args.types.now c.set_subtyping_depth.new.self c.args.id.index c.in-Some-known_depth.depth) c.set_subtyping_depth.ensures.ok

pub returns-in-Some-known_depth-clause-others : goal.returns-in-Some-known_depth-clause-others
returns-in-Some-known_depth-clause-others g c = λ other apart.
    either_way c.set_subtyping_depth.result
    (λ e. put_others c.args.types.now c.set_subtyping_depth.new.self c.args.id.index c.in-Some-known_depth.depth other e apart)
    (same_others c.args.types.now c.set_subtyping_depth.new.self other) c.set_subtyping_depth.ensures.ok c.set_subtyping_depth.ensures.err

pub returns-in-Some-known_depth-clause-earlier : goal.returns-in-Some-known_depth-clause-earlier
returns-in-Some-known_depth-clause-earlier g c = λ other n there.
    either_way c.set_subtyping_depth.result
    (λ e. put_earlier c.args.types.now c.set_subtyping_depth.new.self c.args.id.index c.in-Some-known_depth.depth (sym c.in-None.ensures.kept) e other n there)
    (λ e. same_earlier c.args.types.now c.set_subtyping_depth.new.self e other n there) c.set_subtyping_depth.ensures.ok c.set_subtyping_depth.ensures.err
