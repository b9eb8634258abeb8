use Rattle.std.proofs.Common.{refl}
use Rattle.wasm_readers_types.specs.declared.types.CompositeInnerType.TheVariants.{Func}
use Rattle.wasm_validator_type_list.proofs.GroupMatching.{params_in, results_in}
use Rattle.wasm_validator_matches.proofs.matches.WithRecGroupRefFuncTypeMatches.matches.Goals as goal

pub func_signature_matches-requires-clause-sub_params : goal.func_signature_matches-requires-clause-sub_params
func_signature_matches-requires-clause-sub_params g c =
    rw (c.new.ensures.inner, c.new.ensures.group) (params_in c.args.types.now.groups c.args.a.rec_group.index (Func c.args.a.inner.now) c.args.a.inner.now c.params.result.now c.requires.sub refl c.params.ensures)

pub func_signature_matches-requires-clause-sub_results : goal.func_signature_matches-requires-clause-sub_results
func_signature_matches-requires-clause-sub_results g c =
    rw (c.new-2.ensures.inner, c.new-2.ensures.group) (results_in c.args.types.now.groups c.args.a.rec_group.index (Func c.args.a.inner.now) c.args.a.inner.now c.results.result.now c.requires.sub refl c.results.ensures)

pub func_signature_matches-requires-clause-sup_params : goal.func_signature_matches-requires-clause-sup_params
func_signature_matches-requires-clause-sup_params g c =
    rw (c.new-3.ensures.inner, c.new-3.ensures.group) (params_in c.args.types.now.groups c.args.b.rec_group.index (Func c.args.b.inner.now) c.args.b.inner.now c.params-2.result.now c.requires.sup refl c.params-2.ensures)

pub func_signature_matches-requires-clause-sup_results : goal.func_signature_matches-requires-clause-sup_results
func_signature_matches-requires-clause-sup_results g c =
    rw (c.new-4.ensures.inner, c.new-4.ensures.group) (results_in c.args.types.now.groups c.args.b.rec_group.index (Func c.args.b.inner.now) c.args.b.inner.now c.results-2.result.now c.requires.sup refl c.results-2.ensures)

pub returns : goal.returns
returns g c =
    let made = rw (c.new.ensures.inner, c.new.ensures.group, c.new-2.ensures.inner, c.new-2.ensures.group, c.new-3.ensures.inner, c.new-3.ensures.group, c.new-4.ensures.inner, c.new-4.ensures.group) at c.func_signature_matches.ensures in
    rw (c.params.ensures, c.results.ensures, c.params-2.ensures, c.results-2.ensures) at made
