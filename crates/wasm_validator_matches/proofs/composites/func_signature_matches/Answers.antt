use Rattle.wasm_validator_matches.proofs.Signatures.{signatures_match, signatures_differ}
use Rattle.wasm_validator_matches.proofs.composites.func_signature_matches.Goals as goal

pub returns-then-all_vals_match : goal.returns-then-all_vals_match
returns-then-all_vals_match g c =
    signatures_match c.args.types.now.groups c.args.a_params.rec_group.index c.args.a_results.rec_group.index c.args.b_params.rec_group.index c.args.b_results.rec_group.index
    c.args.a_params.inner.now c.args.a_results.inner.now c.args.b_params.inner.now c.args.b_results.inner.now c.all_vals_match.result c.all_vals_match.ensures
    c.all_vals_match-then-all_vals_match.result c.if-all_vals_match.true c.all_vals_match-then-all_vals_match.ensures

pub returns-else-all_vals_match : goal.returns-else-all_vals_match
returns-else-all_vals_match g c =
    signatures_differ c.args.types.now.groups c.args.a_params.rec_group.index c.args.a_results.rec_group.index c.args.b_params.rec_group.index c.args.b_results.rec_group.index
    c.args.a_params.inner.now c.args.a_results.inner.now c.args.b_params.inner.now c.args.b_results.inner.now c.all_vals_match.result c.all_vals_match.ensures c.if-all_vals_match.false
