use Rattle.wasm_validator_type_list.proofs.GroupMatching.{params_in, results_in, fields_in}
use Rattle.wasm_validator_type_list.proofs.CompositeMatching.{funcs_match, funcs_differ, structs_match}
use Rattle.wasm_validator_type_list.proofs.type_list.matching.inners_match.Goals as goal

pub all_vals_match-requires-clause-sub : goal.all_vals_match-requires-clause-sub
all_vals_match-requires-clause-sub g c = params_in c.args.types.now.groups c.args.b_group.index c.args.b.now c.in-Func-Func.sup c.params.result.now c.requires.sup c.in-Func-Func.is-1 c.params.ensures

pub all_vals_match-requires-clause-sup : goal.all_vals_match-requires-clause-sup
all_vals_match-requires-clause-sup g c = params_in c.args.types.now.groups c.args.a_group.index c.args.a.now c.in-Func-Func.sub c.params-in-Func-Func.result.now c.requires.sub c.in-Func-Func.is-0 c.params-in-Func-Func.ensures

pub all_vals_match-requires-then-all_vals_match-clause-sub : goal.all_vals_match-requires-then-all_vals_match-clause-sub
all_vals_match-requires-then-all_vals_match-clause-sub g c = results_in c.args.types.now.groups c.args.a_group.index c.args.a.now c.in-Func-Func.sub c.results.result.now c.requires.sub c.in-Func-Func.is-0 c.results.ensures

pub all_vals_match-requires-then-all_vals_match-clause-sup : goal.all_vals_match-requires-then-all_vals_match-clause-sup
all_vals_match-requires-then-all_vals_match-clause-sup g c = results_in c.args.types.now.groups c.args.b_group.index c.args.b.now c.in-Func-Func.sup c.results-then-all_vals_match.result.now c.requires.sup c.in-Func-Func.is-1 c.results-then-all_vals_match.ensures

pub all_fields_match-requires-clause-sub : goal.all_fields_match-requires-clause-sub
all_fields_match-requires-clause-sub g c = fields_in c.args.types.now.groups c.args.a_group.index c.args.a.now c.in-Struct-Struct.sub c.as_slice.result.now c.requires.sub c.in-Struct-Struct.is-0 c.as_slice.ensures

pub all_fields_match-requires-clause-sup : goal.all_fields_match-requires-clause-sup
all_fields_match-requires-clause-sup g c = fields_in c.args.types.now.groups c.args.b_group.index c.args.b.now c.in-Struct-Struct.sup c.as_slice-in-Struct-Struct.result.now c.requires.sup c.in-Struct-Struct.is-1 c.as_slice-in-Struct-Struct.ensures

pub returns-then-all_vals_match : goal.returns-then-all_vals_match
returns-then-all_vals_match g c =
    funcs_match c.args.types.now.groups c.args.a_group.index c.args.b_group.index c.args.a.now c.args.b.now c.in-Func-Func.sub c.in-Func-Func.sup
    c.params.result.now c.params-in-Func-Func.result.now c.results.result.now c.results-then-all_vals_match.result.now c.all_vals_match.result c.all_vals_match-then-all_vals_match.result
    c.in-Func-Func.is-0 c.in-Func-Func.is-1 c.params.ensures c.params-in-Func-Func.ensures c.results.ensures c.results-then-all_vals_match.ensures
    c.all_vals_match.ensures c.if-all_vals_match.true c.all_vals_match-then-all_vals_match.ensures

pub returns-else-all_vals_match : goal.returns-else-all_vals_match
returns-else-all_vals_match g c =
    funcs_differ c.args.types.now.groups c.args.a_group.index c.args.b_group.index c.args.a.now c.args.b.now c.in-Func-Func.sub c.in-Func-Func.sup
    c.params.result.now c.params-in-Func-Func.result.now c.all_vals_match.result c.in-Func-Func.is-0 c.in-Func-Func.is-1 c.params.ensures c.params-in-Func-Func.ensures c.all_vals_match.ensures c.if-all_vals_match.false

pub returns-in-Struct-Struct : goal.returns-in-Struct-Struct
returns-in-Struct-Struct g c =
    structs_match c.args.types.now.groups c.args.a_group.index c.args.b_group.index c.args.a.now c.args.b.now c.in-Struct-Struct.sub c.in-Struct-Struct.sup
    c.as_slice.result.now c.as_slice-in-Struct-Struct.result.now c.all_fields_match.result c.in-Struct-Struct.is-0 c.in-Struct-Struct.is-1 c.as_slice.ensures c.as_slice-in-Struct-Struct.ensures c.all_fields_match.ensures
