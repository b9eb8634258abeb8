use Rattle.std.proofs.Common.{is_ok, true, arith}
use Rattle.std.proofs.lemmas.Bool.Decides.{nat_tests}
use Rattle.std.proofs.lemmas.Grind.{common_steps}
use Rattle.wasm_spec_rules.specs.FeatureFlags.{features_of}
use Rattle.wasm_readers_types.specs.WasmReadersValues.SeenValues.{val_of}
use Rattle.wasm_validator_resources.proofs.Composites.{judged_func}
use Rattle.wasm_validator_resources.proofs.composite_types.check_func_type.Goals as goal

pub returns-in_err-check_value_types-clause-allowed : goal.returns-in_err-check_value_types-clause-allowed
returns-in_err-check_value_types-clause-allowed g c =
    judged_func (features_of c.args.features) val_of c.args.ty.now.params c.args.ty.now.results (is_ok c.from_residual.result) (grind (arith, common_steps))

pub returns-in_err-check_value_types-2-clause-allowed : goal.returns-in_err-check_value_types-2-clause-allowed
returns-in_err-check_value_types-2-clause-allowed g c =
    judged_func (features_of c.args.features) val_of c.args.ty.now.params c.args.ty.now.results (is_ok c.from_residual-in_err-check_value_types-2.result) (grind (arith, common_steps))

pub returns-in_ok-require-clause-allowed : goal.returns-in_ok-require-clause-allowed
returns-in_ok-require-clause-allowed g c = judged_func (features_of c.args.features) val_of c.args.ty.now.params c.args.ty.now.results true (grind (arith, common_steps))

pub returns-else-results-gt1-clause-allowed : goal.returns-else-results-gt1-clause-allowed
returns-else-results-gt1-clause-allowed g c = judged_func (features_of c.args.features) val_of c.args.ty.now.params c.args.ty.now.results true (grind (arith, nat_tests))
