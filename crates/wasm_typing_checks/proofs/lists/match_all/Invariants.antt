use Rattle.std.proofs.Common.{◌≡◌, ◌-◌, true, length, drop, map, get_or}
use Rattle.wasm_validator_resources.specs.WasmSpec.MatchingTests.{matches_val}
use Rattle.wasm_validator_resources.specs.WasmReadersTypes.WasmReadersValues.SeenValues.{val_of}
use Rattle.wasm_validator_resources.specs.WasmReadersTypes.WasmReadersValues.declared.values.ValType.{ValType}
use Rattle.wasm_typing_stacks.specs.WasmSpecSteps.Matching.{matches_vals}
use Rattle.wasm_validator_resources.specs.Answers.{world}
use Rattle.wasm_typing_checks.proofs.lists.match_all.Given as goal

abbrev pub invariant-matching : goal.invariant-matching
invariant-matching g l = record {
  same : length l.types ≡ length l.others;
  rest : matches_vals (world (g.T.WasmModuleResources.context l.resources)) (map val_of l.types) (map val_of l.others) ≡ matches_vals (world (g.T.WasmModuleResources.context l.resources)) (map val_of (drop l.i l.types)) (map val_of (drop l.i l.others));
  matched : (d e : ValType) → matches_val (world (g.T.WasmModuleResources.context l.resources)) (val_of (get_or l.types (l.i - 1) d)) (val_of (get_or l.others (l.i - 1) e)) ≡ true;
}
