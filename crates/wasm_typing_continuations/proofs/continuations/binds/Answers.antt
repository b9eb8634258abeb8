use Rattle.std.proofs.Common.{map, ◌∙◌}
use Rattle.wasm_typing_control.specs.WasmReadersTypes.WasmReadersValues.SeenValues.{val_of}
use Rattle.wasm_typing_control.specs.WasmTypingChecks.WasmSpecSteps.Matching.{matches_vals}
use Rattle.wasm_typing_control.specs.WasmTypingChecks.WasmValidatorResources.Answers.{world}
use Rattle.wasm_typing_continuations.proofs.StepsByOperator.{first_fails, both_pass, kept_seen}
use Rattle.wasm_typing_continuations.proofs.continuations.binds.Goals as goal

pub returns-then-match_all : goal.returns-then-match_all
returns-then-match_all g c =
    both_pass _ _ _ _ (c.match_all.ensures ∙ kept_seen _ _ _ _ _ _ c.params-2.ensures c.params.ensures) c.if-match_all.true
    (c.match_all-then-match_all.ensures ∙ (λ i. matches_vals (world (g.T.WasmModuleResources.context c.args.resources.now)) (map val_of (c.results.ensures i)) (map val_of (c.results-then-match_all.ensures i))))

pub returns-else-match_all : goal.returns-else-match_all
returns-else-match_all g c =
    first_fails _ _ _ (c.match_all.ensures ∙ kept_seen _ _ _ _ _ _ c.params-2.ensures c.params.ensures) c.if-match_all.false
