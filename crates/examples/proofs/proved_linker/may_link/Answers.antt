use Rattle.std.proofs.Common.{◌≡◌, ℕ, List, [], Some, slice_get, refl, subst}
use Rattle.std.specs.declared.result.Result.TheVariants.{Ok}
use Rattle.std.proofs.lemmas.Option.{slice_get_read}
use Rattle.wasm_readers_errors.specs.WasmReadersFeatures.declared.features.TheConstants.WasmFeatures.{STANDARD}
use Rattle.wasm_spec_rules.specs.FeatureFlags.{features_of}
use Rattle.wasm_validator.specs.ValidatorStages.{Standing}
use Rattle.wasm_validator.specs.Headline.{Headline, types_held}
use Rattle.wasm_validator.specs.Lists.{lent}
use Rattle.examples.proofs.FunctionLinks.{linked}
use Rattle.examples.proofs.proved_linker.may_link.Goals as goal

pub returns-in-Some-Ok-Some-Ok : goal.returns-in-Some-Ok-Some-Ok
returns-in-Some-Ok-Some-Ok g c = λ yes.
    let modules : List (List ℕ) = lent c.args.modules.now in
    let answers = c.in_ok-answers.answers.items in
    let new : Headline (features_of STANDARD) modules answers [] =
    subst (λ (s : Standing). Headline (features_of s.features) modules answers (types_held s.stage)) c.new-validator.ensures c.in_ok-answers.ensures.headline in
    let arm = c.in-Some-Ok-Some-Ok in
    let at = arm.ensures'.lookup in
    let first : slice_get answers 0 ≡ Some (Ok arm.exporter) = cc (c.deref.ensures.value, arm.ensures.value) in
    let second : slice_get answers 1 ≡ Some (Ok arm.importer) = cc (c.deref-2.ensures.value, slice_get_read c.deref-2.result.now _ 1 _ refl at.3.0 at.1) in
    linked modules answers new arm.exporter arm.importer c.args.given c.args.wanted first second (c.have_one_id.ensures yes)
