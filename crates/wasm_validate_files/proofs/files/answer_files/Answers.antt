use Rattle.std.proofs.Common.{◌≡◌, ℕ, List, [], map, ap, subst, ◌∙◌, Bor}
use Rattle.wasm_spec_rules.specs.FeatureFlags.{features_of}
use Rattle.wasm_validator.specs.ValidatorStages.{Standing}
use Rattle.wasm_validator.specs.Headline.{Headline, types_held}
use Rattle.wasm_validate_files.specs.Files.{bytes_held}
use Rattle.wasm_validate_files.proofs.files.answer_files.Goals as goal

pub returns-in-Ok : goal.returns-in-Ok
returns-in-Ok g c =
    let modules : List (List ℕ) = map (λ (m : Bor (List ℕ)). m.now) c.as_slice.result.now in
    let lent : modules ≡ map bytes_held c.args.files.now = ap (map (λ (m : Bor (List ℕ)). m.now)) c.as_slice.ensures.value ∙ c.in_ok-modules.ensures in
    let new : Headline (features_of c.args.features) modules c.in-Ok.answers.items [] =
    subst (λ (s : Standing). Headline (features_of s.features) modules c.in-Ok.answers.items (types_held s.stage)) c.new_with_features-validator.ensures c.in-Ok.ensures.headline in
    subst (λ ms. Headline (features_of c.args.features) ms c.in-Ok.answers.items []) lent new
