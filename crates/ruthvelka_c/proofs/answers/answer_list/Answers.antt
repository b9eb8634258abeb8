use Rattle.std.proofs.Common.{◌≡◌, ℕ, List, [], map, ap, subst, ◌∙◌, Bor}
use Rattle.wasm_spec_rules.specs.FeatureFlags.{features_of}
use Rattle.wasm_validator_handles.specs.WasmValidator.ValidatorStages.{Standing, fresh}
use Rattle.wasm_validator_handles.specs.WasmValidator.Lists.{DecidesEach}
use Rattle.wasm_validator_handles.specs.WasmValidator.Headline.{Headline, types_held}
use Rattle.ruthvelka_c.specs.Reports.{flags}
use Rattle.ruthvelka_c.specs.Lists.{AreAnswered, bytes_of}
use Rattle.ruthvelka_c.proofs.answers.answer_list.Goals as goal

pub returns-in-Ok : goal.returns-in-Ok
returns-in-Ok c =
    let modules : List (List ℕ) = map (λ (m : Bor (List ℕ)). m.now) c.as_slice.result.now in
    let lent : modules ≡ map bytes_of c.args.modules.now = ap (map (λ (m : Bor (List ℕ)). m.now)) c.as_slice.ensures.value ∙ c.in_ok-lent.ensures in
    let bits : c.from_bits_retain-features.result ≡ flags c.args.features = ap flags (c.from_bits_retain-features.ensures tt) in
    let made : c.new_with_features-validator.result ≡ fresh 0 (flags c.args.features) = c.new_with_features-validator.ensures ∙ (ap (λ (n : ℕ). fresh n c.from_bits_retain-features.result) c.from_number.ensures ∙ ap (fresh 0) bits) in
    let new : Headline (features_of (flags c.args.features)) modules c.in-Ok.answers.items [] =
    subst (λ (s : Standing). Headline (features_of s.features) modules c.in-Ok.answers.items (types_held s.stage)) made c.in-Ok.ensures.headline in
    let each : DecidesEach c.in-Ok.answers.items modules (fresh 0 (flags c.args.features)) c.validate_list.new.validator =
    subst (λ (s : Standing). DecidesEach c.in-Ok.answers.items modules s c.validate_list.new.validator) made c.in-Ok.ensures.decided in
    subst (λ ms. AreAnswered ms c.args.features c.in-Ok.answers.items) lent (record { headline = new; left = c.validate_list.new.validator; decided = each })
