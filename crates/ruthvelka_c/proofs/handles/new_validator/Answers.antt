use Rattle.std.proofs.Common.{◌≡◌, ℕ, ap, ◌∙◌}
use Rattle.wasm_validator_handles.specs.WasmValidator.ValidatorStages.{fresh}
use Rattle.ruthvelka_c.specs.Reports.{flags}
use Rattle.ruthvelka_c.proofs.handles.new_validator.Goals as goal

pub returns : goal.returns
returns c =
    let bits : c.from_bits_retain-features.result ≡ flags c.args.features = ap flags (c.from_bits_retain-features.ensures tt) in
    c.new_with_features.ensures ∙ (ap (λ (n : ℕ). fresh n c.from_bits_retain-features.result) c.from_number.ensures ∙ ap (fresh c.args.number) bits)
