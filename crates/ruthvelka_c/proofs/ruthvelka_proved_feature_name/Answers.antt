use Rattle.std.proofs.Common.{ℕ, List, length, ap, subst, ◌∙◌}
use Rattle.wasm_validator_handles.specs.Arrays.{AreWritten}
use Rattle.ruthvelka_c.proofs.ruthvelka_proved_feature_name.Goals as goal

pub returns : goal.returns
returns c = record {
  size = c.write_name.ensures.told ∙ ap length c.find_name.ensures;
  written = subst (λ (t : List ℕ). AreWritten t c.args.name.now c.write_name.new.to) c.find_name.ensures c.write_name.ensures.written;
}
