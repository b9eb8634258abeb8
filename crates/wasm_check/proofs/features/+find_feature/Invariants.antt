use Rattle.std.proofs.Common.{length}
use Rattle.wasm_check.proofs.features.+find_feature.Given as goal

abbrev pub decreases-find_feature : goal.decreases-find_feature
decreases-find_feature l = length l.flags.now
