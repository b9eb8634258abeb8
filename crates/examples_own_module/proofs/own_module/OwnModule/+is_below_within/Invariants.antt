use Rattle.examples_own_module.proofs.own_module.OwnModule.+is_below_within.Given as goal

abbrev pub decreases-is_below_within : goal.decreases-is_below_within
decreases-is_below_within g l = l.steps
