use Rattle.std.proofs.Common.{◌∙◌, arith, rules}
use Rattle.wasm_validator_segments.proofs.lists.check_expressions.Goals as goal

pub items-preserved : goal.items-preserved
items-preserved g c = record {
  same = search rules;
  onward = omega arith;
  so_far = c.in_ok-still.ensures.so_far ∙ c.items.invariant.so_far;
  noted = c.in_ok-still.ensures.noted ∙ c.items.invariant.noted;
}
