use Rattle.std.proofs.Common.{ap, length, arith}
use Rattle.wasm_validator_types.specs.Spaces.{Spaces}
use Rattle.wasm_validator_core_resources.proofs.validator_resources.ValidatorResources.new.Goals as goal

pub invariant_of-module : goal.invariant_of-module
invariant_of-module g c = record {
  listable = c.recall_promises.ensures.listable;
  held = c.requires.held;
  types = c.requires.types;
  elements = omega (arith, c.element_count-elements.type_inv, c.element_count-elements.ensures, ap (λ (s : Spaces). length s.elements) c.as_ref.ensures);
}
