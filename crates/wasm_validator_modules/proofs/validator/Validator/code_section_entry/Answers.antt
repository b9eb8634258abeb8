use Rattle.wasm_validator_modules.proofs.validator.Validator.code_section_entry.Goals as goal

pub invariant_of-self : goal.invariant_of-self
invariant_of-self g c = record {
  list = c.self.invariant.list;
  ids = c.take_body.ensures.ids c.self.inside.types c.self.invariant.ids;
  valid = c.take_body.ensures.valid c.self.inside.types c.self.invariant.valid;
  first = c.take_body.ensures.first c.self.inside.types c.self.inside.constants.types c.self.invariant.first;
}
