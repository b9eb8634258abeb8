use Rattle.std.proofs.Common.{arith, subst, sym}
use Rattle.wasm_validator_type_list.proofs.DefTypes.{length-def_types}
use Rattle.wasm_validator_core_resources.specs.ModuleContexts.{AreByIds}
use Rattle.wasm_validator_core_resources.proofs.resources.ModuleResources.new.Goals as goal

pub invariant_of-result : goal.invariant_of-result
invariant_of-result g c = record {
  listable = c.recall_promises.ensures.listable;
  small = λ k d l. omega (arith, c.requires.held k d l, length-def_types c.args.list.now.is_canonical c.args.list.now.groups, c.recall_promises.ensures.room);
  types = subst (AreByIds c.args.list.now.groups) (sym c.types.ensures) c.requires.types;
  elements = c.requires.few;
}
