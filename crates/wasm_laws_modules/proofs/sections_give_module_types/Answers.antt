use Rattle.wasm_laws_modules.proofs.SectionTypes.{sections_give_module_types}
use Rattle.wasm_laws_modules.proofs.sections_give_module_types.Goals as goal

pub returns : goal.returns
returns c = sections_give_module_types
