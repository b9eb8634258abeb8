use Rattle.std.proofs.Common.{length}
use Rattle.wasm_validator_type_list.specs.ListViews.{types_in}
use Rattle.wasm_validator_types.specs.IteratorItems.{imports_left}
use Rattle.wasm_validator_types.proofs.FunctionsAndTags.{rows_below}
use Rattle.wasm_validator_types.proofs.shown.TypesRef.core_imports.Goals as goal

pub returns-clause-held : goal.returns-clause-held
returns-clause-held g c = λ known. rows_below c.args.self.now.spaces.now.types (length (types_in c.args.self.now.list.now)) (imports_left c.imports.result) known c.imports.ensures.typed
