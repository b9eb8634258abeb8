use Rattle.std.proofs.Common.{length}
use Rattle.wasm_validator_type_list.specs.ListViews.{types_in}
use Rattle.wasm_validator_types.specs.IteratorItems.{exports_left}
use Rattle.wasm_validator_types.proofs.FunctionsAndTags.{exports_below}
use Rattle.wasm_validator_types.proofs.shown.TypesRef.core_exports.Goals as goal

pub returns-clause-held : goal.returns-clause-held
returns-clause-held g c = λ known. exports_below c.args.self.now.spaces.now.types (length (types_in c.args.self.now.list.now)) (exports_left c.exports.result) known c.exports.ensures.typed
