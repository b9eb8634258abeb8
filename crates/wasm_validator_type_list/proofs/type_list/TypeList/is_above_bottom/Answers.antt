use Rattle.wasm_readers_types.specs.WasmReadersValues.SeenValues.{abstract_heap_of}
use Rattle.wasm_validator_type_list.proofs.TypeMatches.{bottom_seen, bottom_unlike}
use Rattle.wasm_validator_type_list.proofs.type_list.TypeList.is_above_bottom.Goals as goal

pub returns-then-composite-shared : goal.returns-then-composite-shared
returns-then-composite-shared g c =
    bottom_seen c.args.self.now c.args.id.index c.index.result.now c.requires c.index.ensures c.args.shared (abstract_heap_of c.args.ty) c.has_bottom.result c.if-composite-shared.true c.has_bottom.ensures.decided

pub returns-else-composite-shared : goal.returns-else-composite-shared
returns-else-composite-shared g c =
    bottom_unlike c.args.self.now c.args.id.index c.index.result.now c.requires c.index.ensures c.args.shared (abstract_heap_of c.args.ty) c.if-composite-shared.false
