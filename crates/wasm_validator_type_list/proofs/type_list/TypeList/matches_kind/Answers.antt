use Rattle.wasm_readers_types.specs.WasmReadersValues.SeenValues.{abstract_heap_of}
use Rattle.wasm_validator_type_list.proofs.TypeMatches.{kind_seen, kind_unlike}
use Rattle.wasm_validator_type_list.proofs.type_list.TypeList.matches_kind.Goals as goal

pub returns-then-composite-shared : goal.returns-then-composite-shared
returns-then-composite-shared g c =
    kind_seen c.args.self.now c.args.id.index c.index.result.now c.requires c.index.ensures c.args.shared (abstract_heap_of c.args.ty) (abstract_heap_of c.kind.result) c.is_subtype_of.result
    c.kind.ensures c.if-composite-shared.true c.is_subtype_of.ensures

pub returns-else-composite-shared : goal.returns-else-composite-shared
returns-else-composite-shared g c =
    kind_unlike c.args.self.now c.args.id.index c.index.result.now c.requires c.index.ensures c.args.shared (abstract_heap_of c.args.ty) c.if-composite-shared.false
