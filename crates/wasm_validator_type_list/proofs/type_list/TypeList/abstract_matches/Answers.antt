use Rattle.wasm_readers_types.specs.WasmReadersValues.SeenValues.{abstract_heap_of}
use Rattle.wasm_validator_type_list.proofs.TypeMatches.{abstract-decides}
use Rattle.wasm_validator_type_list.proofs.type_list.TypeList.abstract_matches.Goals as goal

pub returns-then-shared-other_shared : goal.returns-then-shared-other_shared
returns-then-shared-other_shared g c =
    rw c.in-Abstract.is (abstract-decides c.args.shared c.in-Abstract.other_shared (abstract_heap_of c.args.ty) (abstract_heap_of c.in-Abstract.other) c.is_subtype_of.result c.if-shared-other_shared.true c.is_subtype_of.ensures)
