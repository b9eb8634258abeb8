use Rattle.wasm_typing_control.specs.WasmReadersTypes.WasmReadersValues.SeenValues.{heap_of, ref_of}
use Rattle.wasm_typing_references.proofs.WrittenHeapTypes.{lack_told}
use Rattle.wasm_typing_references.proofs.written.disallowed.Goals as goal

pub returns-in-Err : goal.returns-in-Err
returns-in-Err g c =
    lack_told c.args.stacks.now.features c.args.nullable (heap_of c.args.heap) (heap_of c.with_first_index.result) (ref_of c.in-Some.ty) c.written_type.result
    c.in-Err.refusal c.with_first_index.ensures.same c.in-Some.ensures.value c.in-Err.ensures.told c.written_type.ensures.lack
