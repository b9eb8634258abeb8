use Rattle.std.proofs.Common.{◌∙◌, ap, ℕ, List, Some, false, sym}
use Rattle.wasm_operators.specs.WasmOperatorsPlain.WasmSpec.Syntax.{abstract_heap, extern_heap, func_heap}
use Rattle.wasm_operators.specs.WasmOperatorsPlain.WasmReaders.WasmReadersBytes.Reader.{rest}
use Rattle.wasm_operators_seldom.proofs.ShortTypes.{function_heap, host_heap}
use Rattle.wasm_operators_seldom.proofs.types.next_heap_type.Goals as goal

pub returns-then-byte-eq112-clause-some : goal.returns-then-byte-eq112-clause-some
returns-then-byte-eq112-clause-some c =
    function_heap c.in_ok-byte.byte (rest c.args.reader.now) (rest c.next_u8.new.self) c.in_ok-byte.ensures.some c.if-byte-eq112.true
    ∙ ap (λ (more : List ℕ). Some (abstract_heap false func_heap, more)) (sym c.go_on_from-then-byte-eq112.ensures.rest)

pub returns-then-byte-eq111-clause-some : goal.returns-then-byte-eq111-clause-some
returns-then-byte-eq111-clause-some c =
    host_heap c.in_ok-byte.byte (rest c.args.reader.now) (rest c.next_u8.new.self) c.in_ok-byte.ensures.some c.if-byte-eq111.true
    ∙ ap (λ (more : List ℕ). Some (abstract_heap false extern_heap, more)) (sym c.go_on_from-then-byte-eq111.ensures.rest)
