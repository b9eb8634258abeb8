use Rattle.std.proofs.Common.{◌∙◌, ap, ℕ, List, Some, sym}
use Rattle.wasm_operators.specs.WasmOperatorsPlain.WasmSpec.Syntax.{reference}
use Rattle.wasm_operators.specs.WasmOperatorsPlain.WasmReadersTypes.WasmReadersValues.SeenValues.{ref_of}
use Rattle.wasm_operators.specs.Control.{value_block}
use Rattle.wasm_operators.specs.WasmOperatorsPlain.WasmReaders.WasmReadersBytes.Reader.{rest}
use Rattle.wasm_operators_seldom.proofs.ShortTypes.{of_nullable, of_other}
use Rattle.wasm_operators_seldom.proofs.types.next_block_type.Goals as goal

pub returns-then-byte-eq99-clause-some : goal.returns-then-byte-eq99-clause-some
returns-then-byte-eq99-clause-some c =
    of_nullable c.in_ok-byte.byte (rest c.args.reader.now) (rest c.next_u8.new.self) (rest c.next_reference.new.reader) (ref_of c.in_ok-ty.ty) c.in_ok-byte.ensures.some c.if-byte-eq99.true c.in_ok-ty.ensures.null c.in_ok-ty.ensures.some
    ∙ ap (λ (more : List ℕ). Some (value_block (reference (ref_of c.in_ok-ty.ty)), more)) (sym c.go_on_from.ensures.rest)

pub returns-then-byte-eq100-clause-some : goal.returns-then-byte-eq100-clause-some
returns-then-byte-eq100-clause-some c =
    of_other c.in_ok-byte.byte (rest c.args.reader.now) (rest c.next_u8.new.self) (rest c.next_reference-then-byte-eq100.new.reader) (ref_of c.in_ok-ty-2.ty) c.in_ok-byte.ensures.some c.if-byte-eq100.true c.in_ok-ty-2.ensures.null c.in_ok-ty-2.ensures.some
    ∙ ap (λ (more : List ℕ). Some (value_block (reference (ref_of c.in_ok-ty-2.ty)), more)) (sym c.go_on_from-then-byte-eq100.ensures.rest)
