use Rattle.std.proofs.Common.{◌≡◌, ◌∙◌, suc, ◌+◌, ◌-◌, length, arith}
use Rattle.wasm_readers_bytes.specs.Reader.{rest}
use Rattle.wasm_parser_ranges.proofs.NameSections.{part_step}
use Rattle.wasm_parser_ranges.proofs.function_names.find_part.Goals as goal

pub parts-preserved : goal.parts-preserved
parts-preserved c =
    let more = c.parts-test.true in
    let one : length c.args.contents.now - c.parts.done ≡ suc (length c.args.contents.now - (c.parts.done + 1)) = omega (arith, more) in
    c.parts.invariant
    ∙ part_step _ _ c.in_ok-id.id (rest c.parts.reader) (rest c.next_u8.new.self) (rest c.in-Ok.part) (rest c.read_sized.new.self) one c.in_ok-id.ensures.some
    c.in-Ok.ensures.ok c.if-id-eq-FUNCTION_NAMES.false
