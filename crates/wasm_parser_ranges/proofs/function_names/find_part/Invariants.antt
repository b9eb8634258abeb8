use Rattle.std.proofs.Common.{◌≡◌, ◌-◌, length}
use Rattle.wasm_readers_bytes.specs.Reader.{rest}
use Rattle.wasm_parser_ranges.specs.Names.{part_in}
use Rattle.wasm_parser_ranges.proofs.function_names.find_part.Given as goal

abbrev pub invariant-parts : goal.invariant-parts
invariant-parts l = part_in (length l.contents) 1 l.contents ≡ part_in (length l.contents - l.done) 1 (rest l.reader)
