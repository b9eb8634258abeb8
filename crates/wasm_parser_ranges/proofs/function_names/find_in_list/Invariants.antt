use Rattle.std.proofs.Common.{◌≡◌, ◌-◌}
use Rattle.wasm_readers_bytes.specs.Reader.{rest}
use Rattle.wasm_parser_ranges.specs.Names.{name_in_list, named_in}
use Rattle.wasm_parser_ranges.proofs.function_names.find_in_list.Given as goal

abbrev pub invariant-names : goal.invariant-names
invariant-names l = name_in_list l.index (rest l.list) ≡ named_in (l.count - l.done) l.index (rest l.reader)
