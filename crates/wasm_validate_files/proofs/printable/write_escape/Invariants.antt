use Rattle.std.proofs.Common.{◌≡◌, ◌++◌, ℕ, List, encode_utf8_all}
use Rattle.std.specs.Char.Iter.{escape_rest}
use Rattle.std.specs.Fmt.{WritesInCalls}
use Rattle.wasm_validate_files.specs.Printable.{escape}
use Rattle.wasm_validate_files.proofs.printable.write_escape.Given as goal

abbrev pub invariant-letters : goal.invariant-letters
invariant-letters g l = (done : List ℕ) × WritesInCalls g.W.Write.write_str_gives l.initial.out done l.out × (done ++ encode_utf8_all (escape_rest l.letter-iterator) ≡ encode_utf8_all (escape l.fn.letter))
