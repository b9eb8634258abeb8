use Rattle.std.proofs.Common.{◌≡◌, ◌++◌, ℕ, List, IsUtf8}
use Rattle.std.specs.Str.Iter.{chars_rest}
use Rattle.std.specs.Fmt.{WritesInCalls}
use Rattle.wasm_validate_files.specs.Printable.{printable}
use Rattle.wasm_validate_files.proofs.printable.write_printable.Given as goal

abbrev pub invariant-letters : goal.invariant-letters
invariant-letters g l = record {
  utf8 : IsUtf8 (chars_rest l.letter-iterator);
  so_far : (done : List ℕ) × WritesInCalls g.W.Write.write_str_gives l.initial.out done l.out × (done ++ printable (chars_rest l.letter-iterator) ≡ printable l.fn.text);
}
