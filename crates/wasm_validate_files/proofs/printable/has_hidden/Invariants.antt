use Rattle.std.proofs.Common.{◌≡◌, All, IsUtf8, chars, false}
use Rattle.std.specs.Str.Iter.{chars_rest}
use Rattle.wasm_validate_files.specs.Printable.{is_hidden}
use Rattle.wasm_validate_files.proofs.printable.has_hidden.Given as goal

abbrev pub invariant-letters : goal.invariant-letters
invariant-letters l = record {
  utf8 : IsUtf8 (chars_rest l.letter-iterator);
  so_far : All (λ c. is_hidden c ≡ false) (chars (chars_rest l.letter-iterator)) → All (λ c. is_hidden c ≡ false) (chars l.fn.text);
}
