use Rattle.std.proofs.Common.{◌≡◌, length}
use Rattle.wasm_validate_files.specs.TextFormat.{looks_like_text}
use Rattle.wasm_validate_files.proofs.text_format.looks_like_text.Given as goal

abbrev pub invariant-spaces : goal.invariant-spaces
invariant-spaces l = looks_like_text l.rest ≡ looks_like_text l.bytes

abbrev pub decreases-spaces : goal.decreases-spaces
decreases-spaces l = length l.rest
