use Rattle.std.proofs.Common.{◌≡◌, ◌≤◌, length, vec_len, vec_capacity}
use Rattle.wasm_validator.proofs.ModuleSequences.{SoFar}
use Rattle.wasm_validator.proofs.list.validate_list.Given as goal

abbrev pub invariant-modules : goal.invariant-modules
invariant-modules g l = SoFar l.modules l.i l.answers.items l.fn.validator l.validator × (vec_len l.answers ≡ l.i) × (length l.modules ≤ vec_capacity l.answers)
