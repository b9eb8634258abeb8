use Rattle.std.proofs.Common.{ℕ, ◌+◌, ◌<◌, ◌≤◌, length, refl, Bool, true, false, IsTrue, below_more, arith}
use Rattle.std.specs.Prelude.{◌↔◌, ◌&&◌}
use Rattle.std.proofs.lemmas.Bool.{false≢true}
use Rattle.wasm_validate_files.specs.Answers.{IsOkAt}
use Rattle.wasm_validate_files.proofs.lines.print_lines.Goals as goal

-- two tests, of all places below this one and of this one, are one of all up to it
one_more : (P : ℕ → Type 0) (i : ℕ) (all here : Bool) → IsTrue all ↔ ((k : ℕ) → k < i → P k) → IsTrue here ↔ P i → IsTrue (all && here) ↔ ((k : ℕ) → k < i + 1 → P k)
one_more P i true here before at = (λ t. below_more P i (before.0 refl) (at.0 t), λ each. at.1 (each i (omega arith)))
one_more P i false here before at = (λ t. absurd (false≢true t), λ each. before.1 (λ k l. each k (omega arith)))

pub files-preserved : goal.files-preserved
files-preserved g c = one_more (IsOkAt c.args.answers.now) c.files.place c.files.all c.in_ok-is_valid.is_valid c.files.invariant c.in_ok-is_valid.ensures

pub returns : goal.returns
returns g c =
    let past : length c.args.files.now ≤ c.files.place = c.files-test.false in
    let within : c.files.place ≤ length c.args.files.now = c.files.auto.place-end in
    (λ t k l. c.files.invariant.0 t k (omega arith), λ each. c.files.invariant.1 (λ k l. each k (omega arith)))
