-- What is found in the object of a verdict.
use Rattle.std.proofs.Common.{◌≡◌, ◌∙◌, ap, sym, subst, List, [], ◌∷◌, ◌++◌, ℕ, length, codes, OnOk, append_assoc, arith}
use Rattle.std.specs.Prelude.{if◌then◌else◌}
use Rattle.std.specs.Result.{is_ok}
use Rattle.std.specs.declared.result.Result.{Result}
use Rattle.std.specs.declared.result.Result.TheVariants.{Ok, Err}
use Rattle.serde_json.specs.Data.{Data, object, string, Members, put}
use Rattle.serde_json.proofs.Views.{get_member-put, get_member-put_other}
use Rattle.wasm_check_reports.specs.Lines.{IsVerdict, HasLine, BeginsWithLine}

apart : codes "file" ≡ codes "verdict" → ⊥
apart e = omega (arith, ap length e)

-- with the verdict put last, and the name before it
pub says_verdict : (name word : List ℕ) (ms : Members) → IsVerdict name word (object (put (codes "verdict") (string word) (put (codes "file") (string name) ms)))
says_verdict name word ms = record {
  file = get_member-put_other (codes "file") (codes "verdict") (string word) (put (codes "file") (string name) ms) apart ∙ get_member-put (codes "file") (string name) ms;
  verdict = get_member-put (codes "verdict") (string word) (put (codes "file") (string name) ms);
}

-- and so it is written
pub says_written : {X E : Type 0} (r : Result X E) (name word : List ℕ) (old written : Members) (front text : List ℕ)
    → written ≡ put (codes "verdict") (string word) (put (codes "file") (string name) old)
    → OnOk r (HasLine (object written) front text) → OnOk r ((d : Data) × IsVerdict name word d × HasLine d front text)
says_written (Ok x) name word old written front text is line = (object written, subst (λ ms. IsVerdict name word (object ms)) (sym is) (says_verdict name word old), line)
says_written (Err e) name word old written front text is line = tt

-- a text behind the line changes neither
begins : (d : Data) (old line_end after text : List ℕ) → HasLine d old line_end → text ≡ line_end ++ after → BeginsWithLine d old text
begins d old line_end after text h e =
    (h.0, after, h.1, e ∙ ap (λ t. t ++ after) h.2 ∙ append_assoc old (h.0 ++ 10 ∷ []) after ∙ ap (λ t. old ++ t) (append_assoc h.0 (10 ∷ []) after))

pub says_more : {X E : Type 0} (r : Result X E) (name word old line_end after text : List ℕ)
    → ((d : Data) × IsVerdict name word d × HasLine d old line_end) → text ≡ (if is_ok r then line_end ++ after else line_end) → OnOk r ((d : Data) × IsVerdict name word d × BeginsWithLine d old text)
says_more (Ok x) name word old line_end after text h e = (h.0, h.1, begins h.0 old line_end after text h.2 e)
says_more (Err x) name word old line_end after text h e = tt
