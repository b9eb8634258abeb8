-- Reports that are printed one after another.
use Rattle.std.proofs.Common.{◌≡◌, refl, sym, ap, subst, ◌∙◌, ℕ, zero, suc, ◌+◌, ◌<◌, Bool, List, [], ◌∷◌, ◌++◌, length, map, take, get_or, arith, Option, None, Some}
use Rattle.std.proofs.KnownBytes.{Appends-nil, Appends-trans}
use Rattle.std.proofs.lemmas.List.{append-nil, take_more}
use Rattle.std.proofs.lemmas.List.Folds.{concat-append}
use Rattle.std.specs.List.{concat}
use Rattle.std.proofs.lemmas.Option.{slice_get_read, slice_get_past}
use Rattle.std.specs.Borrow.{Bor}
use Rattle.std.specs.Slice.{IsItemAt}
use Rattle.std.specs.Prelude.{slice_get, string_bytes, option_map}
use Rattle.std.specs.Io.KnownBytes.{Appends}
use Rattle.std.specs.declared.alloc.Global.{Global}
use Rattle.std.specs.declared.result.Result.{Result}
use Rattle.serde_json.specs.Data.{Data}
use Rattle.wasm_check_reports.specs.WasmValidateFiles.WasmValidatorTypes.declared.shown.Types as shown
use Rattle.wasm_check_reports.specs.WasmValidateFiles.WasmValidatorCore.declared.error.Error.{Error}
use Rattle.wasm_check_reports.specs.WasmValidateFiles.declared.files.Input.{Input}
use Rattle.wasm_check_reports.specs.declared.settings.Form.{Form}
use Rattle.wasm_check_reports.specs.declared.settings.Form.TheVariants as form
use Rattle.wasm_check_reports.specs.declared.settings.Settings.{Settings}
use Rattle.wasm_check_reports.specs.Lines.{IsVerdict, BeginsWithLine}
use Rattle.wasm_check_reports.specs.Verdicts.{line_front, verdict_word, Begins}
use Rattle.wasm_check.specs.PrintedReports.{IsReportIn, IsReport, AreReports, ArePrinted}

-- what is written to an empty text is a report
pub is_report : (w : Form) (is_colored : Bool) (name : List ℕ) (answer : Option (Result (shown.Types Global) (Error Global))) (old new : List ℕ)
    → old ≡ []
    → (w ≡ form.Text → Begins (old ++ line_front is_colored name answer) new)
    → (w ≡ form.Json → (d : Data) × IsVerdict name (verdict_word answer) d × BeginsWithLine d old new)
    → (w ≡ form.Quiet → new ≡ old)
    → IsReportIn w is_colored name answer new
is_report form.Text is_colored name answer old new e text json quiet = subst (λ xs. Begins (xs ++ line_front is_colored name answer) new) e (text refl)
is_report form.Json is_colored name answer old new e text json quiet =
    subst (λ xs. (d : Data) × IsVerdict name (verdict_word answer) d × BeginsWithLine d xs new) e (json refl)
is_report form.Quiet is_colored name answer old new e text json quiet = quiet refl ∙ e

-- what is at a place of a list, if the list is long enough
pub seen_at : {X : Type 0} (xs : List X) (i : ℕ) (r : Option (Bor X)) → IsItemAt xs i r → option_map (λ a. a.now) r ≡ slice_get xs i
seen_at xs i None at = sym (slice_get_past xs i at.3)
seen_at xs i (Some a) at = sym (slice_get_read xs (length xs) i a.now refl at.3.0 at.1)

as_many_taken : {X : Type 0} (xs : List X) (i : ℕ) → i < length xs → length (take i xs) ≡ i
as_many_taken [] i h = absurd (omega (arith, h))
as_many_taken (x ∷ xs) zero h = refl
as_many_taken (x ∷ xs) (suc i) h = ap suc (as_many_taken xs i (omega (arith, h)))

module _ (s : Settings) (answers : List (Result (shown.Types Global) (Error Global))) where
  one_more_report : (place : ℕ) (fs : List (Input Global)) (ts : List (List ℕ)) (f : Input Global) (t : List ℕ)
      → AreReports s answers place fs ts → IsReport s f (slice_get answers (place + length fs)) t → AreReports s answers place (fs ++ f ∷ []) (ts ++ t ∷ [])
  one_more_report place [] [] f t a b =
      let here : place + 0 ≡ place = omega arith in
      (subst (λ n. IsReport s f (slice_get answers n) t) here b, tt)
  one_more_report place [] (u ∷ ts) f t a b = absurd a
  one_more_report place (g ∷ fs) [] f t a b = absurd a
  one_more_report place (g ∷ fs) (u ∷ ts) f t a b =
      let here : place + suc (length fs) ≡ suc place + length fs = omega arith in
      (a.0, one_more_report (suc place) fs ts f t a.1 (subst (λ n. IsReport s f (slice_get answers n) t) here b))

  pub nothing_printed : (known : Option (List ℕ)) → ArePrinted s answers [] known known
  nothing_printed known = record { texts = []; reports = tt; written = Appends-nil known }

  pub one_more_printed : (fs : List (Input Global)) (f : Input Global) (t : List ℕ) (old now new : Option (List ℕ))
      → ArePrinted s answers fs old now → IsReport s f (slice_get answers (length fs)) t → Appends now new t → ArePrinted s answers (fs ++ f ∷ []) old new
  one_more_printed fs f t old now new before here written =
      let place : length fs ≡ 0 + length fs = omega arith in
      let all : concat before.texts ++ t ≡ concat (before.texts ++ t ∷ []) =
      ap (λ xs. concat before.texts ++ xs) (sym (append-nil t)) ∙ sym (concat-append before.texts (t ∷ [])) in
      record {
        texts = before.texts ++ t ∷ [];
        reports = one_more_report 0 fs before.texts f t before.reports (subst (λ n. IsReport s f (slice_get answers n) t) place here);
        written = subst (Appends old new) all (Appends-trans old now new (concat before.texts) t before.written written);
      }

  -- the file at this place of a list, behind those before it
  pub next_printed : (fs : List (Input Global)) (i : ℕ) (f : Input Global) (o : Option (Result (shown.Types Global) (Error Global))) (t : List ℕ) (old now new : Option (List ℕ))
      → i < length fs → f ≡ get_or fs i f → o ≡ slice_get answers i
      → ArePrinted s answers (take i fs) old now → IsReport s f o t → Appends now new t → ArePrinted s answers (take (i + 1) fs) old new
  next_printed fs i f o t old now new l is at before here written =
      let more : take i fs ++ f ∷ [] ≡ take (i + 1) fs = ap (λ x. take i fs ++ x ∷ []) is ∙ sym (take_more fs i f l) in
      let answer : o ≡ slice_get answers (length (take i fs)) = at ∙ ap (slice_get answers) (sym (as_many_taken fs i l)) in
      subst (λ xs. ArePrinted s answers xs old new) more
      (one_more_printed (take i fs) f t old now new before (subst (λ a. IsReport s f a t) answer here) written)

  -- with nothing printed, since nothing is asked for
  quiet_reports : s.form ≡ form.Quiet → (place : ℕ) (fs : List (Input Global)) → AreReports s answers place fs (map (λ _. []) fs)
  quiet_reports e place [] = tt
  quiet_reports e place (f ∷ fs) =
      (subst (λ w. IsReportIn w s.is_colored (string_bytes f.name) (slice_get answers place) []) (sym e) refl, quiet_reports e (suc place) fs)

  no_text : (fs : List (Input Global)) → [] ≡ concat (map (λ _. []) fs)
  no_text [] = refl
  no_text (f ∷ fs) = no_text fs

  pub quiet_printed : (fs : List (Input Global)) (known : Option (List ℕ)) → s.form ≡ form.Quiet → ArePrinted s answers fs known known
  quiet_printed fs known e =
      record { texts = map (λ _. []) fs; reports = quiet_reports e 0 fs; written = subst (Appends known known) (no_text fs) (Appends-nil known) }

pub ruleset printings = (nothing_printed, quiet_printed)
