-- What is printed of files: the report of each, in their order.
use Rattle.std.specs.Prelude.{ℕ, suc, ◌≡◌, Bool, List, [], ◌∷◌, Option, slice_get, string_bytes, ⊤}
use Rattle.std.specs.List.{concat}
use Rattle.std.specs.Io.KnownBytes.{Appends}
use Rattle.std.specs.declared.alloc.Global.{Global}
use Rattle.std.specs.declared.result.Result.{Result}
use Rattle.serde_json.specs.Data.{Data}
use Rattle.wasm_check_reports.specs.WasmValidateFiles.WasmValidatorTypes.declared.shown.Types as shown
use Rattle.wasm_check_reports.specs.WasmValidateFiles.WasmValidatorCore.declared.error.Error.{Error}
use Rattle.wasm_check_reports.specs.WasmValidateFiles.declared.files.Input.{Input}
use Rattle.wasm_check_reports.specs.WasmValidateFiles.Answers.{AreAnswers}
use Rattle.wasm_check_reports.specs.declared.settings.Form.{Form}
use Rattle.wasm_check_reports.specs.declared.settings.Form.TheVariants as form
use Rattle.wasm_check_reports.specs.declared.settings.Settings.{Settings}
use Rattle.wasm_check_reports.specs.Lines.{IsVerdict, BeginsWithLine}
use Rattle.wasm_check_reports.specs.Verdicts.{line_front, verdict_word, Begins}

-- The text is the report in this form of a file with this name and answer, or with none: it begins with the line of the name and the verdict, or with
-- a line that is an object of both; or it is empty.
abbrev pub IsReportIn : Form → Bool → List ℕ → Option (Result (shown.Types Global) (Error Global)) → List ℕ → Type 0
IsReportIn form.Text is_colored name answer text = Begins (line_front is_colored name answer) text
IsReportIn form.Json is_colored name answer text = (d : Data) × IsVerdict name (verdict_word answer) d × BeginsWithLine d [] text
IsReportIn form.Quiet is_colored name answer text = text ≡ []

-- the same, as it is asked for
abbrev pub IsReport : Settings → Input Global → Option (Result (shown.Types Global) (Error Global)) → List ℕ → Type 0
IsReport s f answer text = IsReportIn s.form s.is_colored (string_bytes f.name) answer text

-- Each of these texts is the report of the file at its place, the first of them at this place among the answers; files behind the last have none.
abbrev pub AreReports : Settings → List (Result (shown.Types Global) (Error Global)) → ℕ → List (Input Global) → List (List ℕ) → Type 0
AreReports s answers place [] [] = ⊤
AreReports s answers place (f ∷ fs) (t ∷ ts) = IsReport s f (slice_get answers place) t × AreReports s answers (suc place) fs ts
AreReports s answers place [] (t ∷ ts) = ⊥
AreReports s answers place (f ∷ fs) [] = ⊥

-- The reports of these files, in their order, and nothing else, are written behind what a writer held.
pub record ArePrinted
    (s : Settings) (answers : List (Result (shown.Types Global) (Error Global))) (files : List (Input Global)) (old new : Option (List ℕ)) : Type 0 where
  pub texts : List (List ℕ)
  pub reports : AreReports s answers 0 files texts
  pub written : Appends old new (concat texts)

-- So it is with what one new validator answers on each of these files.
pub record AreReported (s : Settings) (files : List (Input Global)) (old new : Option (List ℕ)) : Type 0 where
  pub answers : List (Result (shown.Types Global) (Error Global))
  pub right : AreAnswers s.features files answers
  pub printed : ArePrinted s answers files old new
