-- What is told of a list of modules.
use Rattle.std.specs.Prelude.{ℕ, ◌≡◌, List, [], length, slice_get, Option, Some, None}
use Rattle.std.specs.List.{flat_map}
use Rattle.std.specs.declared.result.Result.TheVariants.{Ok, Err}
use Rattle.wasm_spec_rules.specs.FeatureFlags.{features_of}
use Rattle.wasm_validator_handles.specs.WasmValidator.WasmValidatorTypes.ShownModules.{shown_of}
use Rattle.wasm_validator_handles.specs.WasmValidator.Headline.{Headline}
use Rattle.wasm_validator_handles.specs.WasmValidator.Lists.{DecidesEach}
use Rattle.wasm_validator_handles.specs.WasmValidator.ValidatorStages.{Standing, fresh}
use Rattle.ruthvelka_c.specs.declared.report.Report.{Report}
use Rattle.ruthvelka_c.specs.declared.report.TheConstants.{NOT_CHECKED}
use Rattle.ruthvelka_c.specs.declared.lists.Bytes.{Bytes}
use Rattle.ruthvelka_c.specs.Answers.{Answer}
use Rattle.wasm_validator_handles.specs.Arrays.{AreTold, AreWritten}
use Rattle.ruthvelka_c.specs.declared.queries.Query.{Query}
use Rattle.ruthvelka_c.specs.Queries.{QueriesTell}
use Rattle.ruthvelka_c.specs.Reports.{Tells, flags, function_ids}

abbrev pub bytes_of : Bytes → List ℕ
bytes_of b = b.bytes.now

-- the ids of the types of an accepted module, and those of its functions
abbrev pub types_of : Answer → List ℕ
types_of (Ok t) = (shown_of t).spaces.types
types_of (Err e) = []

abbrev pub functions_of : Answer → List ℕ
functions_of (Ok t) = function_ids (shown_of t).spaces
functions_of (Err e) = []

-- the report tells of the answer, and without one that the module was not looked at
abbrev pub TellsMaybe : Option Answer → Report → Type 0
TellsMaybe (Some answer) r = Tells answer r
TellsMaybe None r = r.verdict ≡ NOT_CHECKED

abbrev pub answered_on : List Answer → ℕ → Report → Type 0
answered_on answers k r = TellsMaybe (slice_get answers k) r

-- A report on each of so many modules stands in the array, as far as there is room, and what is behind them is as it was.
abbrev pub ReportsTell : List Answer → ℕ → List Report → List Report → Type 0
ReportsTell answers count old new = AreTold (answered_on answers) count old new

-- The answers of a new validator with these proposals on a list of modules: each as `validate_all` decides, behind a reset, and all of them as
-- `validate_list` says.
pub record AreAnswered (modules : List (List ℕ)) (features : ℕ) (answers : List Answer) : Type 0 where
  pub headline : Headline (features_of (flags features)) modules answers []
  pub left : Standing
  pub decided : DecidesEach answers modules (fresh 0 (flags features)) left

-- What is told of a list of modules by such a validator.
pub record ToldList
    (modules : List (List ℕ)) (features : ℕ) (reports_old reports_new : List Report) (types_old types_new functions_old functions_new : List ℕ) : Type 0 where
  pub answers : List Answer
  pub answered : AreAnswered modules features answers
  pub reports : ReportsTell answers (length modules) reports_old reports_new
  pub types : AreWritten (flat_map types_of answers) types_old types_new
  pub functions : AreWritten (flat_map functions_of answers) functions_old functions_new

-- The same with questions in place of ids.
pub record ToldQueries
    (modules : List (List ℕ)) (features : ℕ) (reports_old reports_new : List Report) (queries_old queries_new : List Query) : Type 0 where
  pub answers : List Answer
  pub answered : AreAnswered modules features answers
  pub reports : ReportsTell answers (length modules) reports_old reports_new
  pub queries : QueriesTell answers queries_old queries_new

-- Nothing was told of one.
pub record ListStays
    (reports_old reports_new : List Report) (types_old types_new functions_old functions_new : List ℕ) : Type 0 where
  pub reports : reports_new ≡ reports_old
  pub types : types_new ≡ types_old
  pub functions : functions_new ≡ functions_old

pub record QueriesStay (reports_old reports_new : List Report) (queries_old queries_new : List Query) : Type 0 where
  pub reports : reports_new ≡ reports_old
  pub queries : queries_new ≡ queries_old
