-- What is told of the types behind a handle: of imports and exports, and of function types.
use Rattle.std.specs.Prelude.{ℕ, ◌≡◌, ◌⊎◌, List, length, slice_get, Option, Some, None}
use Rattle.std.specs.Option.{option_map}
use Rattle.std.specs.declared.alloc.Global.{Global}
use Rattle.wasm_spec_rules.specs.WasmSpec.Syntax.{Val}
use Rattle.wasm_validator_handles.specs.WasmValidator.WasmValidatorTypes.ShownModules.{shown_of}
use Rattle.wasm_validator_handles.specs.WasmValidator.WasmValidatorTypes.Spaces.{Spaces}
use Rattle.wasm_validator_handles.specs.WasmValidator.WasmValidatorTypes.WasmValidatorTypeList.DeclarationsById.{declares}
use Rattle.wasm_validator_handles.specs.WasmValidator.WasmValidatorTypes.declared.shown.Types as shown
use Rattle.wasm_validator_handles.specs.Entities.{AreOf}
use Rattle.wasm_validator_handles.specs.Signatures.{func_in}
use Rattle.wasm_validator_handles.specs.Values.{numbers_of}
use Rattle.wasm_validator_handles.specs.declared.entities.ExternType.{ExternType}
use Rattle.wasm_validator_handles.specs.declared.values.ValueType.{ValueType}
use Rattle.ruthvelka_c.specs.declared.handles.TheConstants.{STATUS_DONE, STATUS_NO_MEMORY, STATUS_WRONG}
use Rattle.ruthvelka_c.specs.declared.report.Report.{Report}
use Rattle.ruthvelka_c.specs.declared.types.Counts.{Counts}
use Rattle.wasm_validator_handles.specs.Arrays.{AreTold, AreWritten}
use Rattle.ruthvelka_c.specs.Reports.{TellsCounts}

-- these stand in the array from its beginning, as far as there is room, and all behind them is as it was
abbrev pub TypesTell : List ExternType → List ExternType → List ExternType → Type 0
TypesTell given old new = AreTold (λ k e. slice_get given k ≡ Some e) (length given) old new

-- the same of the numbers of value types
abbrev pub ValuesTell : List (Val ℕ) → List ValueType → List ValueType → Type 0
ValuesTell given old new = AreTold (λ k v. option_map numbers_of (slice_get given k) ≡ Some v) (length given) old new

-- The imports and the exports of a module with these index spaces stand in these arrays, with their names, as far as there is room, and the report
-- tells how many there are.
pub record TypesAreWritten
    (spaces : Spaces) (r : Report) (imports_old imports_new exports_old exports_new : List ExternType) (names_old names_new : List ℕ) : Type 0 where
  pub imports : List ExternType
  pub exports : List ExternType
  pub names : List ℕ
  pub are : AreOf spaces imports exports names
  pub counts : TellsCounts spaces r
  pub names_length : r.names_length ≡ length names
  pub imports_written : TypesTell imports imports_old imports_new
  pub exports_written : TypesTell exports exports_old exports_new
  pub names_written : AreWritten names names_old names_new

-- nothing was written
pub record NoneAreWritten
    (r0 r1 : Report) (imports_old imports_new exports_old exports_new : List ExternType) (names_old names_new : List ℕ) : Type 0 where
  pub report : r1 ≡ r0
  pub imports : imports_new ≡ imports_old
  pub exports : exports_new ≡ exports_old
  pub names : names_new ≡ names_old

-- of the types behind a handle: the imports and the exports of their module, unless memory for them is refused
abbrev pub TellsExterns :
    Option (shown.Types Global) → Report → Report → List ExternType → List ExternType → List ExternType → List ExternType → List ℕ → List ℕ → ℕ
    → Type 0
TellsExterns (Some t) r0 r1 i0 i1 e0 e1 n0 n1 status =
    ((status ≡ STATUS_DONE) × TypesAreWritten (shown_of t).spaces r1 i0 i1 e0 e1 n0 n1)
    ⊎ ((status ≡ STATUS_NO_MEMORY) × NoneAreWritten r0 r1 i0 i1 e0 e1 n0 n1)
TellsExterns None r0 r1 i0 i1 e0 e1 n0 n1 status = (status ≡ STATUS_WRONG) × NoneAreWritten r0 r1 i0 i1 e0 e1 n0 n1

-- what a function takes and gives stands in these arrays, as far as there is room
pub record SignatureIsWritten
    (params results : List (Val ℕ)) (c : Counts) (params_old params_new results_old results_new : List ValueType) : Type 0 where
  pub param_count : c.params ≡ length params
  pub result_count : c.results ≡ length results
  pub params_written : ValuesTell params params_old params_new
  pub results_written : ValuesTell results results_old results_new

pub record SignatureStays (c0 c1 : Counts) (params_old params_new results_old results_new : List ValueType) : Type 0 where
  pub counts : c1 ≡ c0
  pub params : params_new ≡ params_old
  pub results : results_new ≡ results_old

abbrev pub TellsFunction :
    Option (List (Val ℕ) × List (Val ℕ)) → Counts → Counts → List ValueType → List ValueType → List ValueType → List ValueType → ℕ → Type 0
TellsFunction (Some f) c0 c1 p0 p1 r0 r1 status = (status ≡ STATUS_DONE) × SignatureIsWritten f.0 f.1 c1 p0 p1 r0 r1
TellsFunction None c0 c1 p0 p1 r0 r1 status = (status ≡ STATUS_WRONG) × SignatureStays c0 c1 p0 p1 r0 r1

-- of the types behind a handle: what a function of the type with this id takes and gives, where there is a function type
abbrev pub TellsSignature :
    Option (shown.Types Global) → ℕ → Counts → Counts → List ValueType → List ValueType → List ValueType → List ValueType → ℕ → Type 0
TellsSignature (Some t) id c0 c1 p0 p1 r0 r1 status = TellsFunction (func_in (declares (shown_of t).list.groups id)) c0 c1 p0 p1 r0 r1 status
TellsSignature None id c0 c1 p0 p1 r0 r1 status = (status ≡ STATUS_WRONG) × SignatureStays c0 c1 p0 p1 r0 r1
