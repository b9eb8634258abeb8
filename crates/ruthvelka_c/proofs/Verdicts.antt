-- What a verdict says of the bytes.
use Rattle.std.proofs.Common.{ℕ, ◌≡◌, ◌≤◌, List, length, arith}
use Rattle.std.specs.Prelude.{IfErr}
use Rattle.std.specs.declared.result.Result.TheVariants.{Ok, Err}
use Rattle.wasm_readers_errors.specs.WasmReadersFeatures.declared.features.WasmFeatures.{WasmFeatures}
use Rattle.std.specs.declared.alloc.Global.{Global}
use Rattle.wasm_validator_handles.specs.WasmValidator.WasmValidatorCore.declared.error.Error.{Error}
use Rattle.wasm_validator_handles.specs.WasmValidator.WasmValidatorCore.declared.error.Error.TheVariants.{Refused, DuplicateExport, InFunction, OutOfMemory}
use Rattle.wasm_validator_handles.specs.WasmValidator.WasmSpecValidity.Modules.{up_to_bodies}
use Rattle.wasm_validator_handles.specs.WasmValidator.Verdict.{DecidesAlone, AreModule, AreNoModule}
use Rattle.ruthvelka_c.specs.declared.report.Report.{Report}
use Rattle.ruthvelka_c.specs.declared.report.TheConstants.{VALID, REFUSED}
use Rattle.ruthvelka_c.specs.Answers.{Answer}
use Rattle.ruthvelka_c.specs.Handles.{error_status}
use Rattle.ruthvelka_c.specs.declared.handles.TheConstants.{STATUS_DONE, STATUS_REFUSED, STATUS_WRONG}
use Rattle.ruthvelka_c.specs.Reports.{IsWithin, Tells}

pub valid : (answer : Answer) (bytes : List ℕ) (features : WasmFeatures) (r : Report) → DecidesAlone answer bytes 0 features → Tells answer r → r.verdict ≡ VALID → AreModule features bytes
valid (Ok t) bytes features r d tells e = d.1.module_valid
valid (Err (Refused x)) bytes features r d tells e = let v = tells.verdict in absurd (omega (arith, v, e))
valid (Err (DuplicateExport name offset)) bytes features r d tells e = let v = tells.verdict in absurd (omega (arith, v, e))
valid (Err (InFunction index x)) bytes features r d tells e = let v = tells.verdict in absurd (omega (arith, v, e))
valid (Err OutOfMemory) bytes features r d tells e = let v = tells.verdict in absurd (omega (arith, v, e))

pub refused : (answer : Answer) (bytes : List ℕ) (features : WasmFeatures) (r : Report) → DecidesAlone answer bytes 0 features → Tells answer r → r.verdict ≡ REFUSED → AreNoModule features bytes
refused (Ok t) bytes features r d tells e = let v = tells.verdict in absurd (omega (arith, v, e))
refused (Err (Refused x)) bytes features r d tells e = λ m. d.0 (up_to_bodies m)
refused (Err (DuplicateExport name offset)) bytes features r d tells e = λ m. d.0 (up_to_bodies m)
refused (Err (InFunction index x)) bytes features r d tells e = d.0
refused (Err OutOfMemory) bytes features r d tells e = let v = tells.verdict in absurd (omega (arith, v, e))

pub known : (answer : Answer) (r : Report) → Tells answer r → r.verdict ≤ 2
known (Ok t) r tells = let v = tells.verdict in omega (arith, v)
known (Err (Refused x)) r tells = let v = tells.verdict in omega (arith, v)
known (Err (DuplicateExport name offset)) r tells = let v = tells.verdict in omega (arith, v)
known (Err (InFunction index x)) r tells = let v = tells.verdict in omega (arith, v)
known (Err OutOfMemory) r tells = let v = tells.verdict in omega (arith, v)

-- the offset of a refusal
pub place : (answer : Answer) (bytes : List ℕ) (r : Report) → IfErr answer (IsWithin bytes) → Tells answer r → r.verdict ≡ REFUSED → r.offset ≤ length bytes
place (Ok t) bytes r h tells e = let v = tells.verdict in absurd (omega (arith, v, e))
place (Err x) bytes r h tells e = let o = tells.offset in omega (arith, o, h)

-- what the status of a refusal says
pub not_done : (e : Error Global) → error_status e ≡ STATUS_DONE → ⊥
not_done (Refused x) h = absurd (omega (arith, h))
not_done (DuplicateExport name offset) h = absurd (omega (arith, h))
not_done (InFunction index x) h = absurd (omega (arith, h))
not_done OutOfMemory h = absurd (omega (arith, h))

pub not_wrong : (e : Error Global) → error_status e ≡ STATUS_WRONG → ⊥
not_wrong (Refused x) h = absurd (omega (arith, h))
not_wrong (DuplicateExport name offset) h = absurd (omega (arith, h))
not_wrong (InFunction index x) h = absurd (omega (arith, h))
not_wrong OutOfMemory h = absurd (omega (arith, h))

pub refused_status : (e : Error Global) (bytes : List ℕ) (features : WasmFeatures) → DecidesAlone {A = Global} (Err e) bytes 0 features → error_status e ≡ STATUS_REFUSED → AreNoModule features bytes
refused_status (Refused x) bytes features d h = λ m. d.0 (up_to_bodies m)
refused_status (DuplicateExport name offset) bytes features d h = λ m. d.0 (up_to_bodies m)
refused_status (InFunction index x) bytes features d h = d.0
refused_status OutOfMemory bytes features d h = absurd (omega (arith, h))
