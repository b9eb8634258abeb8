-- What contracts see of an error.
use Rattle.std.specs.Prelude.{ℕ, ◌≡◌, Option, Some, None, ⊤}
use Rattle.wasm_validator_core.specs.declared.error.Error.{Error}
use Rattle.wasm_validator_core.specs.declared.error.Error.TheVariants.{Refused, DuplicateExport, InFunction, OutOfMemory}
use Rattle.wasm_readers_errors.specs.declared.error.Error as below
use Rattle.wasm_readers_errors.specs.declared.error.Error.TheVariants as read
use Rattle.wasm_readers_errors.specs.declared.error.Refusal.{Refusal}
use Rattle.wasm_readers_errors.specs.WasmReadersFeatures.declared.features.WasmFeatures.{WasmFeatures}

-- memory was refused
abbrev pub IsMemory : {A : Type 0} → Error A → Type 0
IsMemory (Refused r) = ⊥
IsMemory (DuplicateExport name offset) = ⊥
IsMemory (InFunction index r) = ⊥
IsMemory OutOfMemory = ⊤

-- the content was refused
abbrev pub IsContent : {A : Type 0} → Error A → Type 0
IsContent (Refused r) = ⊤
IsContent (DuplicateExport name offset) = ⊤
IsContent (InFunction index r) = ⊤
IsContent OutOfMemory = ⊥

abbrev pub offset_of : {A : Type 0} → Error A → ℕ
offset_of (Refused r) = r.offset
offset_of (DuplicateExport name offset) = offset
offset_of (InFunction index r) = r.offset
offset_of OutOfMemory = 0

-- the content is refused at this offset, or memory was
abbrev pub IsAt : {A : Type 0} → ℕ → Error A → Type 0
IsAt place (Refused r) = r.offset ≡ place
IsAt place (DuplicateExport name offset) = offset ≡ place
IsAt place (InFunction index r) = r.offset ≡ place
IsAt place OutOfMemory = ⊤

-- if the content is refused, then not for the name of an export and not in a body, and the refusal has this property; of refused memory nothing is said
abbrev pub IfContent : {A : Type 0} → (Refusal → Type 0) → Error A → Type 0
IfContent P (Refused r) = P r
IfContent P (DuplicateExport name offset) = ⊥
IfContent P (InFunction index r) = ⊥
IfContent P OutOfMemory = ⊤

abbrev pub missing_of : {A : Type 0} → Error A → Option WasmFeatures
missing_of (Refused r) = r.missing
missing_of (DuplicateExport name offset) = None
missing_of (InFunction index r) = r.missing
missing_of OutOfMemory = None

-- a reader's error
abbrev pub lifted : {A : Type 0} → below.Error → Error A
lifted (read.Refused r) = Refused r
lifted read.OutOfMemory = OutOfMemory

-- the index of the function whose body is refused, if it is a body: imported functions count, and come first
abbrev pub function_of : {A : Type 0} → Error A → Option ℕ
function_of (Refused r) = None
function_of (DuplicateExport name offset) = None
function_of (InFunction index r) = Some index
function_of OutOfMemory = None

-- the error of a body, of this function
abbrev pub lifted_in : {A : Type 0} → ℕ → below.Error → Error A
lifted_in index (read.Refused r) = InFunction index r
lifted_in index read.OutOfMemory = OutOfMemory
