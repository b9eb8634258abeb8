-- What the exit status says of files. Core Specification 3.0, Validation, Modules.
use Rattle.std.specs.Prelude.{ℕ, ◌≡◌, ◌≤◌, Bool, true, false, List, [], ◌∷◌, string_bytes, ⊤}
use Rattle.std.specs.declared.alloc.Global.{Global}
use Rattle.wasm_readers_errors.specs.WasmReadersFeatures.declared.features.WasmFeatures.{WasmFeatures}
use Rattle.wasm_check_reports.specs.WasmValidateFiles.declared.files.Input.{Input}
use Rattle.wasm_check_reports.specs.WasmValidateFiles.declared.files.TheConstants.{STATUS_OK, STATUS_REFUSED, STATUS_TROUBLE}
use Rattle.wasm_check_reports.specs.WasmValidateFiles.Files.{IsRead, bytes_held, AreAllAccepted, HasRoomForAll}

-- The status is that of these files: accepted where all are valid modules, and refused where not all are, as far as there is room.
pub record StatusTells (features : WasmFeatures) (room : List (Input Global) → Type 0) (files : List (Input Global)) (status : ℕ) : Type 0 where
  pub known : status ≤ STATUS_TROUBLE
  pub accepted : status ≡ STATUS_OK → AreAllAccepted features files
  pub refused : status ≡ STATUS_REFUSED → room files → AreAllAccepted features files → ⊥

-- The file was read under this name, and has bytes that its source gives for the name.
abbrev pub IsFileOf : (List ℕ → List ℕ → Type 0) → List ℕ → Input Global → Type 0
IsFileOf gives name f = (string_bytes f.name ≡ name) × IsRead f × gives name (bytes_held f)

-- So it is of each of these names and the file at its place, and there are no other files.
abbrev pub AreFilesOf : (List ℕ → List ℕ → Type 0) → List (List ℕ) → List (Input Global) → Type 0
AreFilesOf gives [] [] = ⊤
AreFilesOf gives (n ∷ ns) (f ∷ fs) = IsFileOf gives n f × AreFilesOf gives ns fs
AreFilesOf gives [] (f ∷ fs) = ⊥
AreFilesOf gives (n ∷ ns) [] = ⊥

-- The status is that of the files that could be read. Unless there was trouble they are those of all names, in their order, each with the bytes that
-- the source gives for it.
pub record WereChecked
    (features : WasmFeatures) (room : List (Input Global) → Type 0) (gives : List ℕ → List ℕ → Type 0) (names : List (List ℕ)) (status : ℕ) : Type 0 where
  pub files : List (Input Global)
  pub each : (status ≡ STATUS_TROUBLE → ⊥) → AreFilesOf gives names files
  pub tells : StatusTells features room files status

-- The room that is asked for: for files that one validator checks, ids for all their types. One module has always room.
abbrev pub room_for : WasmFeatures → Bool → List (Input Global) → Type 0
room_for features true files = HasRoomForAll features files
room_for features false files = ⊤
