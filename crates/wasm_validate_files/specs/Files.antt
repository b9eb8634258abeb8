-- What the program's answer says of its files.
use Rattle.std.specs.Prelude.{ℕ, ◌≡◌, Bool, not, List, [], map, None, IsSome}
use Rattle.std.specs.Option.{is_some, unwrap_or, option_map}
use Rattle.std.specs.List.{All}
use Rattle.wasm_readers_errors.specs.WasmReadersFeatures.declared.features.WasmFeatures.{WasmFeatures}
use Rattle.wasm_spec_rules.specs.FeatureFlags.{features_of}
use Rattle.wasm_spec_rules.specs.WasmSpec.Features.{canonical}
use Rattle.wasm_validator.specs.Verdict.{AreModule}
use Rattle.wasm_validator.specs.Headline.{HaveIds}
use Rattle.wasm_validate_files.specs.declared.files.Input.{Input}

module _ {A : Type 0} where
  -- the file could be read, or could not be
  abbrev pub IsRead : Input A → Type 0
  IsRead f = IsSome f.bytes

  abbrev pub IsUnread : Input A → Type 0
  IsUnread f = f.bytes ≡ None

  -- the test for the second
  abbrev pub is_unread : Input A → Bool
  is_unread f = not (is_some f.bytes)

  -- the bytes of a file, and none where it could not be read
  abbrev pub bytes_held : Input A → List ℕ
  bytes_held f = unwrap_or (option_map (λ v. v.items) f.bytes) []

  -- the file was read, and with these features its bytes are a valid module
  abbrev pub IsAccepted : WasmFeatures → Input A → Type 0
  IsAccepted features f = IsRead f × AreModule features (bytes_held f)

  -- all files are valid modules
  abbrev pub AreAllAccepted : WasmFeatures → List (Input A) → Type 0
  AreAllAccepted features files = All (IsAccepted features) files

  -- There are ids for the types of all files, one after another: where equal types are one, for each that isn't that of a file before it.
  abbrev pub HasRoomForAll : WasmFeatures → List (Input A) → Type 0
  HasRoomForAll features files = HaveIds (canonical (features_of features)) (features_of features) [] (map bytes_held files)
