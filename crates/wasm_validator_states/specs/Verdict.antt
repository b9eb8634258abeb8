-- What the answer on whole bytes says of the module that they are. Core Specification 3.0, Validation, Modules.
use Rattle.std.specs.Prelude.{ℕ, ◌≡◌, ◌≤◌, ◌+◌, ◌++◌, false, List, length, Some, None, ⊤}
use Rattle.std.specs.declared.result.Result.{Result}
use Rattle.std.specs.declared.result.Result.TheVariants as results
use Rattle.wasm_readers_types.specs.WasmReadersValues.declared.indices.TheConstants.{MAX_IDS}
use Rattle.wasm_readers_errors.specs.WasmReadersFeatures.declared.features.WasmFeatures.{WasmFeatures}
use Rattle.wasm_spec.specs.Features.{Features, canonical}
use Rattle.wasm_spec.specs.Trees.{DefType}
use Rattle.wasm_spec_rules.specs.FeatureFlags.{features_of}
use Rattle.wasm_spec_rules.specs.IndexSpaces.{index_spaces}
use Rattle.wasm_spec_validity.specs.Modules.{IsValidModule, IsValidUpToBodies}
use Rattle.wasm_validator_type_groups.specs.Elements.{numbers_from}
use Rattle.wasm_validator_type_list.specs.DefTypes.{types_of_list}
use Rattle.wasm_validator_canonical.specs.DistinctTypes.{AreApart}
use Rattle.wasm_validator_canonical.specs.TypeTotals.{with_types, AreWith}
use Rattle.wasm_validator_types.specs.ShownModules.{shown_of}
use Rattle.wasm_validator_types.specs.declared.shown.Types as shown
use Rattle.wasm_validator_sections.specs.WasmValidatorCore.declared.error.Error.{Error}
use Rattle.wasm_validator_sections.specs.WasmValidatorCore.declared.error.Error.TheVariants.{Refused, DuplicateExport, InFunction, OutOfMemory}
use Rattle.wasm_validator_states.specs.ShownModules.{ShowModule}
use Rattle.wasm_validator_sections.specs.WasmValidatorCore.Answers.{TypesSoFar}
use Rattle.wasm_validator_states.specs.ValidatorStages.{Standing, unparsed, ended, fresh, HoldsAt, HasNotEnded}
use Rattle.wasm_validator_states.specs.Payloads.{IsLeft, IsOutOfMemory, RefusesBody}

-- the types that a validator holds are told apart, as its features ask
abbrev pub StandsApart : Standing → Type 0
StandsApart s = HoldsAt (AreApart (canonical (features_of s.features))) s.stage

-- There are ids for these types with those of a module: where equal types are one, for each that isn't there yet.
abbrev pub HasIdsWith : Features → TypesSoFar → List DefType → Type 0
HasIdsWith F us ds = length (with_types (canonical F) us ds) ≤ MAX_IDS

-- The bytes are a valid module. The types show its index spaces, in a list that begins with the types that the
-- validator had, and this list is what it has from now on.
pub record AcceptsModule {A : Type 0} (bytes : List ℕ) (old new : Standing) (t : shown.Types A) : Type 0 where
  pub module_valid : IsValidModule (features_of old.features) bytes
  pub shows :
      ShowModule (features_of old.features) (types_of_list (shown_of t).list) (shown_of t).spaces
      (index_spaces module_valid.well_formed.types.types module_valid.well_formed.parts) module_valid.well_formed.parts
  pub same_id : (shown_of t).id ≡ old.id
  pub same_features : (shown_of t).features ≡ features_of old.features
  pub before : TypesSoFar
  pub began : old.stage ≡ unparsed before
  pub more : TypesSoFar
  pub kept : types_of_list (shown_of t).list ≡ before ++ more
  -- where equal types aren't one, each type of the module has the next id behind those before it
  pub own_ids : canonical (features_of old.features) ≡ false → (shown_of t).spaces.types ≡ numbers_from (length before) (length module_valid.well_formed.types.types)
  pub own_types : canonical (features_of old.features) ≡ false → length (types_of_list (shown_of t).list) ≡ length before + length module_valid.well_formed.types.types
  pub after : new ≡ record old { stage = ended (types_of_list (shown_of t).list) }

-- Where no header had been read, the bytes are no valid module, unless there are too few ids for the types that are held with the module's.
abbrev pub RefusesModule : List ℕ → Standing → Type 0
RefusesModule bytes old =
    (before : TypesSoFar) → old.stage ≡ unparsed before
    → (m : IsValidModule (features_of old.features) bytes) → HasIdsWith (features_of old.features) before m.well_formed.types.types → ⊥

-- The same of a module up to its bodies.
abbrev pub RefusesUpToBodies : List ℕ → Standing → Type 0
RefusesUpToBodies bytes old =
    (before : TypesSoFar) → old.stage ≡ unparsed before
    → (m : IsValidUpToBodies (features_of old.features) bytes) → HasIdsWith (features_of old.features) before m.well_formed.types.types → ⊥

-- What the answer on whole bytes says: of acceptance with no premise, of a refusal unless memory was refused. One that names no function refuses
-- the module up to its bodies, and one that does says of which function the first body is that isn't valid.
abbrev pub DecidesModule : {A : Type 0} → Result (shown.Types A) (Error A) → List ℕ → Standing → Standing → Type 0
DecidesModule (results.Ok t) bytes old new = AcceptsModule bytes old new t
DecidesModule (results.Err (Refused r)) bytes old new = RefusesUpToBodies bytes old × IsLeft (Some r) bytes old new
DecidesModule (results.Err (DuplicateExport name offset)) bytes old new = RefusesUpToBodies bytes old × IsLeft None bytes old new
DecidesModule (results.Err (InFunction index r)) bytes old new = RefusesModule bytes old × (IsLeft (Some r) bytes old new × RefusesBody index bytes old)
DecidesModule (results.Err OutOfMemory) bytes old new = IsOutOfMemory bytes old new

-- All payloads were accepted: the bytes are a valid module up to its bodies, and the validator stands at its end, with the types that it had
-- and those of the module: where equal types are one, each that wasn't there yet.
pub record EndsModule (bytes : List ℕ) (old new : Standing) : Type 0 where
  pub module_valid : IsValidUpToBodies (features_of old.features) bytes
  pub before : TypesSoFar
  pub began : old.stage ≡ unparsed before
  pub more : TypesSoFar
  pub counted : AreWith (canonical (features_of old.features)) (before ++ more) before module_valid.well_formed.types.types
  pub after : new ≡ record old { stage = ended (before ++ more) }

-- A payload, or what follows some, was refused, or memory for them was: the validator isn't at the module's end. Where memory wasn't refused the
-- bytes are no valid module up to its bodies.
abbrev pub StopsModule : {A : Type 0} → Result (shown.Types A) (Error A) → List ℕ → Standing → Standing → Type 0
StopsModule (results.Ok t) bytes old new = ⊥
StopsModule (results.Err (Refused r)) bytes old new = RefusesUpToBodies bytes old × HasNotEnded old new
StopsModule (results.Err (DuplicateExport name offset)) bytes old new = RefusesUpToBodies bytes old × HasNotEnded old new
StopsModule (results.Err (InFunction index r)) bytes old new = ⊥
StopsModule (results.Err OutOfMemory) bytes old new = HasNotEnded old new

-- the bytes are a valid module
abbrev pub AreModule : WasmFeatures → List ℕ → Type 0
AreModule features bytes = IsValidModule (features_of features) bytes

-- they are none
abbrev pub AreNoModule : WasmFeatures → List ℕ → Type 0
AreNoModule features bytes = AreModule features bytes → ⊥

-- nor up to their bodies
abbrev pub AreNoneUpToBodies : WasmFeatures → List ℕ → Type 0
AreNoneUpToBodies features bytes = IsValidUpToBodies (features_of features) bytes → ⊥

-- The same of a validator that is made for these bytes: no module has as many types as its list may hold.
abbrev pub DecidesAlone : {A : Type 0} → Result (shown.Types A) (Error A) → List ℕ → ℕ → WasmFeatures → Type 0
DecidesAlone (results.Ok t) bytes id features = (new : Standing) × AcceptsModule bytes (fresh id features) new t
DecidesAlone (results.Err (Refused r)) bytes id features = AreNoneUpToBodies features bytes × ((new : Standing) × IsLeft (Some r) bytes (fresh id features) new)
DecidesAlone (results.Err (DuplicateExport name offset)) bytes id features = AreNoneUpToBodies features bytes × ((new : Standing) × IsLeft None bytes (fresh id features) new)
DecidesAlone (results.Err (InFunction index r)) bytes id features = AreNoModule features bytes × ((new : Standing) × (IsLeft (Some r) bytes (fresh id features) new × RefusesBody index bytes (fresh id features)))
DecidesAlone (results.Err OutOfMemory) bytes id features = ⊤
