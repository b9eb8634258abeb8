-- From the answers of one validator on files to what the exit status says of these.
use Rattle.std.proofs.Common.{ℕ, zero, suc, ◌≡◌, ◌-◌, ◌<◌, ◌≤◌, List, [], ◌∷◌, length, map, take, get_or, slice_get, Option, Some, None, Bool, true, false, not, cond, inl, inr, refl, sym, ap, subst, ◌∙◌, arith}
use Rattle.std.specs.Prelude.{find, Any}
use Rattle.std.specs.Option.{is_some}
use Rattle.std.specs.List.{All}
use Rattle.std.specs.declared.result.Result.{Result}
use Rattle.std.specs.declared.result.Result.TheVariants.{Ok, Err}
use Rattle.std.proofs.lemmas.Option.{none-some, slice_get_cases, get_or_from_slice_get, slice_get_within}
use Rattle.std.proofs.lemmas.Bool.{false≢true}
use Rattle.std.proofs.lemmas.List.{length-map}
use Rattle.std.proofs.lemmas.List.Elements.{All-nil, All-cons}
use Rattle.wasm_readers_errors.specs.WasmReadersFeatures.declared.features.WasmFeatures.{WasmFeatures}
use Rattle.wasm_spec_rules.specs.FeatureFlags.{features_of}
use Rattle.wasm_spec_rules.specs.WasmSpec.Features.{Features, canonical}
use Rattle.wasm_validator.specs.WasmSpecValidity.Modules.{up_to_bodies}
use Rattle.wasm_validator.specs.WasmValidatorTypes.declared.shown.Types as shown
use Rattle.wasm_validator.specs.WasmValidatorCore.declared.error.Error.{Error}
use Rattle.wasm_validator.specs.WasmValidatorCore.declared.error.Error.TheVariants.{OutOfMemory}
use Rattle.wasm_validator.specs.Headline.{HaveIds, HasRoom}
use Rattle.wasm_validator.specs.WasmValidatorCore.Answers.{TypesSoFar}
use Rattle.wasm_validator.specs.WasmValidatorCanonical.TypeTotals.{with_types}
use Rattle.wasm_validate_files.specs.declared.files.Input.{Input}
use Rattle.wasm_validate_files.specs.Files.{IsRead, IsUnread, is_unread, bytes_held, AreAllAccepted, HasRoomForAll}
use Rattle.wasm_validate_files.specs.Answers.{IsOkAt, Tells}

-- what the validator answers on a file
abbrev Told : Type 0 → Type 0
Told A = Result (shown.Types A) (Error A)

-- the ids for the types of all files are ids for those of the first
room_for_first : (F : Features) (n : ℕ) (modules : List (List ℕ)) (held : TypesSoFar) → HaveIds (canonical F) F held modules → HaveIds (canonical F) F held (take n modules)
room_for_first F zero modules held h = tt
room_for_first F (suc n) [] held h = tt
room_for_first F (suc n) (bytes ∷ more) held h = λ m. let x = h m in (x.0, room_for_first F n more (with_types (canonical F) held m.types.types) x.1)

module _ {A : Type 0} where
  -- where no first file could not be read, each was
  read_first : (b : Bool) (f : Input A) (rest : Option (Input A)) → None ≡ cond (not b) (Some f) rest → (b ≡ true) × (None ≡ rest)
  read_first true f rest e = (refl, e)
  read_first false f rest e = absurd (none-some f e)

  pub all_read : (files : List (Input A)) → None ≡ find is_unread files → All IsRead files
  all_read [] e = All-nil IsRead
  all_read (f ∷ fs) e = let first = read_first (is_some f.bytes) f (find is_unread fs) e in All-cons IsRead f fs first.0 (all_read fs first.1)

  pub none_unread : (files : List (Input A)) → None ≡ find is_unread files → Any IsUnread files → ⊥
  none_unread files e (k, f, l, at, u) = false≢true (ap is_some (sym u) ∙ subst IsRead at (all_read files e k f l))

  -- the bytes of the file at this place
  held_at : (files : List (Input A)) (k : ℕ) (d : Input A) → k < length files → slice_get (map bytes_held files) k ≡ Some (bytes_held (get_or files k d))
  held_at [] k d l = absurd (omega arith)
  held_at (f ∷ fs) zero d l = λ i. Some (bytes_held f)
  held_at (f ∷ fs) (suc k) d l = held_at fs k d (omega arith)

module _ {A : Type 0} (features : WasmFeatures) where
  room : (files : List (Input A)) (answers : List (Told A)) → HasRoomForAll features files → HasRoom (features_of features) (map bytes_held files) answers []
  room files answers r = room_for_first (features_of features) (length answers) (map bytes_held files) [] r

  -- no answer is that memory was refused
  none_lacks : (files : List (Input A)) (answers : List (Told A)) → Tells features files answers → (k : ℕ) → slice_get answers k ≡ Some (Err OutOfMemory) → ⊥
  none_lacks files answers tells k e =
      tells.with_memory (k, Err OutOfMemory, slice_get_within answers k (Err OutOfMemory) e, get_or_from_slice_get answers k (Err OutOfMemory) (Err OutOfMemory) e, tt)

  -- Where each file was read and has the answer that it is valid, it is.
  pub all_accepted : (files : List (Input A)) (answers : List (Told A))
      → All IsRead files → Tells features files answers → ((k : ℕ) → k < length files → IsOkAt answers k) → AreAllAccepted features files
  all_accepted files answers read tells oks k d l =
      let ok : IsOkAt answers k = oks k l in
      (read k d l, (tells.headline.accepted k (bytes_held (get_or files k d)) ok.0 (record { given = held_at files k d l; answered = ok.1 })).module_valid)

  -- where all files are valid modules, no answer on one is a refusal
  none_refused : (files : List (Input A)) (answers : List (Told A)) → Tells features files answers → HasRoomForAll features files → AreAllAccepted features files
      → (k : ℕ) (r : Told A) (d : Input A) → k < length files → slice_get answers k ≡ Some r → IsOkAt answers k
  none_refused files answers tells fits accepted k (Ok t) d l e = (t, e)
  none_refused files answers tells fits accepted k (Err x) d l e =
      let lacks : x ≡ OutOfMemory = tells.headline.refused (room files answers fits) k (bytes_held (get_or files k d)) x (record { given = held_at files k d l; answered = e }) (accepted k d l).1 in
      absurd (none_lacks files answers tells k (e ∙ ap (λ (y : Error A). Some (Err y)) lacks))

  -- and the list of answers doesn't stop
  none_stops : (files : List (Input A)) (answers : List (Told A)) → Tells features files answers → HasRoomForAll features files → AreAllAccepted features files
      → (k : ℕ) (d : Input A) → k < length files → length answers ≤ k → ⊥
  none_stops files answers tells fits accepted k d l past =
      let all : length (map bytes_held files) ≡ length files = length-map files bytes_held in
      let some : 0 < length answers = tells.headline.first (omega (arith, all)) in
      let last = length answers - 1 in
      let within : last < length answers = omega (arith, some) in
      let read : last < length files = omega (arith, past, l) in
      elim (slice_get_cases answers last).1 [
        | inl at ↦
            let lacks : at.0 ≡ Err OutOfMemory =
            tells.headline.stops (room files answers fits) last (bytes_held (get_or files last d)) at.0
            (record { given = held_at files last d read; answered = at.2 }) (omega (arith, some)) (omega (arith, all, past, l)) (up_to_bodies (accepted last d read).1) in
            none_lacks files answers tells last (at.2 ∙ ap Some lacks)
        | inr behind ↦ absurd (omega (arith, behind.0, within))
      ]

  -- Where all files are valid modules and there is room for their types, each has the answer that it is.
  pub all_answered : (files : List (Input A)) (answers : List (Told A)) → Tells features files answers → HasRoomForAll features files → AreAllAccepted features files
      → (k : ℕ) → k < length files → IsOkAt answers k
  all_answered files answers tells fits accepted k l =
      elim (slice_get_cases files k).1 [
        | inl file ↦
            elim (slice_get_cases answers k).1 [
              | inl answer ↦ none_refused files answers tells fits accepted k answer.0 file.0 l answer.2
              | inr behind ↦ absurd (none_stops files answers tells fits accepted k file.0 l behind.0)
            ]
        | inr behind ↦ absurd (omega (arith, behind.0, l))
      ]
