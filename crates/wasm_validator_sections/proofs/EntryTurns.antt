-- The imports of an entry, one after another: what is left of it behind each, and what is told of the one that is refused.
use Rattle.std.proofs.Common.{◌≡◌, ◌≤◌, refl, sym, ap, subst, ◌∙◌, inl, inr, ℕ, suc, ◌+◌, true, false, List, [], ◌∷◌, length, Option, Some, None, arith}
use Rattle.std.specs.Prelude.{IsSome, IfErr}
use Rattle.std.specs.Option.{option_map, option_and_then}
use Rattle.std.specs.Result.{IsErrAnd}
use Rattle.std.specs.declared.result.Result.{Result}
use Rattle.std.specs.declared.result.Result.TheVariants as results
use Rattle.wasm_spec.specs.BinaryModules.{Import}
use Rattle.wasm_spec.specs.Values.{many_at}
use Rattle.wasm_readers_bytes.specs.Reader.{input, original, position_in, place_of_next, rest}
use Rattle.wasm_readers_types.specs.WasmReadersValues.declared.indices.UnpackedIndex.{UnpackedIndex}
use Rattle.wasm_readers_errors.specs.declared.error.Refusal.{Refusal}
use Rattle.wasm_readers.specs.Items.{import_of}
use Rattle.wasm_readers.specs.declared.imports.CompactImports.{CompactImports}
use Rattle.wasm_readers.specs.declared.items.Import as declared
use Rattle.wasm_readers.specs.Entries.{one_at, given, next_of, listed_of, compact_of, IsRead, IsOnward, SameEntry, NextImport}
use Rattle.wasm_spec_rules.specs.FeatureFlags.{features_of}
use Rattle.wasm_readers_errors.specs.WasmReadersFeatures.declared.features.WasmFeatures.{WasmFeatures}
use Rattle.wasm_validator_types.specs.Spaces.{Spaces}
use Rattle.wasm_validator_items.specs.Answers.{StandsBehind}
use Rattle.wasm_validator_items.specs.WasmValidatorCore.Answers.{TypesSoFar, Adds}
use Rattle.wasm_validator_items.specs.WasmValidatorCore.AddedItemRefusals.{Tells, told_of_import}
use Rattle.wasm_validator_items.specs.WasmValidatorCore.Errors.{IsAt}
use Rattle.wasm_validator_items.specs.WasmValidatorCore.Items.{add_import}
use Rattle.wasm_validator_items.specs.WasmValidatorCore.declared.error.Error.{Error}
use Rattle.wasm_validator_items.specs.WasmValidatorCore.declared.error.Error.TheVariants.{Refused, DuplicateExport, InFunction, OutOfMemory}
use Rattle.wasm_validator_sections.specs.Machine.{add_entry}
use Rattle.wasm_validator_sections.specs.SectionFaults.{IsNone, Added, OfContent, TellsAt, tells_entry}

abbrev Listed : Type 0
Listed = List (Import UnpackedIndex) × List ℕ

imports_of : (c : CompactImports) (x : Listed) → listed_of c ≡ Some x → compact_of c ≡ x.0
imports_of c x e = rw e refl

is_there : (o : Option Listed) → IsSome o → (x : Listed) × (o ≡ Some x)
is_there None h = absurd cc
is_there (Some x) h = (x, refl)

-- an entry of which nothing is left
pub none_left : (c : CompactImports) → c.left ≡ 0 → compact_of c ≡ []
none_left c e = imports_of c ([], rest c.reader) (ap (λ n. many_at (next_of c) n (rest c.reader)) e)

-- no import of an entry that can be read is refused
pub none_refused : (c : CompactImports) (n : ℕ) → c.left ≡ suc n → next_of c (rest c.reader) ≡ None → IsRead c → ⊥
none_refused c n some none h =
    let nothing : listed_of c ≡ None =
    ap (λ k. many_at (next_of c) k (rest c.reader)) some
    ∙ ap (λ o. option_and_then (λ x. option_map (λ xs. (x.0 ∷ xs.0, xs.1)) (many_at (next_of c) n x.1)) o) none in
    no (subst IsSome nothing h)
  where
    no : false ≡ true → ⊥
    no e = cc

-- an entry behind its first import
module _ (s t : CompactImports) (v : Import UnpackedIndex) (some : s.left ≡ suc t.left) (read : next_of s (rest s.reader) ≡ Some (v, rest t.reader)) (same : SameEntry s t) where
  abbrev in_front : Option Listed → Option Listed
  in_front o = option_map (λ xs. (v ∷ xs.0, xs.1)) o

  left_behind : listed_of s ≡ in_front (listed_of t)
  left_behind =
      ap (λ n. many_at (next_of s) n (rest s.reader)) some
      ∙ ap (λ o. option_and_then (λ x. option_map (λ xs. (x.0 ∷ xs.0, xs.1)) (many_at (next_of s) t.left x.1)) o) read
      ∙ sym (λ i. in_front (many_at (one_at (same.0 i).now (given (same.1 i))) t.left (rest t.reader)))

  read_if : (o : Option Listed) → IsSome (in_front o) → IsSome o
  read_if None h = h
  read_if (Some x) h = refl

  pub left_read : IsRead s → IsRead t
  left_read h = read_if (listed_of t) (subst IsSome left_behind h)

  pub imports_are : IsRead s → compact_of s ≡ v ∷ compact_of t
  imports_are h =
      let x = is_there (listed_of t) (left_read h) in
      imports_of s (v ∷ x.0.0, x.0.1) (left_behind ∙ ap in_front x.1) ∙ ap (λ xs. v ∷ xs) (sym (imports_of t x.0 x.1))

-- imports that are told where they stand, or before
module _ {A : Type 0} (features : WasmFeatures) (us : TypesSoFar) (from to : ℕ) (before : from ≤ to) (e : Error A) where
  sooner_added : (is : List (Import UnpackedIndex)) → ((t : Spaces) → tells_entry features us to t is e → tells_entry features us from t is e)
      → (o : Option Spaces) → Added (λ t. tells_entry features us to t is e) o → Added (λ t. tells_entry features us from t is e) o
  sooner_added is h None w = w
  sooner_added is h (Some t) w = h t w

  sooner : (is : List (Import UnpackedIndex)) (s : Spaces) → tells_entry features us to s is e → tells_entry features us from s is e
  sooner [] s h = h
  sooner (i ∷ is) s (inl h) = inl (h.0, (h.1.0, omega (arith, before, h.1.1), h.1.2))
  sooner (i ∷ is) s (inr h) = inr (sooner_added is (λ t w. sooner is t w) (add_import (features_of features) us s i) h)

-- what is told of an entry
module _ {A : Type 0} (features : WasmFeatures) (us : TypesSoFar) (place : ℕ) (s new : Spaces) where
  abbrev Entry : List (Import UnpackedIndex) → Error A → Type 0
  Entry is e = IsNone (add_entry (features_of features) us s is) × tells_entry features us place s is e

  -- of one import
  pub one_told : {T : Type 0} (i : Import UnpackedIndex) (r : Result T (Error A)) → Adds r (add_import (features_of features) us s i) new → Tells r (told_of_import features place us s i) → IfErr r (IsAt place)
      → IfErr r (OfContent (Entry (i ∷ [])))
  one_told i (results.Ok x) a w p = tt
  one_told i (results.Err (Refused x)) a w p = (ap (option_and_then (λ t. Some t)) a, inl (a, (place, omega arith, (w, p))))
  one_told i (results.Err (DuplicateExport name offset)) a w p = absurd w
  one_told i (results.Err (InFunction index x)) a w p = absurd w
  one_told i (results.Err OutOfMemory) a w p = tt

  -- of several, which stand further on
  pub several_told : {T : Type 0} (at : ℕ) → place ≤ at → (is : List (Import UnpackedIndex)) (r : Result T (Error A)) → Adds r (add_entry (features_of features) us s is) new → IfErr r (OfContent (tells_entry features us at s is))
      → IfErr r (OfContent (Entry is))
  several_told at l is (results.Ok x) a w = tt
  several_told at l is (results.Err (Refused x)) a w = (a, sooner features us place at l (Refused x) is s w)
  several_told at l is (results.Err (DuplicateExport name offset)) a w = (a, sooner features us place at l (DuplicateExport name offset) is s w)
  several_told at l is (results.Err (InFunction index x)) a w = absurd a
  several_told at l is (results.Err OutOfMemory) a w = tt

-- The turns of the loop over an entry's imports: what is left leads on from here to where the entry leads from the start.
module _ (A : Type 0) (features : WasmFeatures) (us : TypesSoFar) (entry : CompactImports) (m : Spaces) where
  pub record Turn (c : CompactImports) (now : Spaces) : Type 0 where
    pub read : IsRead c
    pub place : IsOnward entry.reader c.reader
    pub added : add_entry (features_of features) us m (compact_of entry) ≡ add_entry (features_of features) us now (compact_of c)
    pub told : (e : Error A) → tells_entry features us (place_of_next entry.reader) now (compact_of c) e → tells_entry features us (place_of_next entry.reader) m (compact_of entry) e

  pub first_turn : IsRead entry → Turn entry m
  first_turn h = record { read = h; place = ((refl, refl), omega arith); added = refl; told = λ e w. w }

  pub last_turn : (c : CompactImports) (now : Spaces) → Turn c now → c.left ≡ 0 → add_entry (features_of features) us m (compact_of entry) ≡ Some now
  last_turn c now h none = h.added ∙ ap (add_entry (features_of features) us now) (none_left c none)

  -- no turn gives a refusal
  pub nothing_refused : {X : Type 0} (c t : CompactImports) (now : Spaces) → Turn c now → (item : Result (ℕ × declared.Import) Refusal) (r : Refusal) → item ≡ results.Err r → NextImport c (Some item) t → X
  nothing_refused c t now h item r is gives =
      let g = subst (λ (q : Result (ℕ × declared.Import) Refusal). NextImport c (Some q) t) is gives in
      absurd (none_refused c t.left g.0 g.1 h.read)

  -- a turn that gives an import, with where it stands
  module _ (s t : CompactImports) (now : Spaces) (h : Turn s now) (item : Result (ℕ × declared.Import) Refusal) (x : ℕ × declared.Import) (is : item ≡ results.Ok x) (gives : NextImport s (Some item) t) where
    abbrev v : Import UnpackedIndex
    v = import_of x.1

    goes : NextImport s (Some (results.Ok x)) t
    goes = subst (λ (q : Result (ℕ × declared.Import) Refusal). NextImport s (Some q) t) is gives

    are : compact_of s ≡ v ∷ compact_of t
    are = imports_are s t v goes.0 goes.1 goes.3 h.read

    whole_is : add_entry (features_of features) us m (compact_of entry) ≡ option_and_then (λ b. add_entry (features_of features) us b (compact_of t)) (add_import (features_of features) us now v)
    whole_is = h.added ∙ ap (add_entry (features_of features) us now) are

    told_behind : (e : Error A) → tells_entry features us (place_of_next entry.reader) now (v ∷ compact_of t) e → tells_entry features us (place_of_next entry.reader) m (compact_of entry) e
    told_behind e w = h.told e (subst (λ is. tells_entry features us (place_of_next entry.reader) now is e) (sym are) w)

    -- one more is added
    pub next_turn : (b : Spaces) → add_import (features_of features) us now v ≡ Some b → Turn t b
    next_turn b e =
        let same = goes.3 in
        record {
          read = left_read s t v goes.0 goes.1 same h.read;
          place = ((same.2.0.0 ∙ h.place.0.0, same.2.0.1 ∙ h.place.0.1), omega (arith, same.2.1, h.place.1));
          added = whole_is ∙ ap (option_and_then (λ b. add_entry (features_of features) us b (compact_of t))) e;
          told = λ w y. told_behind w (inr (subst (Added (λ b. tells_entry features us (place_of_next entry.reader) b (compact_of t) w)) (sym e) y));
        }

    -- one is refused
    nowhere : add_import (features_of features) us now v ≡ None → add_entry (features_of features) us m (compact_of entry) ≡ None
    nowhere e = whole_is ∙ ap (option_and_then (λ b. add_entry (features_of features) us b (compact_of t))) e

    told_here : (e : Error A) → add_import (features_of features) us now v ≡ None → TellsAt x.0 (told_of_import features x.0 us now v) e → tells_entry features us (place_of_next entry.reader) m (compact_of entry) e
    told_here e none w = told_behind e (inl (none, (x.0, omega (arith, goes.2, h.place.0.1, h.place.1), w)))

    lies : (offset : ℕ) → offset ≡ x.0 → (place_of_next entry.reader ≤ offset) × (offset ≤ original entry.reader + length (input entry.reader))
    lies offset e =
        let l = ap length h.place.0.0 in
        let within : position_in s.reader ≤ length (input s.reader) = s.reader.within in
        (omega (arith, e, goes.2, h.place.0.1, h.place.1), omega (arith, e, goes.2, h.place.0.1, within, l))

    module _ (U : Type 0) (b y : Spaces) where
      whole_refused : (e : Error A) → Adds {T = U} (results.Err e) (add_import (features_of features) us now v) b → Adds {T = U} (results.Err e) (add_entry (features_of features) us m (compact_of entry)) y
      whole_refused (Refused r) a = nowhere a
      whole_refused (DuplicateExport name offset) a = nowhere a
      whole_refused (InFunction index r) a = a
      whole_refused OutOfMemory a = tt

      refused_place : (e : Error A) → IsAt x.0 e → StandsBehind entry.reader e
      refused_place (Refused r) p = lies r.offset p
      refused_place (DuplicateExport name offset) p = lies offset p
      refused_place (InFunction index r) p = lies r.offset p
      refused_place OutOfMemory p = tt

      refused_told : (e : Error A) → Adds {T = U} (results.Err e) (add_import (features_of features) us now v) b → Tells {T = U} (results.Err e) (told_of_import features x.0 us now v) → IsAt x.0 e
          → OfContent (tells_entry features us (place_of_next entry.reader) m (compact_of entry)) e
      refused_told (Refused r) a w p = told_here (Refused r) a (w, p)
      refused_told (DuplicateExport name offset) a w p = absurd w
      refused_told (InFunction index r) a w p = absurd w
      refused_told OutOfMemory a w p = tt

      -- its error is handed on
      module _ (r : Result U (Error A)) (e : Error A) (up : IsErrAnd r (λ w. w ≡ e)) where
        handed : (P : Result U (Error A) → Type 0) (q : Result U (Error A)) → IsErrAnd q (λ w. w ≡ e) → P (results.Err e) → P q
        handed P (results.Ok z) u h = absurd u
        handed P (results.Err w) u h = subst (λ z. P (results.Err z)) (sym u) h

        pub error_added : Adds {T = U} (results.Err e) (add_import (features_of features) us now v) b → Adds r (add_entry (features_of features) us m (compact_of entry)) y
        error_added a = handed (λ q. Adds q (add_entry (features_of features) us m (compact_of entry)) y) r up (whole_refused e a)

        pub error_place : IsAt x.0 e → IfErr r (StandsBehind entry.reader)
        error_place p = handed (λ q. IfErr q (StandsBehind entry.reader)) r up (refused_place e p)

        pub error_told : Adds {T = U} (results.Err e) (add_import (features_of features) us now v) b → Tells {T = U} (results.Err e) (told_of_import features x.0 us now v) → IsAt x.0 e
            → IfErr r (OfContent (tells_entry features us (place_of_next entry.reader) m (compact_of entry)))
        error_told a w p = handed (λ q. IfErr q (OfContent (tells_entry features us (place_of_next entry.reader) m (compact_of entry)))) r up (refused_told e a w p)
