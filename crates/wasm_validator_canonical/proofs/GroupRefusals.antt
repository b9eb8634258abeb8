-- What is told of a group, step by step.
use Rattle.std.proofs.Common.{◌≡◌, refl, sym, ap, subst, ◌∙◌, ℕ, ◌+◌, ◌≤◌, Bool, true, false, true≢false, List, [], ◌∷◌, ◌++◌, map, length, IfErr, Ok, Err, arith, length-append}
use Rattle.std.specs.declared.result.Result.{Result}
use Rattle.std.proofs.lemmas.List.{length-map}
use Rattle.wasm_spec.specs.Syntax.{Rec, map_sub}
use Rattle.wasm_spec_rules.specs.FeatureFlags.{features_of}
use Rattle.wasm_readers_errors.specs.declared.error.Error.{Error}
use Rattle.wasm_readers_errors.specs.declared.error.Error.TheVariants.{Refused, OutOfMemory}
use Rattle.wasm_readers_errors.specs.declared.error.Refusal.{Refusal}
use Rattle.wasm_readers_errors.specs.WasmReadersFeatures.declared.features.WasmFeatures.{WasmFeatures}
use Rattle.wasm_readers_types.specs.WasmReadersValues.declared.indices.TheConstants.{MAX_IDS}
use Rattle.wasm_readers_types.specs.WasmReadersValues.declared.indices.UnpackedIndex.{UnpackedIndex}
use Rattle.wasm_readers_types.specs.declared.types.SubType.{SubType}
use Rattle.wasm_readers_types.specs.SeenTypes.{sub_of}
use Rattle.wasm_validator_type_list.proofs.WasmValidatorTypeGroups.FlatGroups.{all_in-push}
use Rattle.wasm_validator_type_list.specs.GroupInterning.{Interns}
use Rattle.wasm_validator_type_list.specs.ListViews.{Listing, types_in}
use Rattle.wasm_validator_type_list.specs.ListRefusals.{RefusesTooMany}
use Rattle.wasm_validator_type_checks.specs.TypeRefusals.{ToldOfGroup}
use Rattle.wasm_validator_canonical.specs.Answers.{IsRefusal, IsAt}
use Rattle.wasm_validator_canonical.specs.Groups.{allows_written, closes}
use Rattle.wasm_validator_canonical.specs.Indices.{canonical_index, canonical_group, extend_at_most_one}
use Rattle.wasm_validator_canonical.specs.GroupInterning.{HasIdsFor}
use Rattle.wasm_validator_canonical.specs.GroupFaults.{IfContent, ToldOfIndex, ToldOfWritten, index, ToldOfInterned, no_ids, breaks, ToldOfAdded, full, invalid}
use Rattle.wasm_validator_canonical.proofs.CheckedGroups.{too_many}

-- what implies this is said of a refusal of the content
pub content_says : {P Q : Refusal → Type 0} (e : Error) → ((r : Refusal) → P r → Q r) → IfContent P e → IfContent Q e
content_says (Refused r) f h = f r h
content_says OutOfMemory f h = tt

pub err_says : {X : Type 0} {P Q : Refusal → Type 0} (x : Result X Error) → ((r : Refusal) → P r → Q r) → IfErr x (IfContent P) → IfErr x (IfContent Q)
err_says (Ok y) f h = h
err_says (Err e) f h = content_says e f h

-- the error of a call, and the same error of another call
error_or : {X : Type 0} → Error → Result X Error → Error
error_or e (Ok y) = e
error_or e (Err d) = d

pub same_refusal : {X Y : Type 0} (e : Error) (r : Refusal) → IsRefusal {T = X} (Err e) r → IsRefusal {T = Y} (Err e) r
unfolding error_or
same_refusal e r h = ap (λ d. Err d) (ap (error_or e) h)

-- what is told of an index, for a canonicalizer of these values
pub index_tells : (features : WasmFeatures) (offset start : ℕ) (g : Rec UnpackedIndex) (r : Refusal) (gc : Bool) (s e o : ℕ) → gc ≡ (features_of features).gc → s ≡ start → e ≡ start + length g.types → o ≡ offset
    → allows_written (features_of features) g ≡ true → extend_at_most_one g ≡ true → ToldOfIndex gc s e o r → ToldOfWritten features offset start g r
index_tells features offset start g r gc s e o on from end at allowed one t =
    let last = start + length g.types in
    index allowed one
    (subst (λ b. ToldOfIndex b start last offset r) on
    (subst (λ n. ToldOfIndex gc n last offset r) from
    (subst (λ n. ToldOfIndex gc s n offset r) end (subst (λ n. ToldOfIndex gc s e n r) at t))))

added_told : {A : Type 0} (features : WasmFeatures) (offset : ℕ) (old : Listing A) (ids : List ℕ) (g : Rec UnpackedIndex) (here : List (SubType A)) (r : Refusal) → closes (features_of features) (length ids) g ≡ true
    → map sub_of here ≡ canonical_group ids g.types → length g.types ≡ length here → ToldOfInterned features offset old here r → ToldOfAdded features offset old ids g r
added_told features offset old ids g here r closing says many (no_ids f e) = full closing (record { types = here; are_types = says; full = f; told = e })
added_told features offset old ids g here r closing says many (breaks room t) = invalid (subst (HasIdsFor old) (sym many) room) closing (record { types = here; are_types = says; told = t })

-- what is told of a group that stands behind the others, as the list has its types
pub invalid_tells : {A : Type 0} (features : WasmFeatures) (offset : ℕ) (old : Listing A) (ids : List ℕ) (g : Rec UnpackedIndex) (here types : List (SubType A)) (e : Error) → closes (features_of features) (length ids) g ≡ true
    → here ≡ types → map sub_of types ≡ canonical_group ids g.types → IfContent (ToldOfInterned features offset old here) e → IfContent (ToldOfAdded features offset old ids g) e
invalid_tells features offset old ids g here types e closing same value told =
    let says : map sub_of here ≡ canonical_group ids g.types = ap (map sub_of) same ∙ value in
    let many : length g.types ≡ length here = sym (length-map g.types (map_sub (canonical_index ids))) ∙ sym (ap length says) ∙ length-map here sub_of in
    content_says e (λ r t. added_told features offset old ids g here r closing says many t) told

-- a group that was refused is new, and stands behind the others
new_tells : {A : Type 0} (features : WasmFeatures) (offset : ℕ) (old new : Listing A) (g : List (SubType A)) (is_new : Bool) (n : ℕ) (answer : Bool) (r : Refusal) → Interns old new g is_new n → (is_new ≡ false → answer ≡ true) → answer ≡ false
    → ToldOfGroup features offset new.groups n r → ToldOfGroup features offset (old.groups ++ g ∷ []) (length old.groups) r
new_tells features offset old new g true n answer r i known e told =
    let added : new.groups ≡ old.groups ++ g ∷ [] = ap (λ (l : Listing _). l.groups) (i.added refl) in
    subst (λ k. ToldOfGroup features offset (old.groups ++ g ∷ []) k r) (i.last refl) (subst (λ gs. ToldOfGroup features offset gs n r) added told)
new_tells features offset old new g false n answer r i known e told = absurd (true≢false (sym (known refl) ∙ e))

new_fits : {A : Type 0} (old new : Listing A) (g : List (SubType A)) (is_new : Bool) (n : ℕ) (answer : Bool) → Interns old new g is_new n → (is_new ≡ false → answer ≡ true) → answer ≡ false → length (types_in new) ≤ MAX_IDS → HasIdsFor old (length g)
new_fits old new g true n answer i known e room =
    let longer = ap (λ (l : Listing _). length (types_in l)) (i.added refl) ∙ ap length (all_in-push old.groups g) ∙ length-append (types_in old) g in
    omega (arith, longer, room)
new_fits old new g false n answer i known e room = absurd (true≢false (sym (known refl) ∙ e))

pub new_told : {A : Type 0} (features : WasmFeatures) (offset : ℕ) (old new : Listing A) (g : List (SubType A)) (is_new : Bool) (n : ℕ) (answer : Bool) (r : Refusal) → Interns old new g is_new n → (is_new ≡ false → answer ≡ true) → answer ≡ false → length (types_in new) ≤ MAX_IDS
    → ToldOfGroup features offset new.groups n r → ToldOfInterned features offset old g r
new_told features offset old new g is_new n answer r i known e room told = breaks (new_fits old new g is_new n answer i known e room) (new_tells features offset old new g is_new n answer r i known e told)

-- where it was refused for want of ids, this is told, at the offset
pub full_tells : {A : Type 0} (features : WasmFeatures) (old : Listing A) (g : List (SubType A)) (e : Error) (offset : ℕ) → RefusesTooMany (too_many e) old g offset → IfContent (ToldOfInterned features offset old g) e
full_tells features old g (Refused r) offset h = no_ids h.0 h.1
full_tells features old g OutOfMemory offset h = tt

pub full_place : {A : Type 0} (old : Listing A) (g : List (SubType A)) (e : Error) (offset : ℕ) → RefusesTooMany (too_many e) old g offset → IsAt offset e
full_place old g (Refused r) offset h = ap (λ (q : Refusal). q.offset) h.1
full_place old g OutOfMemory offset h = tt
