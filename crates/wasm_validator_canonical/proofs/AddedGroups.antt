-- What a group that is written, closed and interned adds to the list and to the ids of the module.
use Rattle.std.proofs.Common.{◌≡◌, inl, inr, sym, ap, subst, ◌∙◌, ℕ, ◌<◌, Bool, true, false, List, ◌++◌, map, length, Option, Some, None, All}
use Rattle.std.specs.List.{list_all}
use Rattle.std.specs.declared.result.Result.{Result}
use Rattle.std.specs.declared.result.Result.TheVariants.{Ok, Err}
use Rattle.std.proofs.lemmas.List.{length-map}
use Rattle.std.proofs.lemmas.Option.{none-some, same_Some}
use Rattle.wasm_spec.specs.Syntax.{Rec, map_rec}
use Rattle.wasm_spec.specs.Features.{Features, canonical}
use Rattle.wasm_spec.specs.Trees.{DefType}
use Rattle.wasm_spec.specs.Closing.{is_closable}
use Rattle.wasm_readers_errors.specs.declared.error.Error.{Error}
use Rattle.wasm_readers_errors.specs.declared.error.Error.TheVariants.{Refused, OutOfMemory}
use Rattle.wasm_readers_types.specs.WasmReadersValues.declared.indices.UnpackedIndex.{UnpackedIndex}
use Rattle.wasm_readers_types.specs.WasmReadersValues.declared.indices.CoreTypeId.{CoreTypeId}
use Rattle.wasm_readers_types.specs.declared.types.RecGroup.{RecGroup}
use Rattle.wasm_readers_types.specs.declared.types.SubType.{SubType}
use Rattle.wasm_readers_types.specs.SeenTypes.{sub_of, rec_of}
use Rattle.wasm_validator_type_list.specs.WasmValidatorTypeGroups.declared.elements.RecGroupElements.{RecGroupElements}
use Rattle.wasm_validator_type_list.specs.WasmValidatorTypeGroups.Elements.{ids_left}
use Rattle.wasm_validator_type_list.specs.ListViews.{Listing}
use Rattle.wasm_validator_type_list.specs.DefTypes.{def_types}
use Rattle.wasm_validator_canonical.specs.Answers.{AddsNothing, AddsIds, Denies}
use Rattle.wasm_validator_canonical.specs.Groups.{closes, types_at, AreValid, with_written}
use Rattle.wasm_validator_canonical.specs.Indices.{numbers, canonical_group, is_written_sub, number_in}
use Rattle.wasm_validator_canonical.specs.GroupInterning.{InternsUnder, InternsNone, InternsValid}
use Rattle.wasm_validator_canonical.proofs.CanonicalTypes.{and_left, and_right}
use Rattle.wasm_validator_canonical.proofs.NewIds.{numbers_below}
use Rattle.wasm_validator_canonical.proofs.WrittenGroups.{written_added, written_none}

module _ {A : Type 0} (F : Features) (ids : List ℕ) (w : Rec UnpackedIndex) (closing : closes F (length ids) w ≡ true) where
  closing_added : (old new : Listing A) (g : List (SubType A)) (more : List ℕ) → old.is_canonical ≡ canonical F → new.is_canonical ≡ old.is_canonical
      → All (λ i. i < length (def_types old.is_canonical old.groups)) ids → map sub_of g ≡ canonical_group ids w.types → InternsUnder old new g more
      → with_written F (def_types old.is_canonical old.groups) ids w ≡ Some (def_types new.is_canonical new.groups, ids ++ more)
  closing_added old new g more mode same below e i =
      let known : All (λ id. id < length (def_types (canonical F) old.groups)) ids = subst (λ c. All (λ id. id < length (def_types c old.groups)) ids) mode below in
      let closable : is_closable F (length (types_at (def_types (canonical F) old.groups) ids)) (map_rec number_in w) ≡ true = ap (λ n. is_closable F n (map_rec number_in w)) (length-map ids _) ∙ and_right (list_all is_written_sub w.types) (is_closable F (length ids) (map_rec number_in w)) closing in
      ap (λ c. with_written F (def_types c old.groups) ids w) mode
      ∙ written_added F old new ids w g i.is_new i.group (sym mode) known (and_left (list_all is_written_sub w.types) (is_closable F (length ids) (map_rec number_in w)) closing) i.room closable e i.interned i.types i.once
      ∙ (λ j. Some (def_types (sym (same ∙ mode) j) new.groups, ids ++ sym i.are_ids j))

  -- a new group for which there are no ids
  closing_none : (old : Listing A) (g : List (SubType A)) → old.is_canonical ≡ canonical F → All (λ i. i < length (def_types old.is_canonical old.groups)) ids → map sub_of g ≡ canonical_group ids w.types
      → InternsNone old g → with_written F (def_types old.is_canonical old.groups) ids w ≡ None
  closing_none old g mode below e i =
      let known : All (λ id. id < length (def_types (canonical F) old.groups)) ids = subst (λ c. All (λ id. id < length (def_types c old.groups)) ids) mode below in
      let closable : is_closable F (length (types_at (def_types (canonical F) old.groups) ids)) (map_rec number_in w) ≡ true = ap (λ n. is_closable F n (map_rec number_in w)) (length-map ids _) ∙ and_right (list_all is_written_sub w.types) (is_closable F (length ids) (map_rec number_in w)) closing in
      ap (λ c. with_written F (def_types c old.groups) ids w) mode
      ∙ written_none F old old ids w g true 0 (sym mode) known (and_left (list_all is_written_sub w.types) (is_closable F (length ids) (map_rec number_in w)) closing) closable e i.once (i.full).over

  -- the answer of interning
  adds_by : (old new : Listing A) (g : List (SubType A)) (r : Result RecGroupElements Error) → old.is_canonical ≡ canonical F → new.is_canonical ≡ old.is_canonical
      → All (λ i. i < length (def_types old.is_canonical old.groups)) ids → map sub_of g ≡ canonical_group ids w.types → InternsValid F r old new g
      → AddsIds F r (with_written F (def_types old.is_canonical old.groups) ids w) (def_types new.is_canonical new.groups) ids
  adds_by old new g (Ok e) mode same below value i = closing_added old new g (ids_left e) mode same below value i.0
  adds_by old new g (Err (Refused r)) mode same below value (inl i) = λ q e v. none-some q (sym (closing_none old g mode below value i) ∙ e)
  adds_by old new g (Err (Refused r)) mode same below value (inr x) =
      λ q e v. x.invalid (subst (λ (p : List DefType × List ℕ). AreValid F p.0) (sym (same_Some _ q (sym (closing_added old new g x.ids mode same below value x.interned) ∙ e))) v)
  adds_by old new g (Err OutOfMemory) mode same below value i = tt

-- the same of sub types that were made of a group that a module writes
pub adds_canonical : {A : Type 0} (F : Features) (ids : List CoreTypeId) (group : RecGroup A) (old new : Listing A) (g made : List (SubType A)) (r : Result RecGroupElements Error) → closes F (length ids) (rec_of group) ≡ true
    → old.is_canonical ≡ canonical F → new.is_canonical ≡ old.is_canonical → All (λ (id : CoreTypeId). id.index < length (def_types old.is_canonical old.groups)) ids
    → g ≡ made → map sub_of made ≡ canonical_group (numbers ids) (rec_of group).types → InternsValid F r old new g
    → AddsIds F r (with_written F (def_types old.is_canonical old.groups) (numbers ids) (rec_of group)) (def_types new.is_canonical new.groups) (numbers ids)
adds_canonical F ids group old new g made r closing mode same_mode known same value i =
    let w = rec_of group in
    adds_by F (numbers ids) w (ap (λ n. closes F n w) (length-map ids _) ∙ closing) old new g r mode same_mode (numbers_below (length (def_types old.is_canonical old.groups)) ids known)
    (ap (map sub_of) same ∙ value) i

-- the types of a list of the same mode and groups
pub same_standing : {A : Type 0} (mid new : Listing A) → new.is_canonical ≡ mid.is_canonical → new.groups ≡ mid.groups → def_types mid.is_canonical mid.groups ≡ def_types new.is_canonical new.groups
same_standing mid new mode groups = λ j. def_types (sym mode j) (sym groups j)

-- what can't be added
pub none_added : (F : Features) (next : Option (List DefType × List ℕ)) → next ≡ None → (q : List DefType × List ℕ) → next ≡ Some q → AreValid F q.0 → ⊥
none_added F next h q e v = none-some q (sym h ∙ e)

nothing_added : (F : Features) (e : Error) (next : Option (List DefType × List ℕ)) → next ≡ None → AddsNothing F e next
nothing_added F (Refused r) next h = none_added F next h
nothing_added F OutOfMemory next h = tt

-- a refusal of a part, as one of the whole
pub denies_adds : (F : Features) (e : Error) (b : Bool) (next : Option (List DefType × List ℕ)) → (b ≡ false → next ≡ None) → Denies e b → AddsNothing F e next
denies_adds F (Refused r) b next f h = nothing_added F (Refused r) next (f h)
denies_adds F OutOfMemory b next f h = tt
