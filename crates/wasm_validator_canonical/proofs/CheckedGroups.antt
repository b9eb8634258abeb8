-- The types of a list in which a group was interned, where the group's types were checked.
use Rattle.std.proofs.Common.{◌≡◌, refl, inl, sym, ap, subst, ◌∙◌, ℕ, ◌+◌, Bool, true, false, List, [], ◌∷◌, ◌++◌, length, slice_get, arith, length-append}
use Rattle.std.specs.Bool.{Decides}
use Rattle.std.specs.declared.result.Result.{Result}
use Rattle.std.specs.declared.result.Result.TheVariants as results
use Rattle.std.proofs.lemmas.Bool.Decides.{not_from_Decides}
use Rattle.std.proofs.lemmas.List.{length-map}
use Rattle.std.proofs.lemmas.List.Elements.{All-append}
use Rattle.std.proofs.lemmas.Option.{slice_get_within}
use Rattle.wasm_spec.specs.Features.{Features}
use Rattle.wasm_spec.specs.Trees.{declared}
use Rattle.wasm_spec.specs.Closing.{positions}
use Rattle.wasm_spec.specs.GroupRules.{IsValidType}
use Rattle.wasm_readers_errors.specs.declared.error.Error.{Error}
use Rattle.wasm_readers_errors.specs.declared.error.Error.TheVariants.{Refused, OutOfMemory}
use Rattle.wasm_readers_types.specs.declared.types.SubType.{SubType}
use Rattle.wasm_validator_type_list.specs.WasmValidatorTypeGroups.declared.group_id.RecGroupId.{RecGroupId}
use Rattle.wasm_validator_type_list.specs.GroupInterning.{AreOnce, Interns}
use Rattle.wasm_validator_type_list.specs.GroupOrder.{AreListable, IsListable}
use Rattle.wasm_validator_type_list.specs.ListViews.{Listing, types_in}
use Rattle.wasm_validator_type_list.specs.ListRefusals.{RefusesTooMany}
use Rattle.wasm_validator_type_list.specs.DefTypes.{def_types, tree_behind, listed_group, listed_sub}
use Rattle.wasm_validator_type_list.proofs.WasmValidatorTypeGroups.FlatGroups.{first_of-stays, first_of-all}
use Rattle.wasm_validator_type_list.proofs.WasmValidatorTypeGroups.Places.{get-end, get-right}
use Rattle.wasm_validator_type_list.proofs.TypePlaces.{once_in}
use Rattle.wasm_validator_type_list.proofs.DistinctGroups.{once-push}
use Rattle.wasm_validator_type_list.proofs.DefTypes.{def_types-push, length-def_types, first_of-within}
use Rattle.wasm_validator_type_checks.specs.Rules.{IsValidGroupAt}
use Rattle.wasm_validator_type_checks.proofs.IdsAndTypes.{ids_keep_rules_as_types}
use Rattle.wasm_validator_canonical.specs.Groups.{AreValid}
use Rattle.wasm_validator_canonical.specs.GroupInterning.{InternsValid}
use Rattle.wasm_validator_canonical.proofs.InternedIds.{first_of_next}
use Rattle.wasm_validator_canonical.proofs.Lists.{all_from, all_at, some_at}
use Rattle.wasm_spec.proofs.AcceptedSections.{length-positions}

-- a refusal, as the answer of interning
abbrev pub too_many : Error → Result (Bool × RecGroupId) Error
too_many e = results.Err e

module _ {A : Type 0} (F : Features) where
  -- the types of each group of a list of valid types keep the rules
  pub group_valid : (c : Bool) (gs : List (List (SubType A))) (n : ℕ) → AreListable gs → (c ≡ true → AreOnce gs) → AreValid F (def_types c gs) → IsValidGroupAt F gs n
  group_valid c gs n listable once v id i =
      let below = i.below in
      let within = first_of-within gs (n + 1) in
      let many = length-def_types c gs in
      let d = some_at (def_types c gs) id (omega (arith, below, within, many)) in
      (ids_keep_rules_as_types F c gs listable (once_in c gs once) id d.0 d.1).1 (all_at (IsValidType F declared) (def_types c gs) v id d.0 d.1)

  -- and a group whose types keep the rules adds valid types
  valid_more : (c : Bool) (gs : List (List (SubType A))) (g : List (SubType A)) → AreListable (gs ++ g ∷ []) → (c ≡ true → AreOnce (gs ++ g ∷ [])) → AreValid F (def_types c gs) → IsValidGroupAt F (gs ++ g ∷ []) (length gs) → AreValid F (def_types c (gs ++ g ∷ []))
  valid_more c gs g listable once v here =
      let us = def_types c gs in
      let new = positions (tree_behind c gs g) 0 (listed_group g) in
      let push = def_types-push c gs g in
      let first = first_of-stays gs (g ∷ []) (length gs) (omega arith) ∙ first_of-all gs in
      let next = first_of_next (gs ++ g ∷ []) (length gs) g (get-end gs g) in
      let many = length-def_types c gs in
      let there = length-append gs (g ∷ []) in
      subst (AreValid F) (sym push)
      (All-append (IsValidType F declared) us new v
      (all_from (IsValidType F declared) new
      (λ k d e.
      let l = slice_get_within new k d e in
      let count = length-positions (tree_behind c gs g) 0 (listed_group g) ∙ length-map g listed_sub in
      (ids_keep_rules_as_types F c (gs ++ g ∷ []) listable (once_in c (gs ++ g ∷ []) once) (length us + k) d (ap (λ ts. slice_get ts (length us + k)) push ∙ get-right us new k ∙ e)).0
      (here (length us + k) (record { there = omega (arith, there); from = omega (arith, first, many); below = omega (arith, first, next, many, l, count) })))))

  -- the answer of a check, of a group that is new
  checked_new : (old new : Listing A) (g : List (SubType A)) (n : ℕ) → new.is_canonical ≡ old.is_canonical → Interns old new g true n → AreListable new.groups → (old.is_canonical ≡ true → AreOnce new.groups)
      → AreValid F (def_types old.is_canonical old.groups) → IsValidGroupAt F new.groups n → AreValid F (def_types new.is_canonical new.groups)
  checked_new old new g n mode i listable once v here =
      let added : new.groups ≡ old.groups ++ g ∷ [] = ap (λ (l : Listing A). l.groups) (i.added refl) in
      subst (λ c. AreValid F (def_types c new.groups)) (sym mode)
      (subst (λ gs. AreValid F (def_types old.is_canonical gs)) (sym added)
      (valid_more old.is_canonical old.groups g (subst AreListable added listable) (λ e. subst AreOnce added (once e)) v
      (subst (λ k. IsValidGroupAt F (old.groups ++ g ∷ []) k) (i.last refl) (subst (λ gs. IsValidGroupAt F gs n) added here))))

  -- a group that is known
  checked_known : (old new : Listing A) (g : List (SubType A)) (n : ℕ) → Interns old new g false n → AreValid F (def_types old.is_canonical old.groups) → AreValid F (def_types new.is_canonical new.groups)
  checked_known old new g n i v = subst (λ (l : Listing A). AreValid F (def_types l.is_canonical l.groups)) (sym (i.known refl)) v

  -- both
  pub checked : (old new : Listing A) (g : List (SubType A)) (is_new : Bool) (n : ℕ) → new.is_canonical ≡ old.is_canonical → Interns old new g is_new n → AreListable new.groups → (old.is_canonical ≡ true → AreOnce new.groups)
      → AreValid F (def_types old.is_canonical old.groups) → (is_new ≡ true → IsValidGroupAt F new.groups n) → AreValid F (def_types new.is_canonical new.groups)
  checked old new g true n mode i listable once v here = checked_new old new g n mode i listable once v (here refl)
  checked old new g false n mode i listable once v here = checked_known old new g n i v

  -- a group that was refused is new, and its list isn't valid
  pub refused : (new : Listing A) (n : ℕ) (is_new answer : Bool) → AreListable new.groups → (new.is_canonical ≡ true → AreOnce new.groups)
      → (is_new ≡ true → Decides answer (IsValidGroupAt F new.groups n)) → (is_new ≡ false → answer ≡ true) → answer ≡ false → AreValid F (def_types new.is_canonical new.groups) → ⊥
  refused new n true answer listable once d k e v = not_from_Decides answer (d refl) e (group_valid new.is_canonical new.groups n listable once v)
  refused new n false answer listable once d k e v = absurd (let h : true ≡ false = sym (k refl) ∙ e in cc)

  -- a list that has no room for the group, or no memory
  pub nothing_interned : (old new : Listing A) (g : List (SubType A)) (offset : ℕ) (e : Error) → AreListable old.groups → (old.is_canonical ≡ true → AreOnce old.groups) → IsListable (length (types_in old)) g
      → RefusesTooMany (too_many e) old g offset → InternsValid F (results.Err e) old new g
  nothing_interned old new g offset (Refused r) all once next l = inl (record { full = l.0; once = λ h. once-push old.groups g all next (once h) (l.0.absent h) })
  nothing_interned old new g offset OutOfMemory all once next l = tt
