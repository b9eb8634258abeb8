-- The rules of a type hold exactly where they hold of what it is renamed to.
use Rattle.std.proofs.Common.{◌≡◌, refl, sym, ap, subst, ◌∙◌, ◌↔◌, ℕ, zero, suc, false, List, [], ◌∷◌, ◌++◌, map, slice_get, Option, Some, None, is_some, IsTrue, IfSome, All}
use Rattle.std.specs.List.{list_all}
use Rattle.std.specs.Option.{option_map, option_and_then}
use Rattle.std.proofs.lemmas.List.Elements.{All-head}
use Rattle.std.proofs.lemmas.Option.{none-some, same_Some, option_and_then_some}
use Rattle.wasm_spec.specs.Syntax.{Val, map_val, Sub, map_sub}
use Rattle.wasm_spec.specs.References.{refs_option, refs_val, refs_comp, refs_sub}
use Rattle.wasm_spec.specs.Features.{Features}
use Rattle.wasm_spec.specs.SupertypeOrder.{supertype, supertype_of, descriptor_of, described_by, ancestor_at, IsAncestor}
use Rattle.wasm_spec.specs.ValueTypes.{implies}
use Rattle.wasm_spec.specs.Matching.{MatchesVal, MatchesSub, is_shared_storage}
use Rattle.wasm_spec.specs.GroupRules.{storages, OfSupertype, TypeRules, DescriptorRules, IsValidType}
use Rattle.wasm_validator_type_list.proofs.GroupMatching.{all-left, all-right}
use Rattle.wasm_validator_type_checks.specs.Rules.{CompositeRules}
use Rattle.wasm_validator_type_checks.proofs.RuleTests.{is_some_map}
use Rattle.wasm_validator_type_checks.proofs.AllowedComposites.{comp_allowed}
use Rattle.wasm_validator_type_checks.proofs.Rules.{composite_rules, composite_allowed, shared_allowed, members_shared, extending_kept, clauses_kept, joined_rules, extending_from, composite_from, shallow_from, allowed_clauses, clauses_allowed}
use Rattle.wasm_validator_type_checks.proofs.RuleRenamings.{sub_match, comp_shared, continuation_match}

module _ {S : Type 0} (D : ℕ → Option (Sub ℕ)) (E : S → Option (Sub S)) (at : ℕ → S) (IsHere : ℕ → Type 0)
    (same : (i : ℕ) → IsHere i → E (at i) ≡ option_map (map_sub at) (D i))
    (vals : (v w : Val ℕ) → All IsHere (refs_val v) → All IsHere (refs_val w) → MatchesVal D v w ↔ MatchesVal E (map_val at v) (map_val at w))
    (ordered : (a b : ℕ) → IsHere a → IsHere b → IsAncestor D a b ↔ IsAncestor E (at a) (at b))
    (apart : (i j : ℕ) → IsHere i → IsHere j → at i ≡ at j → i ≡ j)
    (inside : (i : ℕ) (s : Sub ℕ) → D i ≡ Some s → All IsHere (refs_sub s)) where
  -- what a type refers to is here
  behind_supers : (i : ℕ) (s : Sub ℕ) → D i ≡ Some s → All IsHere (refs_option s.describes ++ (refs_option s.descriptor ++ refs_comp s.comp))
  behind_supers i s e = all-right IsHere s.supers (refs_option s.describes ++ (refs_option s.descriptor ++ refs_comp s.comp)) (inside i s e)

  comp_here : (i : ℕ) (s : Sub ℕ) → D i ≡ Some s → All IsHere (refs_comp s.comp)
  comp_here i s e = all-right IsHere (refs_option s.descriptor) (refs_comp s.comp) (all-right IsHere (refs_option s.describes) (refs_option s.descriptor ++ refs_comp s.comp) (behind_supers i s e))

  first_here : (rs : List ℕ) (b : ℕ) → All IsHere rs → slice_get rs 0 ≡ Some b → IsHere b
  first_here [] b h e = absurd (none-some b e)
  first_here (r ∷ rs) b h e = subst IsHere (same_Some r b e) (All-head IsHere r rs h)

  option_here : (o : Option ℕ) (d : ℕ) → All IsHere (refs_option o) → o ≡ Some d → IsHere d
  option_here None d h e = absurd (none-some d e)
  option_here (Some x) d h e = subst IsHere (same_Some x d e) (All-head IsHere x [] h)

  super_here : (i : ℕ) (s : Sub ℕ) → D i ≡ Some s → (b : ℕ) → supertype s ≡ Some b → IsHere b
  super_here i s e b f = first_here s.supers b (all-left IsHere s.supers (refs_option s.describes ++ (refs_option s.descriptor ++ refs_comp s.comp)) (inside i s e)) f

  descriptor_here : (i : ℕ) (s : Sub ℕ) → D i ≡ Some s → (d : ℕ) → s.descriptor ≡ Some d → IsHere d
  descriptor_here i s e d f = option_here s.descriptor d (all-left IsHere (refs_option s.descriptor) (refs_comp s.comp) (all-right IsHere (refs_option s.describes) (refs_option s.descriptor ++ refs_comp s.comp) (behind_supers i s e))) f

  describes_here : (i : ℕ) (s : Sub ℕ) → D i ≡ Some s → (d : ℕ) → s.describes ≡ Some d → IsHere d
  describes_here i s e d f = option_here s.describes d (all-left IsHere (refs_option s.describes) (refs_option s.descriptor ++ refs_comp s.comp) (behind_supers i s e)) f

  -- where links lead
  first_renamed : (rs : List ℕ) → slice_get (map at rs) 0 ≡ option_map at (slice_get rs 0)
  first_renamed [] = refl
  first_renamed (r ∷ rs) = refl

  supertype_renamed : (o : Option (Sub ℕ)) → option_and_then supertype (option_map (map_sub at) o) ≡ option_map at (option_and_then supertype o)
  supertype_renamed None = refl
  supertype_renamed (Some s) = first_renamed s.supers

  descriptor_renamed : (o : Option (Sub ℕ)) → option_and_then (λ (t : Sub S). t.descriptor) (option_map (map_sub at) o) ≡ option_map at (option_and_then (λ (t : Sub ℕ). t.descriptor) o)
  descriptor_renamed None = refl
  descriptor_renamed (Some s) = refl

  described_renamed : (o : Option (Sub ℕ)) → option_and_then (λ (t : Sub S). t.describes) (option_map (map_sub at) o) ≡ option_map at (option_and_then (λ (t : Sub ℕ). t.describes) o)
  described_renamed None = refl
  described_renamed (Some s) = refl

  supertype_at : (i : ℕ) → IsHere i → supertype_of E (at i) ≡ option_map at (supertype_of D i)
  supertype_at i h = ap (option_and_then supertype) (same i h) ∙ supertype_renamed (D i)

  descriptor_at : (i : ℕ) → IsHere i → descriptor_of E (at i) ≡ option_map at (descriptor_of D i)
  descriptor_at i h = ap (option_and_then (λ (t : Sub S). t.descriptor)) (same i h) ∙ descriptor_renamed (D i)

  described_at : (i : ℕ) → IsHere i → described_by E (at i) ≡ option_map at (described_by D i)
  described_at i h = ap (option_and_then (λ (t : Sub S). t.describes)) (same i h) ∙ described_renamed (D i)

  supertype_of_here : (i : ℕ) (b : ℕ) → supertype_of D i ≡ Some b → IsHere b
  supertype_of_here i b e = option_and_then_some supertype (D i) b e (λ s f g. super_here i s f b g)

  descriptor_of_here : (i : ℕ) (b : ℕ) → descriptor_of D i ≡ Some b → IsHere b
  descriptor_of_here i b e = option_and_then_some (λ (t : Sub ℕ). t.descriptor) (D i) b e (λ s f g. descriptor_here i s f b g)

  described_by_here : (i : ℕ) (b : ℕ) → described_by D i ≡ Some b → IsHere b
  described_by_here i b e = option_and_then_some (λ (t : Sub ℕ). t.describes) (D i) b e (λ s f g. describes_here i s f b g)

  next_at : (n : ℕ) (o : Option ℕ) → ((y : ℕ) → o ≡ Some y → IsHere y) → ((y : ℕ) → IsHere y → ancestor_at E n (at y) ≡ option_map at (ancestor_at D n y))
      → option_and_then (ancestor_at E n) (option_map at o) ≡ option_map at (option_and_then (ancestor_at D n) o)
  next_at n None h k = refl
  next_at n (Some y) h k = k y (h y refl)

  ancestors_at : (n i : ℕ) → IsHere i → ancestor_at E n (at i) ≡ option_map at (ancestor_at D n i)
  ancestors_at zero i h = refl
  ancestors_at (suc n) i h =
      ap (option_and_then (ancestor_at E n)) (supertype_at i h)
      ∙ next_at n (supertype_of D i) (λ y e. supertype_of_here i y e) (λ y k. ancestors_at n y k)

  -- what is renamed to nothing, and to one thing
  none_back : (o : Option ℕ) → option_map at o ≡ None → o ≡ None
  none_back None e = refl
  none_back (Some x) e = absurd (none-some (at x) (sym e))

  option_apart : (x y : Option ℕ) → ((i : ℕ) → x ≡ Some i → IsHere i) → ((i : ℕ) → y ≡ Some i → IsHere i) → option_map at x ≡ option_map at y → x ≡ y
  option_apart None None h k e = refl
  option_apart None (Some j) h k e = absurd (none-some (at j) e)
  option_apart (Some i) None h k e = absurd (none-some (at i) (sym e))
  option_apart (Some i) (Some j) h k e = ap Some (apart i j (h i refl) (k j refl) (same_Some (at i) (at j) e))

  -- what holds of what is there
  module _ (P : ℕ → Type 0) (Q : S → Type 0) where
    led_to : (o : Option ℕ) → ((d : ℕ) → o ≡ Some d → P d → Q (at d)) → IfSome o P → IfSome (option_map at o) Q
    led_to None f h = tt
    led_to (Some d) f h = f d refl h

    led_from : (o : Option ℕ) → ((d : ℕ) → o ≡ Some d → Q (at d) → P d) → IfSome (option_map at o) Q → IfSome o P
    led_from None f h = tt
    led_from (Some d) f h = f d refl h

  module _ (P : Sub ℕ → Type 0) (Q : Sub S → Type 0) where
    some_to : (o : Option (Sub ℕ)) → ((t : Sub ℕ) → o ≡ Some t → P t → Q (map_sub at t)) → IfSome o P → IfSome (option_map (map_sub at) o) Q
    some_to None f h = tt
    some_to (Some t) f h = f t refl h

    some_from : (o : Option (Sub ℕ)) → ((t : Sub ℕ) → o ≡ Some t → Q (map_sub at t) → P t) → IfSome (option_map (map_sub at) o) Q → IfSome o P
    some_from None f h = tt
    some_from (Some t) f h = f t refl h

    declared_to : (i : ℕ) → IsHere i → ((t : Sub ℕ) → D i ≡ Some t → P t → Q (map_sub at t)) → IfSome (D i) P → IfSome (E (at i)) Q
    declared_to i h f p = subst (λ u. IfSome u Q) (sym (same i h)) (some_to (D i) f p)

    declared_from : (i : ℕ) → IsHere i → ((t : Sub ℕ) → D i ≡ Some t → Q (map_sub at t) → P t) → IfSome (E (at i)) Q → IfSome (D i) P
    declared_from i h f q = some_from (D i) f (subst (λ u. IfSome u Q) (same i h) q)

    over_to : (o : Option ℕ) → ((b : ℕ) → o ≡ Some b → IsHere b) → ((b : ℕ) (t : Sub ℕ) → D b ≡ Some t → P t → Q (map_sub at t)) → IfSome (option_and_then D o) P → IfSome (option_and_then E (option_map at o)) Q
    over_to None k f h = tt
    over_to (Some b) k f h = declared_to b (k b refl) (f b) h

    over_from : (o : Option ℕ) → ((b : ℕ) → o ≡ Some b → IsHere b) → ((b : ℕ) (t : Sub ℕ) → D b ≡ Some t → Q (map_sub at t) → P t) → IfSome (option_and_then E (option_map at o)) Q → IfSome (option_and_then D o) P
    over_from None k f h = tt
    over_from (Some b) k f h = declared_from b (k b refl) (f b) h

    super_to : (i : ℕ) (s : Sub ℕ) → D i ≡ Some s → ((b : ℕ) (t : Sub ℕ) → D b ≡ Some t → P t → Q (map_sub at t)) → OfSupertype D s P → OfSupertype E (map_sub at s) Q
    super_to i s e f h = subst (λ o. IfSome (option_and_then E o) Q) (sym (first_renamed s.supers)) (over_to (supertype s) (super_here i s e) f h)

    super_from : (i : ℕ) (s : Sub ℕ) → D i ≡ Some s → ((b : ℕ) (t : Sub ℕ) → D b ≡ Some t → Q (map_sub at t) → P t) → OfSupertype E (map_sub at s) Q → OfSupertype D s P
    super_from i s e f h = over_from (supertype s) (super_here i s e) f (subst (λ o. IfSome (option_and_then E o) Q) (first_renamed s.supers) h)

  module _ (F : Features) (i : ℕ) (s : Sub ℕ) (here : IsHere i) (e : D i ≡ Some s) where
    abbrev r : Sub S
    r = map_sub at s

    -- the rules of the composite type
    shared_is : list_all (is_shared_storage E) (storages r.comp) ≡ list_all (is_shared_storage D) (storages s.comp)
    shared_is = comp_shared D E at IsHere same vals ordered s.comp (comp_here i s e)

    composite_to : CompositeRules F D s → CompositeRules F E r
    composite_to h = composite_rules F E r (shared_allowed F D s h) (comp_allowed at F s.comp ∙ composite_allowed F D s h)
        (ap (implies s.shared) shared_is ∙ members_shared F D s h) ((continuation_match D E at IsHere same vals ordered s.comp (comp_here i s e)).0 h.continuation_is_of_function)

    composite_back : CompositeRules F E r → CompositeRules F D s
    composite_back h = composite_rules F D s (shared_allowed F E r h) (sym (comp_allowed at F s.comp) ∙ composite_allowed F E r h)
        (sym (ap (implies s.shared) shared_is) ∙ members_shared F E r h) ((continuation_match D E at IsHere same vals ordered s.comp (comp_here i s e)).1 h.continuation_is_of_function)

    -- the rules of a type
    pub type_to : TypeRules F D i s → TypeRules F E (at i) r
    type_to h = joined_rules F E (at i) r (extending_kept at F s ∙ extending_from F D i s h)
        (super_to (λ t. t.is_final ≡ false) (λ t. t.is_final ≡ false) i s e (λ b t f p. p) h.supertype_is_not_final)
        (super_to (MatchesSub D s) (MatchesSub E r) i s e (λ b t f p. (sub_match D E at IsHere same vals ordered s t (comp_here i s e) (comp_here b t f)).0 p) h.matches_supertype)
        (λ m g. ancestors_at m i here ∙ ap (option_map at) (shallow_from F D i s h m g))
        (composite_to (composite_from F D i s h))

    pub type_back : TypeRules F E (at i) r → TypeRules F D i s
    type_back h = joined_rules F D i s (sym (extending_kept at F s) ∙ extending_from F E (at i) r h)
        (super_from (λ t. t.is_final ≡ false) (λ t. t.is_final ≡ false) i s e (λ b t f p. p) h.supertype_is_not_final)
        (super_from (MatchesSub D s) (MatchesSub E r) i s e (λ b t f p. (sub_match D E at IsHere same vals ordered s t (comp_here i s e) (comp_here b t f)).1 p) h.matches_supertype)
        (λ m g. none_back (ancestor_at D m i) (sym (ancestors_at m i here) ∙ shallow_from F E (at i) r h m g))
        (composite_back (composite_from F E (at i) r h))

    -- the rules of descriptor clauses
    pub descriptor_to : DescriptorRules F D i s → DescriptorRules F E (at i) r
    descriptor_to h =
        let c = allowed_clauses F r (clauses_kept at F s ∙ clauses_allowed F s D i h) in
        record {
          clauses_need_custom_descriptors = c.0;
          descriptor_is_of_struct = c.1;
          describes_is_of_struct = c.2;
          with_descriptor_supertype_has_one = λ k. super_to (λ t. IsTrue (is_some t.descriptor)) (λ t. IsTrue (is_some t.descriptor)) i s e (λ b t f p. is_some_map at t.descriptor ∙ p) (h.with_descriptor_supertype_has_one (sym (is_some_map at s.descriptor) ∙ k));
          without_descriptor_supertype_has_none = λ k. super_to (λ t. t.descriptor ≡ None) (λ t. t.descriptor ≡ None) i s e (λ b t f p. ap (option_map at) p) (h.without_descriptor_supertype_has_none (none_back s.descriptor k));
          supertype_of_descriptor = led_to (λ d. OfSupertype D s (λ t. supertype_of D d ≡ t.descriptor)) (λ d. OfSupertype E r (λ t. supertype_of E d ≡ t.descriptor)) s.descriptor
              (λ d f p. super_to (λ t. supertype_of D d ≡ t.descriptor) (λ t. supertype_of E (at d) ≡ t.descriptor) i s e (λ b t g q. supertype_at d (descriptor_here i s e d f) ∙ ap (option_map at) q) p)
              h.supertype_of_descriptor;
          supertype_of_described = led_to (λ d. OfSupertype D s (λ t. supertype_of D d ≡ t.describes)) (λ d. OfSupertype E r (λ t. supertype_of E d ≡ t.describes)) s.describes
              (λ d f p. super_to (λ t. supertype_of D d ≡ t.describes) (λ t. supertype_of E (at d) ≡ t.describes) i s e (λ b t g q. supertype_at d (describes_here i s e d f) ∙ ap (option_map at) q) p)
              h.supertype_of_described;
          without_describes_supertype_has_none = λ k. super_to (λ t. t.describes ≡ None) (λ t. t.describes ≡ None) i s e (λ b t f p. ap (option_map at) p) (h.without_describes_supertype_has_none (none_back s.describes k));
          with_describes_supertype_has_one = λ k. super_to (λ t. IsTrue (is_some t.describes)) (λ t. IsTrue (is_some t.describes)) i s e (λ b t f p. is_some_map at t.describes ∙ p) (h.with_describes_supertype_has_one (sym (is_some_map at s.describes) ∙ k));
          descriptor_describes_this = led_to (λ d. described_by D d ≡ Some i) (λ d. described_by E d ≡ Some (at i)) s.descriptor (λ d f p. described_at d (descriptor_here i s e d f) ∙ ap (option_map at) p) h.descriptor_describes_this;
          described_has_this_descriptor = led_to (λ d. descriptor_of D d ≡ Some i) (λ d. descriptor_of E d ≡ Some (at i)) s.describes (λ d f p. descriptor_at d (describes_here i s e d f) ∙ ap (option_map at) p) h.described_has_this_descriptor;
          same_finality = led_to (λ d. IfSome (D d) (λ t. t.is_final ≡ s.is_final)) (λ d. IfSome (E d) (λ t. t.is_final ≡ s.is_final)) s.descriptor
              (λ d f p. declared_to (λ t. t.is_final ≡ s.is_final) (λ t. t.is_final ≡ s.is_final) d (descriptor_here i s e d f) (λ t g q. q) p) h.same_finality;
        }

    only_this : (b : ℕ) → Some i ≡ Some b → IsHere b
    only_this b f = subst IsHere (same_Some i b f) here

    pub descriptor_back : DescriptorRules F E (at i) r → DescriptorRules F D i s
    descriptor_back h =
        let c = allowed_clauses F s (sym (clauses_kept at F s) ∙ clauses_allowed F r E (at i) h) in
        record {
          clauses_need_custom_descriptors = c.0;
          descriptor_is_of_struct = c.1;
          describes_is_of_struct = c.2;
          with_descriptor_supertype_has_one = λ k. super_from (λ t. IsTrue (is_some t.descriptor)) (λ t. IsTrue (is_some t.descriptor)) i s e (λ b t f p. sym (is_some_map at t.descriptor) ∙ p) (h.with_descriptor_supertype_has_one (is_some_map at s.descriptor ∙ k));
          without_descriptor_supertype_has_none = λ k. super_from (λ t. t.descriptor ≡ None) (λ t. t.descriptor ≡ None) i s e (λ b t f p. none_back t.descriptor p) (h.without_descriptor_supertype_has_none (ap (option_map at) k));
          supertype_of_descriptor = led_from (λ d. OfSupertype D s (λ t. supertype_of D d ≡ t.descriptor)) (λ d. OfSupertype E r (λ t. supertype_of E d ≡ t.descriptor)) s.descriptor
              (λ d f p. super_from (λ t. supertype_of D d ≡ t.descriptor) (λ t. supertype_of E (at d) ≡ t.descriptor) i s e
              (λ b t g q. option_apart (supertype_of D d) t.descriptor (supertype_of_here d) (descriptor_here b t g) (sym (supertype_at d (descriptor_here i s e d f)) ∙ q)) p)
              h.supertype_of_descriptor;
          supertype_of_described = led_from (λ d. OfSupertype D s (λ t. supertype_of D d ≡ t.describes)) (λ d. OfSupertype E r (λ t. supertype_of E d ≡ t.describes)) s.describes
              (λ d f p. super_from (λ t. supertype_of D d ≡ t.describes) (λ t. supertype_of E (at d) ≡ t.describes) i s e
              (λ b t g q. option_apart (supertype_of D d) t.describes (supertype_of_here d) (describes_here b t g) (sym (supertype_at d (describes_here i s e d f)) ∙ q)) p)
              h.supertype_of_described;
          without_describes_supertype_has_none = λ k. super_from (λ t. t.describes ≡ None) (λ t. t.describes ≡ None) i s e (λ b t f p. none_back t.describes p) (h.without_describes_supertype_has_none (ap (option_map at) k));
          with_describes_supertype_has_one = λ k. super_from (λ t. IsTrue (is_some t.describes)) (λ t. IsTrue (is_some t.describes)) i s e (λ b t f p. sym (is_some_map at t.describes) ∙ p) (h.with_describes_supertype_has_one (is_some_map at s.describes ∙ k));
          descriptor_describes_this = led_from (λ d. described_by D d ≡ Some i) (λ d. described_by E d ≡ Some (at i)) s.descriptor
              (λ d f p. option_apart (described_by D d) (Some i) (described_by_here d) only_this (sym (described_at d (descriptor_here i s e d f)) ∙ p)) h.descriptor_describes_this;
          described_has_this_descriptor = led_from (λ d. descriptor_of D d ≡ Some i) (λ d. descriptor_of E d ≡ Some (at i)) s.describes
              (λ d f p. option_apart (descriptor_of D d) (Some i) (descriptor_of_here d) only_this (sym (descriptor_at d (describes_here i s e d f)) ∙ p)) h.described_has_this_descriptor;
          same_finality = led_from (λ d. IfSome (D d) (λ t. t.is_final ≡ s.is_final)) (λ d. IfSome (E d) (λ t. t.is_final ≡ s.is_final)) s.descriptor
              (λ d f p. declared_from (λ t. t.is_final ≡ s.is_final) (λ t. t.is_final ≡ s.is_final) d (descriptor_here i s e d f) (λ t g q. q) p) h.same_finality;
        }

  -- and valid types are those that are renamed to valid ones
  back_to : (F : Features) (i : ℕ) → IsHere i → (o : Option (Sub ℕ)) → D i ≡ o → (t : Sub S) → option_map (map_sub at) o ≡ Some t → TypeRules F E (at i) t → DescriptorRules F E (at i) t → IsValidType F D i
  back_to F i h None e t f p q = absurd (none-some t f)
  back_to F i h (Some s) e t f p q =
      let g = same_Some (map_sub at s) t f in
      record {
        sub = s;
        declares = e;
        rules = type_back F i s h e (subst (TypeRules F E (at i)) (sym g) p);
        descriptor_rules = descriptor_back F i s h e (subst (DescriptorRules F E (at i)) (sym g) q);
      }

  pub valid_match : (F : Features) (i : ℕ) → IsHere i → IsValidType F D i ↔ IsValidType F E (at i)
  valid_match F i h = (
    (λ v. record {
      sub = map_sub at v.sub;
      declares = same i h ∙ ap (option_map (map_sub at)) v.declares;
      rules = type_to F i v.sub h v.declares v.rules;
      descriptor_rules = descriptor_to F i v.sub h v.declares v.descriptor_rules;
    }),
    (λ v. back_to F i h (D i) refl v.sub (sym (same i h) ∙ v.declares) v.rules v.descriptor_rules),
  )
