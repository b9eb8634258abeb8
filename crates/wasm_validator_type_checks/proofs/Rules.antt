-- The rules of a type, from their parts and back.
use Rattle.std.proofs.Common.{◌≡◌, refl, sym, ap, subst, ◌∙◌, ℕ, map, slice_get, Bool, true, false, not, ◌&&◌, ◌||◌, List, [], ◌∷◌, Option, Some, None, is_some, IsTrue, IfSome}
use Rattle.std.specs.List.{list_all}
use Rattle.std.specs.Option.{option_and_then}
use Rattle.std.proofs.lemmas.Option.{same_Some}
use Rattle.wasm_spec.specs.Syntax.{Sub, map_sub}
use Rattle.wasm_spec.specs.Features.{Features}
use Rattle.wasm_spec.specs.SupertypeOrder.{supertype, supertype_of, descriptor_of, described_by, ancestor_at}
use Rattle.wasm_spec.specs.ValueTypes.{implies, allows_storage}
use Rattle.wasm_spec.specs.CrateLimits.{is_limited}
use Rattle.wasm_spec.specs.Matching.{MatchesSub, is_shared_storage}
use Rattle.wasm_spec.specs.GroupRules.{storages, has_many_results, is_array, is_struct, is_cont, IsContinuationOfFunction, OfSupertype, TypeRules, DescriptorRules}
use Rattle.wasm_validator_type_list.specs.GroupTypes.{MatchesDeclared}
use Rattle.wasm_validator_resources.specs.AllowedComposites.{allows_form, proposals_allow, allows_comp}
use Rattle.wasm_validator_type_checks.specs.Rules.{Declares, CompositeRules, allows_extending, allows_clauses, HasSameFinality, HasDescriptorLike, DescribesLike, DescriptorDescribes, DescribedHasDescriptor, DescriptorHasSameFinality, IsShallow, MayExtend, ExtendsClauses}
use Rattle.wasm_validator_type_checks.proofs.AllowedComposites.{struct_map}
use Rattle.wasm_validator_type_checks.proofs.RuleTests.{implied, implies_from, both, both_from, is_some_map, nothing_there}

-- what is there, with what it is
found : {X : Type 0} (P : X → Type 0) (o : Option X) → ((x : X) → o ≡ Some x → P x) → IfSome o P
found P None h = tt
found P (Some x) h = h x refl

at_some : {X : Type 0} (P : X → Type 0) (o : Option X) (x : X) → o ≡ Some x → IfSome o P → P x
at_some P o x e h = subst (λ u. IfSome u P) e h

-- what is there exactly where something else is
alike : {X : Type 0} (x y : Option X) → (IsTrue (is_some x) → IsTrue (is_some y)) → (x ≡ None → y ≡ None) → is_some y ≡ is_some x
alike None y p q = ap is_some (q refl)
alike (Some u) y p q = p refl

-- what two declarations of one identity are
module _ {R : Type 0} (D : R → Option (Sub R)) (a : R) (s : Sub R) (e : D a ≡ Some s) where
  pub declares_rule : {P : Sub R → Type 0} → P s → Declares D a P
  declares_rule h = record { sub = s; declares = e; holds = h }

  pub rule_declared : {P : Sub R → Type 0} → Declares D a P → P s
  rule_declared {P} h = subst P (same_Some h.sub s (sym h.declares ∙ e)) h.holds

-- composite types
module _ {R : Type 0} (F : Features) (D : R → Option (Sub R)) (s : Sub R) where
  pub composite_rules :
      implies s.shared F.shared_everything_threads ≡ true → allows_comp F s.comp ≡ true → implies s.shared (list_all (is_shared_storage D) (storages s.comp)) ≡ true
      → IsContinuationOfFunction D s.comp → CompositeRules F D s
  composite_rules threads allowed members continuation =
      let c = s.comp in
      let whole = both (proposals_allow F c) (is_limited F c) allowed in
      let all = both (list_all (allows_storage F) (storages c)) (allows_form F c) whole.0 in
      let many = implies (has_many_results c) F.multi_value in
      let arrays = implies (is_array c) (F.gc && F.gc_types) in
      let structs = implies (is_struct c) (F.gc && F.gc_types) in
      let conts = implies (is_cont c) (F.stack_switching && F.gc_types) in
      let last = both (many && arrays && structs) conts all.1 in
      let third = both (many && arrays) structs last.0 in
      let second = both many arrays third.0 in
      record {
        shared_needs_shared_everything_threads = implied s.shared F.shared_everything_threads threads;
        members_of_shared_are_shared = implied s.shared (list_all (is_shared_storage D) (storages c)) members;
        many_results_need_multi_value = implied (has_many_results c) F.multi_value second.0;
        array_needs_gc = λ h. (both F.gc F.gc_types (implied (is_array c) (F.gc && F.gc_types) second.1 h)).0;
        array_needs_gc_types = λ h. (both F.gc F.gc_types (implied (is_array c) (F.gc && F.gc_types) second.1 h)).1;
        struct_needs_gc = λ h. (both F.gc F.gc_types (implied (is_struct c) (F.gc && F.gc_types) third.1 h)).0;
        struct_needs_gc_types = λ h. (both F.gc F.gc_types (implied (is_struct c) (F.gc && F.gc_types) third.1 h)).1;
        continuation_needs_stack_switching = λ h. (both F.stack_switching F.gc_types (implied (is_cont c) (F.stack_switching && F.gc_types) last.1 h)).0;
        continuation_needs_gc_types = λ h. (both F.stack_switching F.gc_types (implied (is_cont c) (F.stack_switching && F.gc_types) last.1 h)).1;
        continuation_is_of_function = continuation;
        members_are_allowed = all.0;
        limits_are_kept = whole.1;
      }

  pub composite_allowed : CompositeRules F D s → allows_comp F s.comp ≡ true
  composite_allowed r =
      let c = s.comp in
      let many = implies (has_many_results c) F.multi_value in
      let arrays = implies (is_array c) (F.gc && F.gc_types) in
      let structs = implies (is_struct c) (F.gc && F.gc_types) in
      let conts = implies (is_cont c) (F.stack_switching && F.gc_types) in
      both_from (proposals_allow F c) (is_limited F c)
      (both_from (list_all (allows_storage F) (storages c)) (allows_form F c) r.members_are_allowed
      (both_from (many && arrays && structs) conts
      (both_from (many && arrays) structs
      (both_from many arrays (implies_from (has_many_results c) F.multi_value r.many_results_need_multi_value)
      (implies_from (is_array c) (F.gc && F.gc_types) (λ h. both_from F.gc F.gc_types (r.array_needs_gc h) (r.array_needs_gc_types h))))
      (implies_from (is_struct c) (F.gc && F.gc_types) (λ h. both_from F.gc F.gc_types (r.struct_needs_gc h) (r.struct_needs_gc_types h))))
      (implies_from (is_cont c) (F.stack_switching && F.gc_types) (λ h. both_from F.stack_switching F.gc_types (r.continuation_needs_stack_switching h) (r.continuation_needs_gc_types h)))))
      r.limits_are_kept

  pub shared_allowed : CompositeRules F D s → implies s.shared F.shared_everything_threads ≡ true
  shared_allowed r = implies_from s.shared F.shared_everything_threads r.shared_needs_shared_everything_threads

  pub members_shared : CompositeRules F D s → implies s.shared (list_all (is_shared_storage D) (storages s.comp)) ≡ true
  members_shared r = implies_from s.shared (list_all (is_shared_storage D) (storages s.comp)) r.members_of_shared_are_shared

-- whether features allow what is written, whatever it refers to
module _ {R S : Type 0} (f : R → S) (F : Features) where
  pub first_kept : (rs : List R) → is_some (slice_get (map f rs) 0) ≡ is_some (slice_get rs 0)
  first_kept [] = refl
  first_kept (r ∷ rs) = refl

  pub extending_kept : (s : Sub R) → allows_extending F (map_sub f s) ≡ allows_extending F s
  extending_kept s = ap (λ b. implies (not s.is_final || b) F.gc) (first_kept s.supers)

  pub clauses_kept : (s : Sub R) → allows_clauses F (map_sub f s) ≡ allows_clauses F s
  clauses_kept s = λ i.
      implies (is_some_map f s.descriptor i || is_some_map f s.describes i) F.custom_descriptors
      && (implies (is_some_map f s.descriptor i) (struct_map f s.comp i) && implies (is_some_map f s.describes i) (struct_map f s.comp i))

-- each supertype of a declares something
abbrev pub SupertypeDeclares : {R : Type 0} → (R → Option (Sub R)) → R → Type 0
SupertypeDeclares {R} D a = (b : R) → supertype_of D a ≡ Some b → (t : Sub R) × (D b ≡ Some t)

-- what is declared, and the supertype of it
module _ {R : Type 0} (D : R → Option (Sub R)) (a : R) (s : Sub R) (e : D a ≡ Some s) where
  supertype_is : supertype_of D a ≡ supertype s
  supertype_is = ap (option_and_then supertype) e

  descriptor_is : descriptor_of D a ≡ s.descriptor
  descriptor_is = ap (option_and_then (λ (t : Sub R). t.descriptor)) e

  described_is : described_by D a ≡ s.describes
  described_is = ap (option_and_then (λ (t : Sub R). t.describes)) e

  further : (P : Sub R → Type 0) (Q : R → Type 0) (o : Option R) → IfSome o Q → ((b : R) (t : Sub R) → D b ≡ Some t → Q b → P t) → IfSome (option_and_then D o) P
  further P Q None h f = tt
  further P Q (Some b) h f = found P (D b) (λ t g. f b t g h)

  of_supertype : (P : Sub R → Type 0) (Q : R → Type 0) → IfSome (supertype_of D a) Q → ((b : R) (t : Sub R) → D b ≡ Some t → Q b → P t) → OfSupertype D s P
  of_supertype P Q h f = further P Q (supertype s) (subst (λ o. IfSome o Q) supertype_is h) f

  at_supertype : (P : Sub R → Type 0) (b : R) (t : Sub R) → supertype_of D a ≡ Some b → D b ≡ Some t → OfSupertype D s P → P t
  at_supertype P b t f g h = at_some P (option_and_then D (supertype s)) t (ap (option_and_then D) (sym supertype_is ∙ f) ∙ g) h

-- the rules of extending and of the composite type, together
module _ {R : Type 0} (F : Features) (D : R → Option (Sub R)) (a : R) (s : Sub R) where
  pub joined_rules : allows_extending F s ≡ true → OfSupertype D s (λ t. t.is_final ≡ false) → OfSupertype D s (MatchesSub D s) → IsShallow D 64 a → CompositeRules F D s → TypeRules F D a s
  joined_rules x h m d c = record {
    subtyping_needs_gc = implied (not s.is_final || is_some (supertype s)) F.gc x;
    supertype_is_not_final = h;
    matches_supertype = m;
    few_ancestors = d 64 refl;
    shared_needs_shared_everything_threads = c.shared_needs_shared_everything_threads;
    members_of_shared_are_shared = c.members_of_shared_are_shared;
    many_results_need_multi_value = c.many_results_need_multi_value;
    array_needs_gc = c.array_needs_gc;
    array_needs_gc_types = c.array_needs_gc_types;
    struct_needs_gc = c.struct_needs_gc;
    struct_needs_gc_types = c.struct_needs_gc_types;
    continuation_needs_stack_switching = c.continuation_needs_stack_switching;
    continuation_needs_gc_types = c.continuation_needs_gc_types;
    continuation_is_of_function = c.continuation_is_of_function;
    members_are_allowed = c.members_are_allowed;
    limits_are_kept = c.limits_are_kept;
  }

  pub extending_from : TypeRules F D a s → allows_extending F s ≡ true
  extending_from r = implies_from (not s.is_final || is_some (supertype s)) F.gc r.subtyping_needs_gc

  pub composite_from : TypeRules F D a s → CompositeRules F D s
  composite_from r = record {
    shared_needs_shared_everything_threads = r.shared_needs_shared_everything_threads;
    members_of_shared_are_shared = r.members_of_shared_are_shared;
    many_results_need_multi_value = r.many_results_need_multi_value;
    array_needs_gc = r.array_needs_gc;
    array_needs_gc_types = r.array_needs_gc_types;
    struct_needs_gc = r.struct_needs_gc;
    struct_needs_gc_types = r.struct_needs_gc_types;
    continuation_needs_stack_switching = r.continuation_needs_stack_switching;
    continuation_needs_gc_types = r.continuation_needs_gc_types;
    continuation_is_of_function = r.continuation_is_of_function;
    members_are_allowed = r.members_are_allowed;
    limits_are_kept = r.limits_are_kept;
  }

  pub shallow_from : TypeRules F D a s → IsShallow D 64 a
  shallow_from r = λ m g. ap (λ k. ancestor_at D k a) g ∙ r.few_ancestors

-- the rules of extending
module _ (F : Features) (D : ℕ → Option (Sub ℕ)) (a : ℕ) (s : Sub ℕ) (e : D a ≡ Some s) where
  matching_at : (b : ℕ) (t : Sub ℕ) → D b ≡ Some t → MatchesDeclared D a b → MatchesSub D s t
  matching_at b t g m = subst (λ y. MatchesSub D s y) (same_Some m.sup t (sym m.declares_sup ∙ g)) (subst (λ x. MatchesSub D x m.sup) (same_Some m.sub s (sym m.declares_sub ∙ e)) m.matches)

  pub type_rules : allows_extending F s ≡ true → CompositeRules F D s → IfSome (supertype_of D a) (MayExtend D a) → IsShallow D 64 a → TypeRules F D a s
  type_rules x c h d = joined_rules F D a s x
      (of_supertype D a s e (λ t. t.is_final ≡ false) (MayExtend D a) h (λ b t g m. at_some (λ (u : Sub ℕ). u.is_final ≡ false) (D b) t g m.open_supertype))
      (of_supertype D a s e (MatchesSub D s) (MayExtend D a) h (λ b t g m. matching_at b t g m.matching)) d c

  pub extends_from : SupertypeDeclares D a → TypeRules F D a s → IfSome (supertype_of D a) (MayExtend D a)
  extends_from known r = found (MayExtend D a) (supertype_of D a) (λ b f.
      let t = known b f in
      record {
        open_supertype = found (λ (u : Sub ℕ). u.is_final ≡ false) (D b) (λ u g. at_supertype D a s e (λ (v : Sub ℕ). v.is_final ≡ false) b u f g r.supertype_is_not_final);
        matching = record { sub = s; sup = t.0; declares_sub = e; declares_sup = t.1; matches = at_supertype D a s e (MatchesSub D s) b t.0 f t.1 r.matches_supertype };
      })

-- the proposal and the form that clauses need
module _ {R : Type 0} (F : Features) (s : Sub R) where
  abbrev clauses : Bool
  clauses = is_some s.descriptor || is_some s.describes

  abbrev of_struct : Bool
  of_struct = implies (is_some s.descriptor) (is_struct s.comp) && implies (is_some s.describes) (is_struct s.comp)

  pub allowed_clauses : allows_clauses F s ≡ true
      → (IsTrue (is_some s.descriptor || is_some s.describes) → IsTrue F.custom_descriptors) × (IsTrue (is_some s.descriptor) → IsTrue (is_struct s.comp)) × (IsTrue (is_some s.describes) → IsTrue (is_struct s.comp))
  allowed_clauses x =
      let two = both (implies clauses F.custom_descriptors) of_struct x in
      let three = both (implies (is_some s.descriptor) (is_struct s.comp)) (implies (is_some s.describes) (is_struct s.comp)) two.1 in
      (implied clauses F.custom_descriptors two.0, implied (is_some s.descriptor) (is_struct s.comp) three.0, implied (is_some s.describes) (is_struct s.comp) three.1)

  pub clauses_allowed : (D : R → Option (Sub R)) (a : R) → DescriptorRules F D a s → allows_clauses F s ≡ true
  clauses_allowed D a r =
      both_from (implies clauses F.custom_descriptors) of_struct (implies_from clauses F.custom_descriptors r.clauses_need_custom_descriptors)
      (both_from (implies (is_some s.descriptor) (is_struct s.comp)) (implies (is_some s.describes) (is_struct s.comp))
      (implies_from (is_some s.descriptor) (is_struct s.comp) r.descriptor_is_of_struct) (implies_from (is_some s.describes) (is_struct s.comp) r.describes_is_of_struct))

-- the rules of descriptor clauses
module _ {R : Type 0} (F : Features) (D : R → Option (Sub R)) (a : R) (s : Sub R) (e : D a ≡ Some s) where
  has_descriptor : (b : R) (t : Sub R) → D b ≡ Some t → HasDescriptorLike D a b → is_some t.descriptor ≡ is_some s.descriptor
  has_descriptor b t g h = sym (ap is_some (descriptor_is D b t g)) ∙ h ∙ ap is_some (descriptor_is D a s e)

  does_describe : (b : R) (t : Sub R) → D b ≡ Some t → DescribesLike D a b → is_some t.describes ≡ is_some s.describes
  does_describe b t g h = sym (ap is_some (described_is D b t g)) ∙ h ∙ ap is_some (described_is D a s e)

  pub descriptor_rules :
      allows_clauses F s ≡ true → IfSome (supertype_of D a) (ExtendsClauses D a) → DescriptorDescribes D a → DescribedHasDescriptor D a → DescriptorHasSameFinality D a
      → DescriptorRules F D a s
  descriptor_rules x h p q r =
      let c = allowed_clauses F s x in
      record {
        clauses_need_custom_descriptors = c.0;
        descriptor_is_of_struct = c.1;
        describes_is_of_struct = c.2;
        with_descriptor_supertype_has_one = λ k. of_supertype D a s e (λ t. IsTrue (is_some t.descriptor)) (ExtendsClauses D a) h (λ b t g m. has_descriptor b t g m.descriptor ∙ k);
        without_descriptor_supertype_has_none = λ k. of_supertype D a s e (λ t. t.descriptor ≡ None) (ExtendsClauses D a) h (λ b t g m. nothing_there t.descriptor (has_descriptor b t g m.descriptor ∙ ap is_some k));
        supertype_of_descriptor = found (λ d. OfSupertype D s (λ t. supertype_of D d ≡ t.descriptor)) s.descriptor (λ d f.
            of_supertype D a s e (λ t. supertype_of D d ≡ t.descriptor) (ExtendsClauses D a) h
            (λ b t g m. at_some (λ c. supertype_of D c ≡ descriptor_of D b) (descriptor_of D a) d (descriptor_is D a s e ∙ f) m.descriptor_extends ∙ descriptor_is D b t g));
        supertype_of_described = found (λ d. OfSupertype D s (λ t. supertype_of D d ≡ t.describes)) s.describes (λ d f.
            of_supertype D a s e (λ t. supertype_of D d ≡ t.describes) (ExtendsClauses D a) h
            (λ b t g m. at_some (λ c. supertype_of D c ≡ described_by D b) (described_by D a) d (described_is D a s e ∙ f) m.described_extends ∙ described_is D b t g));
        without_describes_supertype_has_none = λ k. of_supertype D a s e (λ t. t.describes ≡ None) (ExtendsClauses D a) h (λ b t g m. nothing_there t.describes (does_describe b t g m.describes ∙ ap is_some k));
        with_describes_supertype_has_one = λ k. of_supertype D a s e (λ t. IsTrue (is_some t.describes)) (ExtendsClauses D a) h (λ b t g m. does_describe b t g m.describes ∙ k);
        descriptor_describes_this = subst (λ o. IfSome o (λ d. described_by D d ≡ Some a)) (descriptor_is D a s e) p;
        described_has_this_descriptor = subst (λ o. IfSome o (λ d. descriptor_of D d ≡ Some a)) (described_is D a s e) q;
        same_finality = found (λ d. IfSome (D d) (λ t. t.is_final ≡ s.is_final)) s.descriptor (λ d f.
            found (λ t. t.is_final ≡ s.is_final) (D d) (λ t g.
            at_some (λ (u : Sub R). t.is_final ≡ u.is_final) (D a) s e
            (at_some (λ (v : Sub R). IfSome (D a) (λ u. v.is_final ≡ u.is_final)) (D d) t g
            (at_some (HasSameFinality D a) (descriptor_of D a) d (descriptor_is D a s e ∙ f) r))));
      }

  pub extends_clauses_from : SupertypeDeclares D a → DescriptorRules F D a s → IfSome (supertype_of D a) (ExtendsClauses D a)
  extends_clauses_from known r = found (ExtendsClauses D a) (supertype_of D a) (λ b f.
      let t = known b f in
      record {
        descriptor =
            ap is_some (descriptor_is D b t.0 t.1)
            ∙ alike s.descriptor t.0.descriptor
            (λ k. at_supertype D a s e (λ u. IsTrue (is_some u.descriptor)) b t.0 f t.1 (r.with_descriptor_supertype_has_one k))
            (λ k. at_supertype D a s e (λ u. u.descriptor ≡ None) b t.0 f t.1 (r.without_descriptor_supertype_has_none k))
            ∙ sym (ap is_some (descriptor_is D a s e));
        descriptor_extends = found (λ d. supertype_of D d ≡ descriptor_of D b) (descriptor_of D a) (λ d g.
            at_supertype D a s e (λ u. supertype_of D d ≡ u.descriptor) b t.0 f t.1
            (at_some (λ c. OfSupertype D s (λ u. supertype_of D c ≡ u.descriptor)) s.descriptor d (sym (descriptor_is D a s e) ∙ g) r.supertype_of_descriptor)
            ∙ sym (descriptor_is D b t.0 t.1));
        describes =
            ap is_some (described_is D b t.0 t.1)
            ∙ alike s.describes t.0.describes
            (λ k. at_supertype D a s e (λ u. IsTrue (is_some u.describes)) b t.0 f t.1 (r.with_describes_supertype_has_one k))
            (λ k. at_supertype D a s e (λ u. u.describes ≡ None) b t.0 f t.1 (r.without_describes_supertype_has_none k))
            ∙ sym (ap is_some (described_is D a s e));
        described_extends = found (λ d. supertype_of D d ≡ described_by D b) (described_by D a) (λ d g.
            at_supertype D a s e (λ u. supertype_of D d ≡ u.describes) b t.0 f t.1
            (at_some (λ c. OfSupertype D s (λ u. supertype_of D c ≡ u.describes)) s.describes d (sym (described_is D a s e) ∙ g) r.supertype_of_described)
            ∙ sym (described_is D b t.0 t.1));
      })

  pub descriptor_from : DescriptorRules F D a s → DescriptorDescribes D a
  descriptor_from r = subst (λ o. IfSome o (λ d. described_by D d ≡ Some a)) (sym (descriptor_is D a s e)) r.descriptor_describes_this

  pub described_from : DescriptorRules F D a s → DescribedHasDescriptor D a
  described_from r = subst (λ o. IfSome o (λ d. descriptor_of D d ≡ Some a)) (sym (described_is D a s e)) r.described_has_this_descriptor

  pub finality_from : DescriptorRules F D a s → DescriptorHasSameFinality D a
  finality_from r = found (HasSameFinality D a) (descriptor_of D a) (λ d f.
      found (λ (t : Sub R). IfSome (D a) (λ u. t.is_final ≡ u.is_final)) (D d) (λ t g.
      found (λ (u : Sub R). t.is_final ≡ u.is_final) (D a) (λ u k.
      at_some (λ (v : Sub R). v.is_final ≡ s.is_final) (D d) t g (at_some (λ c. IfSome (D c) (λ v. v.is_final ≡ s.is_final)) s.descriptor d (sym (descriptor_is D a s e) ∙ f) r.same_finality)
      ∙ ap (λ (v : Sub R). v.is_final) (same_Some s u (sym e ∙ k)))))
