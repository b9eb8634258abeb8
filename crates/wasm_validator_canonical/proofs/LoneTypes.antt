-- Where equal types aren't one, a valid type mentions no type, and it stays valid at another place with the same members.
use Rattle.std.proofs.Common.{◌≡◌, refl, sym, ap, subst, ◌∙◌, ℕ, ◌+◌, Bool, true, false, true≢false, not, ◌&&◌, ◌||◌, List, [], ◌∷◌, ◌++◌, map, flat_map, slice_get, Option, Some, None, All}
use Rattle.std.specs.Prelude.{is_some, IfSome}
use Rattle.std.specs.Option.{option_map, option_and_then}
use Rattle.std.specs.List.{list_all, AllByRecursion}
use Rattle.std.proofs.lemmas.List.Elements.{All-nil, All-cons, All-head, All-tail}
use Rattle.std.proofs.lemmas.List.Folds.{list_all-map, list_all-append}
use Rattle.std.proofs.lemmas.Option.{same_Some}
use Rattle.wasm_spec.specs.Syntax.{Heap, abstract_heap, concrete, exact, Val, i32, i64, f32, f64, v128, reference, Storage, i8, i16, unpacked, Field, Comp, func, array, struct, cont, Sub, map_sub}
use Rattle.wasm_spec.specs.References.{refs_option, refs_heap, refs_val, refs_storage, refs_field, refs_comp, refs_sub}
use Rattle.wasm_spec.specs.Features.{Features, canonical}
use Rattle.wasm_spec.specs.Trees.{RecTree, TypeUse, DefType, members, denote, declared}
use Rattle.wasm_spec.specs.Closing.{positions}
use Rattle.wasm_spec.specs.SupertypeOrder.{supertype, described_by, descriptor_of, ancestor_at}
use Rattle.wasm_spec.specs.ValueTypes.{allows_heap, allows_val, allows_storage}
use Rattle.wasm_spec.specs.GroupRules.{storages, field_storage, is_cont, TypeRules, DescriptorRules, IsValidType}
use Rattle.wasm_spec.proofs.Agreement.{agree_sub}
use Rattle.wasm_spec.proofs.ClosedGroups.{refs_sub-map}
use Rattle.wasm_validator_canonical.proofs.CanonicalTypes.{and_left, and_right}

-- the features by which equal types are one
record AreOff (gc references switching descriptors : Bool) : Type 0 where
  no_gc : gc ≡ false
  no_references : references ≡ false
  no_switching : switching ≡ false
  no_descriptors : descriptors ≡ false

are_off : (a b c d : Bool) → (a || b || c || d) ≡ false → AreOff a b c d
are_off false false false false e = record { no_gc = refl; no_references = refl; no_switching = refl; no_descriptors = refl }
are_off true b c d e = absurd cc
are_off false true c d e = absurd cc
are_off false false true d e = absurd cc
are_off false false false true e = absurd cc

none_on : (F : Features) → canonical F ≡ false → AreOff F.gc F.function_references F.stack_switching F.custom_descriptors
none_on F off = are_off F.gc F.function_references F.stack_switching F.custom_descriptors off

never : (b : Bool) → b ≡ false → b ≡ true → ⊥
never b off on = true≢false (sym on ∙ off)

or_right : (a b : Bool) → b ≡ true → (a || b) ≡ true
or_right true b e = refl
or_right false b e = e

or_left : (a b : Bool) → a ≡ true → (a || b) ≡ true
or_left true b e = refl
or_left false b e = absurd cc

nothing_there : {R : Type 0} (o : Option R) → (is_some o ≡ true → ⊥) → o ≡ None
nothing_there None h = refl
nothing_there (Some r) h = absurd (h refl)

none_first : {R : Type 0} (rs : List R) → (is_some (slice_get rs 0) ≡ true → ⊥) → rs ≡ []
none_first [] h = refl
none_first (r ∷ rs) h = absurd (h refl)

-- what a valid type refers to
module _ {R : Type 0} (F : Features) (off : canonical F ≡ false) where
  heap_alone : (nullable : Bool) (h : Heap R) → allows_heap F nullable h ≡ true → refs_heap h ≡ []
  heap_alone nullable (abstract_heap s a) h = refl
  heap_alone nullable (concrete r) h = absurd (never (F.gc || F.function_references) (λ i. (none_on F off).no_gc i || (none_on F off).no_references i) h)
  heap_alone nullable (exact r) h = absurd (never F.custom_descriptors (none_on F off).no_descriptors h)

  val_alone : (v : Val R) → allows_val F v ≡ true → refs_val v ≡ []
  val_alone i32 h = refl
  val_alone i64 h = refl
  val_alone f32 h = refl
  val_alone f64 h = refl
  val_alone v128 h = refl
  val_alone (reference r) h = heap_alone r.nullable r.heap (and_right F.reference_types (allows_heap F r.nullable r.heap) h)

  storage_alone : (s : Storage R) → allows_storage F s ≡ true → refs_storage s ≡ []
  storage_alone i8 h = refl
  storage_alone i16 h = refl
  storage_alone (unpacked v) h = val_alone v h

  vals_alone : (vs : List (Val R)) → list_all (allows_val F) vs ≡ true → flat_map refs_val vs ≡ []
  vals_alone [] h = refl
  vals_alone (v ∷ vs) h = λ i. val_alone v (and_left (allows_val F v) (list_all (allows_val F) vs) h) i ++ vals_alone vs (and_right (allows_val F v) (list_all (allows_val F) vs) h) i

  fields_alone : (xs : List (Field R)) → list_all (allows_storage F) (map field_storage xs) ≡ true → flat_map refs_field xs ≡ []
  fields_alone [] h = refl
  fields_alone (x ∷ xs) h =
      let p = allows_storage F in
      λ i. storage_alone x.storage (and_left (p x.storage) (list_all p (map field_storage xs)) h) i ++ fields_alone xs (and_right (p x.storage) (list_all p (map field_storage xs)) h) i

  comp_alone : (c : Comp R) → (is_cont c ≡ true → ⊥) → list_all (allows_storage F) (storages c) ≡ true → refs_comp c ≡ []
  comp_alone (func ps rs) n h =
      let p = allows_val F in
      let all : (list_all p ps && list_all p rs) ≡ true = sym (list_all-map (allows_storage F) unpacked (ps ++ rs) ∙ list_all-append p ps rs) ∙ h in
      λ i. vals_alone ps (and_left (list_all p ps) (list_all p rs) all) i ++ vals_alone rs (and_right (list_all p ps) (list_all p rs) all) i
  comp_alone (array x) n h = storage_alone x.storage (and_left (allows_storage F x.storage) true h)
  comp_alone (struct xs) n h = fields_alone xs h
  comp_alone (cont r) n h = absurd (n refl)

  module _ (D : R → Option (Sub R)) (a : R) (s : Sub R) (rules : TypeRules F D a s) (clauses : DescriptorRules F D a s) where
    no_supers : s.supers ≡ []
    no_supers = none_first s.supers (λ e. never F.gc (none_on F off).no_gc (rules.subtyping_needs_gc (or_right (not s.is_final) (is_some (supertype s)) e)))

    no_descriptor : s.descriptor ≡ None
    no_descriptor = nothing_there s.descriptor (λ e. never F.custom_descriptors (none_on F off).no_descriptors (clauses.clauses_need_custom_descriptors (or_left (is_some s.descriptor) (is_some s.describes) e)))

    no_described : s.describes ≡ None
    no_described = nothing_there s.describes (λ e. never F.custom_descriptors (none_on F off).no_descriptors (clauses.clauses_need_custom_descriptors (or_right (is_some s.descriptor) (is_some s.describes) e)))

    no_members : refs_comp s.comp ≡ []
    no_members = comp_alone s.comp (λ e. never F.stack_switching (none_on F off).no_switching (rules.continuation_needs_stack_switching e)) rules.members_are_allowed

    alone : refs_sub s ≡ []
    alone = λ i. no_supers i ++ (refs_option (no_described i) ++ (refs_option (no_descriptor i) ++ no_members i))

    -- the rules don't ask where such a type stands
    module _ (b : R) (same : D a ≡ D b) where
      same_rules : TypeRules F D b s
      same_rules = record {
        subtyping_needs_gc = rules.subtyping_needs_gc;
        supertype_is_not_final = rules.supertype_is_not_final;
        matches_supertype = rules.matches_supertype;
        few_ancestors = ap (λ o. option_and_then (ancestor_at D 63) (option_and_then supertype o)) (sym same) ∙ rules.few_ancestors;
        shared_needs_shared_everything_threads = rules.shared_needs_shared_everything_threads;
        members_of_shared_are_shared = rules.members_of_shared_are_shared;
        many_results_need_multi_value = rules.many_results_need_multi_value;
        array_needs_gc = rules.array_needs_gc;
        array_needs_gc_types = rules.array_needs_gc_types;
        struct_needs_gc = rules.struct_needs_gc;
        struct_needs_gc_types = rules.struct_needs_gc_types;
        continuation_needs_stack_switching = rules.continuation_needs_stack_switching;
        continuation_needs_gc_types = rules.continuation_needs_gc_types;
        continuation_is_of_function = rules.continuation_is_of_function;
        members_are_allowed = rules.members_are_allowed;
        limits_are_kept = rules.limits_are_kept;
      }

      same_clauses : DescriptorRules F D b s
      same_clauses = record {
        clauses_need_custom_descriptors = clauses.clauses_need_custom_descriptors;
        descriptor_is_of_struct = clauses.descriptor_is_of_struct;
        describes_is_of_struct = clauses.describes_is_of_struct;
        with_descriptor_supertype_has_one = clauses.with_descriptor_supertype_has_one;
        without_descriptor_supertype_has_none = clauses.without_descriptor_supertype_has_none;
        supertype_of_descriptor = clauses.supertype_of_descriptor;
        supertype_of_described = clauses.supertype_of_described;
        without_describes_supertype_has_none = clauses.without_describes_supertype_has_none;
        with_describes_supertype_has_one = clauses.with_describes_supertype_has_one;
        descriptor_describes_this = subst (λ o. IfSome o (λ d. described_by D d ≡ Some b)) (sym no_descriptor) tt;
        described_has_this_descriptor = subst (λ o. IfSome o (λ d. descriptor_of D d ≡ Some b)) (sym no_described) tt;
        same_finality = clauses.same_finality;
      }

  pub valid_alone : (D : R → Option (Sub R)) (a : R) (s : Sub R) → D a ≡ Some s → IsValidType F D a → refs_sub s ≡ []
  valid_alone D a s e v = ap refs_sub (same_Some s v.sub (sym e ∙ v.declares)) ∙ alone D a v.sub v.rules v.descriptor_rules

  valid_as : (D : R → Option (Sub R)) (a b : R) → D a ≡ D b → IsValidType F D a → IsValidType F D b
  valid_as D a b same v = record {
    sub = v.sub;
    declares = sym same ∙ v.declares;
    rules = same_rules D a v.sub v.rules v.descriptor_rules b same;
    descriptor_rules = same_clauses D a v.sub v.rules v.descriptor_rules b same;
  }

none_before : {R S : Type 0} (f : R → S) (rs : List R) → map f rs ≡ [] → rs ≡ []
none_before f [] e = refl
none_before f (r ∷ rs) e = absurd cc

pub alone_before : {R S : Type 0} (f : R → S) (s : Sub R) → refs_sub (map_sub f s) ≡ [] → refs_sub s ≡ []
alone_before f s e = none_before f (refs_sub s) (sym (refs_sub-map f s) ∙ e)

-- a sub type without references is the same however they are renamed
pub alone_same : {R S : Type 0} (f h : R → S) (s : Sub R) → refs_sub s ≡ [] → map_sub f s ≡ map_sub h s
alone_same f h s e = agree_sub f h s (subst (AllByRecursion (λ r. f r ≡ h r)) (sym e) tt)

declare_same : (f h : TypeUse → DefType) (o : Option (Sub TypeUse)) (s : Sub DefType) → option_map (map_sub f) o ≡ Some s → refs_sub s ≡ [] → option_map (map_sub f) o ≡ option_map (map_sub h) o
declare_same f h None s e n = refl
declare_same f h (Some m) s e n = ap Some (alone_same f h m (alone_before f m (ap refs_sub (same_Some (map_sub f m) s e) ∙ n)))

-- types at the same position of recursive types with the same members
module _ (F : Features) (off : canonical F ≡ false) where
  same_declared : (d e : DefType) (s : Sub DefType) → d.position ≡ e.position → members d.tree ≡ members e.tree → declared d ≡ Some s → refs_sub s ≡ [] → declared d ≡ declared e
  unfolding declared
  same_declared d e s p m h n =
      declare_same (denote d.tree) (denote e.tree) (slice_get (members d.tree) d.position) s h n
      ∙ (λ i. option_map (map_sub (denote e.tree)) (slice_get (m i) (p i)))

  pub valid_alike : (d e : DefType) → d.position ≡ e.position → members d.tree ≡ members e.tree → IsValidType F declared d → IsValidType F declared e
  valid_alike d e p m v = valid_as F off declared d e (same_declared d e v.sub p m v.declares (valid_alone F off declared d v.sub v.declares v)) v

  pub all_alike : {X : Type 0} (t u : RecTree) → members t ≡ members u → (n : ℕ) (xs : List X) → All (IsValidType F declared) (positions t n xs) → All (IsValidType F declared) (positions u n xs)
  all_alike t u m n [] v = All-nil (IsValidType F declared)
  all_alike t u m n (x ∷ xs) v =
      let V = IsValidType F declared in
      let d : DefType = record { tree = t; position = n } in
      let e : DefType = record { tree = u; position = n } in
      All-cons V e (positions u (n + 1) xs) (valid_alike d e refl m (All-head V d (positions t (n + 1) xs) v)) (all_alike t u m (n + 1) xs (All-tail V d (positions t (n + 1) xs) v))
