-- Reference types over the numbers of a module's distinct types match where they do over the types themselves.
use Rattle.std.proofs.Common.{◌≡◌, refl, sym, ap, subst, ◌∙◌, ℕ, zero, suc, ◌<◌, Bool, List, [], ◌∷◌, length, slice_get, Option, Some, None, option_map, All}
use Rattle.std.specs.Prelude.{◌↔◌}
use Rattle.std.specs.Option.{option_and_then}
use Rattle.std.specs.List.{Contains}
use Rattle.std.proofs.lemmas.List.Elements.{All-head, All-contains}
use Rattle.std.proofs.lemmas.Option.{none-some, same_Some, slice_get-map, get_or_from_slice_get}
use Rattle.wasm_spec.specs.Syntax.{AbstractHeap, Heap, abstract_heap, concrete, exact, Ref, Comp, func, array, struct, cont, Sub, map_heap, map_ref, map_comp, map_sub}
use Rattle.wasm_spec.specs.References.{refs_heap, refs_sub}
use Rattle.wasm_spec.specs.SupertypeOrder.{supertype, supertype_of, ancestor_at, IsAncestor}
use Rattle.wasm_spec.specs.Matching.{MatchesAbstract, kind_of, bottom_of, MatchesKind, IsAboveBottom, MatchesHeap, MatchesRef}
use Rattle.wasm_spec.specs.Trees.{DefType, declared}
use Rattle.wasm_spec_rules.specs.Contexts.{AreFirst}
use Rattle.wasm_spec_rules.specs.IndexSpaces.{nowhere, type_at, ref_over, IsRefInRange}
use Rattle.wasm_spec_rules.specs.Worlds.{declared_in}
use Rattle.wasm_validator_type_list.proofs.Lookups.{group_found}
use Rattle.wasm_laws_core.specs.TypeNumbers.{AreNumbered, same_number}
use Rattle.wasm_laws_core.proofs.NumbersAndIds.{place_of, contains_at}
use Rattle.wasm_laws_modules.proofs.Entries.{entries}
use Rattle.wasm_laws_modules.proofs.Numbers.{from_map, first_of_all, each, numbered}

kind-same : {R S : Type 0} (f : R → S) (c : Comp R) → kind_of (map_comp f c) ≡ kind_of c
kind-same f (func ps rs) = refl
kind-same f (array x) = refl
kind-same f (struct xs) = refl
kind-same f (cont r) = refl

bottom-same : {R S : Type 0} (f : R → S) (c : Comp R) → bottom_of (map_comp f c) ≡ bottom_of c
bottom-same f (func ps rs) = refl
bottom-same f (array x) = refl
bottom-same f (struct xs) = refl
bottom-same f (cont r) = refl

supertype-same : (n : DefType → ℕ) (o : Option (Sub DefType)) → option_and_then supertype (option_map (map_sub n) o) ≡ option_map n (option_and_then supertype o)
supertype-same n None = refl
supertype-same n (Some s) = slice_get-map n s.supers 0

module _ (n : DefType → ℕ) (distinct : List DefType) (are : AreNumbered n distinct) where
  abbrev D : ℕ → Option (Sub ℕ)
  D = declared_in same_number (entries n distinct)

  abbrev In : DefType → Type 0
  In = Contains distinct

  says : (d : DefType) → In d → D (n d) ≡ option_map (map_sub n) (declared d)
  says d c = let p = place_of distinct d c in ap D (are.number c.0 d p) ∙ numbered n distinct are c.0 d p

  one : (d e : DefType) → In d → In e → n d ≡ n e → d ≡ e
  one d e c b g =
      let p = place_of distinct d c in
      let q = place_of distinct e b in
      let same : c.0 ≡ b.0 = sym (are.number c.0 d p) ∙ g ∙ are.number b.0 e q in
      same_Some d e (sym p ∙ ap (slice_get distinct) same ∙ q)

  -- ancestors
  above_in : (d x : DefType) → In d → supertype_of declared d ≡ Some x → In x
  above_in d x c g =
      let p = place_of distinct d c in
      let s = each n distinct are c.0 d p in
      first_of_all In s.0.supers (refs_sub (record s.0 { supers = [] })) x (are.mention d s.0 c s.1) (sym (ap (option_and_then supertype) s.1) ∙ g)

  above-same : (d : DefType) → In d → supertype_of D (n d) ≡ option_map n (supertype_of declared d)
  above-same d c = ap (option_and_then supertype) (says d c) ∙ supertype-same n (declared d)

  next-same : (k : ℕ) (o : Option DefType) → ((x : DefType) → o ≡ Some x → ancestor_at D k (n x) ≡ option_map n (ancestor_at declared k x))
      → option_and_then (ancestor_at D k) (option_map n o) ≡ option_map n (option_and_then (ancestor_at declared k) o)
  next-same k None h = refl
  next-same k (Some x) h = h x refl

  ancestors-same : (k : ℕ) (d : DefType) → In d → ancestor_at D k (n d) ≡ option_map n (ancestor_at declared k d)
  ancestors-same zero d c = refl
  ancestors-same (suc k) d c =
      ap (option_and_then (ancestor_at D k)) (above-same d c)
      ∙ next-same k (supertype_of declared d) (λ x e. ancestors-same k x (above_in d x c e))

  next_in : (k : ℕ) (b : DefType) (o : Option DefType) → option_and_then (ancestor_at declared k) o ≡ Some b → ((x : DefType) → o ≡ Some x → ancestor_at declared k x ≡ Some b → In b) → In b
  next_in k b None e h = absurd (none-some b e)
  next_in k b (Some x) e h = h x refl e

  stays_in : (k : ℕ) (d b : DefType) → In d → ancestor_at declared k d ≡ Some b → In b
  stays_in zero d b c e = subst In (same_Some d b e) c
  stays_in (suc k) d b c e = next_in k b (supertype_of declared d) e (λ x g h. stays_in k x b (above_in d x c g) h)

  ancestor_there : (d e : DefType) → In d → IsAncestor declared d e → IsAncestor D (n d) (n e)
  ancestor_there d e c p = record { steps = p.steps; leads = ancestors-same p.steps d c ∙ ap (option_map n) p.leads }

  ancestor_back : (d e : DefType) → In d → In e → IsAncestor D (n d) (n e) → IsAncestor declared d e
  ancestor_back d e c b p =
      let x = from_map n (ancestor_at declared p.steps d) (n e) (sym (ancestors-same p.steps d c) ∙ p.leads) in
      record { steps = p.steps; leads = x.1 ∙ ap Some (one x.0 e (stays_in p.steps d x.0 c x.1) b x.2) }

  -- kinds
  kind_there : (d : DefType) (t : Bool) (k : AbstractHeap) → In d → MatchesKind declared d t k → MatchesKind D (n d) t k
  kind_there d t k c m = record {
    sub = map_sub n m.sub;
    declares = says d c ∙ ap (option_map (map_sub n)) m.declares;
    same_shared = m.same_shared;
    matches = subst (λ a. MatchesAbstract a k) (sym (kind-same n m.sub.comp)) m.matches;
  }

  kind_back : (d : DefType) (t : Bool) (k : AbstractHeap) → In d → MatchesKind D (n d) t k → MatchesKind declared d t k
  kind_back d t k c m =
      let s = from_map (map_sub n) (declared d) m.sub (sym (says d c) ∙ m.declares) in
      record {
        sub = s.0;
        declares = s.1;
        same_shared = ap (λ (x : Sub ℕ). x.shared) s.2 ∙ m.same_shared;
        matches = subst (λ a. MatchesAbstract a k) (sym (ap (λ (x : Sub ℕ). kind_of x.comp) s.2) ∙ kind-same n s.0.comp) m.matches;
      }

  bottom_there : (d : DefType) (t : Bool) (k : AbstractHeap) → In d → IsAboveBottom declared d t k → IsAboveBottom D (n d) t k
  bottom_there d t k c m = record {
    sub = map_sub n m.sub;
    declares = says d c ∙ ap (option_map (map_sub n)) m.declares;
    same_shared = m.same_shared;
    is_bottom = bottom-same n m.sub.comp ∙ m.is_bottom;
  }

  bottom_back : (d : DefType) (t : Bool) (k : AbstractHeap) → In d → IsAboveBottom D (n d) t k → IsAboveBottom declared d t k
  bottom_back d t k c m =
      let s = from_map (map_sub n) (declared d) m.sub (sym (says d c) ∙ m.declares) in
      record {
        sub = s.0;
        declares = s.1;
        same_shared = ap (λ (x : Sub ℕ). x.shared) s.2 ∙ m.same_shared;
        is_bottom = sym (bottom-same n s.0.comp) ∙ ap (λ (x : Sub ℕ). bottom_of x.comp) s.2 ∙ m.is_bottom;
      }

  -- heap types and reference types
  module _ (types : List DefType) (first : AreFirst types distinct) where
    abbrev T : ℕ → DefType
    T = type_at types

    abbrev at : ℕ → ℕ
    at x = n (T x)

    abbrev Below : Heap ℕ → Type 0
    Below h = All (λ x. x < length types) (refs_heap h)

    inside : (x : ℕ) → All (λ y. y < length types) (x ∷ []) → In (T x)
    inside x b =
        let g = group_found types x (All-head (λ y. y < length types) x [] b) in
        subst In (sym (get_or_from_slice_get types x g.0 nowhere g.1)) (All-contains In types g.0 first.all (contains_at types x g.0 g.1))

    heap_there : (h k : Heap ℕ) → Below h → Below k → MatchesHeap declared (map_heap T h) (map_heap T k) → MatchesHeap D (map_heap at h) (map_heap at k)
    heap_there (abstract_heap s i) (abstract_heap t j) p q m = m
    heap_there (abstract_heap s i) (concrete y) p q m = bottom_there (T y) s i (inside y q) m
    heap_there (abstract_heap s i) (exact y) p q m = bottom_there (T y) s i (inside y q) m
    heap_there (concrete x) (abstract_heap t j) p q m = kind_there (T x) t j (inside x p) m
    heap_there (concrete x) (concrete y) p q m = ancestor_there (T x) (T y) (inside x p) m
    heap_there (concrete x) (exact y) p q m = absurd m
    heap_there (exact x) (abstract_heap t j) p q m = kind_there (T x) t j (inside x p) m
    heap_there (exact x) (concrete y) p q m = ancestor_there (T x) (T y) (inside x p) m
    heap_there (exact x) (exact y) p q m = ap n m

    heap_back : (h k : Heap ℕ) → Below h → Below k → MatchesHeap D (map_heap at h) (map_heap at k) → MatchesHeap declared (map_heap T h) (map_heap T k)
    heap_back (abstract_heap s i) (abstract_heap t j) p q m = m
    heap_back (abstract_heap s i) (concrete y) p q m = bottom_back (T y) s i (inside y q) m
    heap_back (abstract_heap s i) (exact y) p q m = bottom_back (T y) s i (inside y q) m
    heap_back (concrete x) (abstract_heap t j) p q m = kind_back (T x) t j (inside x p) m
    heap_back (concrete x) (concrete y) p q m = ancestor_back (T x) (T y) (inside x p) (inside y q) m
    heap_back (concrete x) (exact y) p q m = absurd m
    heap_back (exact x) (abstract_heap t j) p q m = kind_back (T x) t j (inside x p) m
    heap_back (exact x) (concrete y) p q m = ancestor_back (T x) (T y) (inside x p) (inside y q) m
    heap_back (exact x) (exact y) p q m = one (T x) (T y) (inside x p) (inside y q) m

    pub references_over : (a b : Ref ℕ) → IsRefInRange types a → IsRefInRange types b → MatchesRef D (map_ref at a) (map_ref at b) ↔ MatchesRef declared (ref_over types a) (ref_over types b)
    references_over a b p q = ((λ m. (m.0, heap_back a.heap b.heap p q m.1)), (λ m. (m.0, heap_there a.heap b.heap p q m.1)))
