-- Ids of a list and the types of modules that have them: what they declare is alike, and they are ordered and match alike.
use Rattle.std.proofs.Common.{◌≡◌, refl, sym, ap, subst, ◌∙◌, ◌↔◌, ℕ, zero, suc, Bool, true, false, not, ◌||◌, List, [], ◌∷◌, ◌++◌, map, slice_get, Option, Some, None}
use Rattle.std.specs.Prelude.{is_some, IsTrue}
use Rattle.std.specs.Option.{option_map, option_and_then}
use Rattle.std.specs.List.{All}
use Rattle.std.proofs.lemmas.List.Elements.{All-nil, All-cons, All-head, All-tail}
use Rattle.std.proofs.lemmas.Option.{same_Some, none-some}
use Rattle.wasm_spec.specs.Syntax.{AbstractHeap, Heap, abstract_heap, concrete, exact, Val, i32, i64, f32, f64, v128, reference, Sub, map_heap, map_val, map_sub}
use Rattle.wasm_spec.specs.References.{refs_heap, refs_val}
use Rattle.wasm_spec.specs.BinaryTypes.{rec_at}
use Rattle.wasm_spec.specs.Framing as framing
use Rattle.wasm_spec.specs.Framing.{Piece, Version, magic, u16_at, section_at, Frames, all_pieces, IsFramed}
use Rattle.wasm_spec.specs.Features.{Features, canonical}
use Rattle.wasm_spec.specs.Trees.{TypeUse, DefType, members, denote, declared}
use Rattle.wasm_spec.specs.Closing.{type_space}
use Rattle.wasm_spec.specs.GroupRules.{IsValidType}
use Rattle.wasm_spec.specs.SupertypeOrder.{supertype, supertype_of, ancestor_at, IsAncestor}
use Rattle.wasm_spec.specs.Matching.{kind_of, bottom_of, MatchesAbstract, MatchesKind, IsAboveBottom, MatchesHeap, MatchesVal}
use Rattle.wasm_spec_rules.specs.Parts.{index, all_items}
use Rattle.wasm_spec_rules.specs.Modules.{IsWellFormed}
use Rattle.wasm_validator_modules.specs.WasmSpecValidity.Expressions.{expression_at}
use Rattle.wasm_validator_type_list.proofs.TypeMatches.{kind_kept, bottom_kept}
use Rattle.wasm_validator.specs.Headline.{TypeWithId, its_id, its_type, AreUnderOneId}

-- bytes are framed in one way, and so the types that they write are one list
same_behind : {X : Type 0} (xs ys zs : List X) → xs ++ ys ≡ xs ++ zs → ys ≡ zs
same_behind [] ys zs e = e
same_behind (x ∷ xs) ys zs e = let h : xs ++ ys ≡ xs ++ zs = cc in same_behind xs ys zs h

same_sections : (ss ts : List (ℕ × List ℕ)) (bytes : List ℕ) → Frames ss bytes → Frames ts bytes → ss ≡ ts
same_sections [] [] bytes a b = refl
same_sections [] (t ∷ ts) bytes a b = absurd (none-some {A = (ℕ × List ℕ) × List ℕ} (t, b.0) (ap section_at (sym a) ∙ b.1))
same_sections (s ∷ ss) [] bytes a b = absurd (none-some {A = (ℕ × List ℕ) × List ℕ} (s, a.0) (ap section_at (sym b) ∙ a.1))
same_sections (s ∷ ss) (t ∷ ts) bytes a b =
    let here : (ℕ × List ℕ) × List ℕ = (s, a.0) in
    let there : (ℕ × List ℕ) × List ℕ = (t, b.0) in
    let same : here ≡ there = same_Some here there (sym a.1 ∙ b.1) in
    let more = same_sections ss ts b.0 (subst (Frames ss) (ap (λ (x : (ℕ × List ℕ) × List ℕ). x.1) same) a.2) b.2 in
    λ i. (same i).0 ∷ more i

framed_once : (b c : List ℕ) (ps qs : List Piece) → b ≡ c → IsFramed b ps → IsFramed c qs → ps ≡ qs
framed_once b c ps qs e f g =
    let numbered = same_behind magic f.numbered g.numbered (sym f.begins ∙ e ∙ g.begins) in
    let number = same_Some {A = ℕ × List ℕ} (f.number, f.kinded) (g.number, g.kinded) (sym f.has_number ∙ ap u16_at numbered ∙ g.has_number) in
    let kind = same_Some {A = ℕ × List ℕ} (f.kind, f.rest) (g.kind, g.rest) (sym f.has_kind ∙ ap u16_at (ap (λ (x : ℕ × List ℕ). x.1) number) ∙ g.has_kind) in
    let sections = same_sections f.sections g.sections g.rest (subst (Frames f.sections) (ap (λ (x : ℕ × List ℕ). x.1) kind) f.frames) g.frames in
    let others = same_Some f.others g.others (sym f.made ∙ ap all_pieces sections ∙ g.made) in
    f.all ∙ (λ i. Version (number i).0 (kind i).0 ∷ (others i ++ framing.End ∷ [])) ∙ sym g.all

pub types_once : (F : Features) (b c : List ℕ) → b ≡ c → (m : IsWellFormed expression_at F b) (n : IsWellFormed expression_at F c) → m.types.types ≡ n.types.types
types_once F b c e m n =
    let pieces = framed_once b c m.pieces n.pieces e m.framed n.framed in
    let groups = same_Some m.parts.groups n.parts.groups (sym m.has_parts.groups ∙ ap (all_items 1 (rec_at index)) pieces ∙ n.has_parts.groups) in
    same_Some m.types.types n.types.types (sym m.types.gives ∙ ap (type_space F) groups ∙ n.types.gives)

pub all_at : {X : Type 0} (P : X → Type 0) (xs : List X) (k : ℕ) (x : X) → All P xs → slice_get xs k ≡ Some x → P x
all_at P [] k x a e = absurd (none-some x e)
all_at P (y ∷ xs) zero x a e = subst P (same_Some y x e) (All-head P y xs a)
all_at P (y ∷ xs) (suc k) x a e = all_at P xs k x (All-tail P y xs a) e

-- what is declared, and what it is renamed to
found : {R S P : Type 0} (f : R → S) (o : Option (Sub R)) (t : Sub S) → option_map (map_sub f) o ≡ Some t → ((s : Sub R) → o ≡ Some s → map_sub f s ≡ t → P) → P
found f None t e k = absurd (none-some t e)
found f (Some s) t e k = k s refl (same_Some (map_sub f s) t e)

first_renamed : {R S : Type 0} (f : R → S) (rs : List R) → slice_get (map f rs) 0 ≡ option_map f (slice_get rs 0)
first_renamed f [] = refl
first_renamed f (r ∷ rs) = refl

none_renamed : {R S : Type 0} (f : R → S) (o : Option R) → option_map f o ≡ None → o ≡ None
none_renamed f None e = refl
none_renamed f (Some r) e = absurd (none-some (f r) (sym e))

-- What an id declares and what a type declares have one shared flag and one kind, and the one has no supertype where the other has none.
pub record AreAlike (D : ℕ → Option (Sub ℕ)) (x : ℕ) (d : DefType) : Type 0 where
  pub here : Sub ℕ
  pub there : Sub DefType
  pub id_declares : D x ≡ Some here
  pub type_declares : declared d ≡ Some there
  pub same_shared : here.shared ≡ there.shared
  pub same_kind : kind_of here.comp ≡ kind_of there.comp
  pub same_bottom : bottom_of here.comp ≡ bottom_of there.comp
  pub no_supertype : supertype there ≡ None → supertype here ≡ None

-- so it is where the id's type in the list has the type's position and members
pub alike : (D : ℕ → Option (Sub ℕ)) (at : ℕ → DefType) (x : ℕ) (listed d : DefType) (there : Sub DefType)
    → declared listed ≡ option_map (map_sub at) (D x) → listed.position ≡ d.position → members listed.tree ≡ members d.tree → declared d ≡ Some there → AreAlike D x d
unfolding declared
alike D at x listed d there e p m t =
    found (denote d.tree) (slice_get (members d.tree) d.position) there t
    (λ u is named.
    let seen : option_map (map_sub at) (D x) ≡ Some (map_sub (denote listed.tree) u) =
    sym e
    ∙ ap (λ (us : List (Sub TypeUse)). option_map (map_sub (denote listed.tree)) (slice_get us listed.position)) m
    ∙ ap (λ (k : ℕ). option_map (map_sub (denote listed.tree)) (slice_get (members d.tree) k)) p
    ∙ ap (option_map (map_sub (denote listed.tree))) is in
    found at (D x) (map_sub (denote listed.tree) u) seen
    (λ here at_id same. record {
      here = here;
      there = there;
      id_declares = at_id;
      type_declares = t;
      same_shared = ap (λ (s : Sub DefType). s.shared) same ∙ ap (λ (s : Sub DefType). s.shared) named;
      same_kind =
          sym (kind_kept at here.comp) ∙ ap (λ (s : Sub DefType). kind_of s.comp) same ∙ kind_kept (denote listed.tree) u.comp
          ∙ sym (kind_kept (denote d.tree) u.comp) ∙ ap (λ (s : Sub DefType). kind_of s.comp) named;
      same_bottom =
          sym (bottom_kept at here.comp) ∙ ap (λ (s : Sub DefType). bottom_of s.comp) same ∙ bottom_kept (denote listed.tree) u.comp
          ∙ sym (bottom_kept (denote d.tree) u.comp) ∙ ap (λ (s : Sub DefType). bottom_of s.comp) named;
      no_supertype = λ n.
          let written : slice_get u.supers 0 ≡ None = none_renamed (denote d.tree) (slice_get u.supers 0) (sym (first_renamed (denote d.tree) u.supers) ∙ ap (λ (s : Sub DefType). supertype s) named ∙ n) in
          none_renamed at (slice_get here.supers 0)
          (sym (first_renamed at here.supers) ∙ ap (λ (s : Sub DefType). supertype s) same ∙ first_renamed (denote listed.tree) u.supers ∙ ap (option_map (denote listed.tree)) written);
    }))

-- where equal types aren't one there is no gc, and so no supertype
no_gc : (a b c d : Bool) → (a || b || c || d) ≡ false → a ≡ false
no_gc true b c d e = absurd cc
no_gc false b c d e = refl

none_by : {X : Type 0} (b : Bool) (o : Option X) → (IsTrue (b || is_some o) → ⊥) → o ≡ None
none_by b None h = refl
none_by true (Some x) h = absurd (h refl)
none_by false (Some x) h = absurd (h refl)

pub valid_alone : (F : Features) (d : DefType) → canonical F ≡ false → (v : IsValidType F declared d) → supertype v.sub ≡ None
valid_alone F d c v =
    let none = no_gc F.gc F.function_references F.stack_switching F.custom_descriptors c in
    none_by (not v.sub.is_final) (supertype v.sub) (λ t. let h : true ≡ false = sym (v.rules.subtyping_needs_gc t) ∙ none in cc)

-- what has no supertype has no other ancestor than itself
steps_to : {R : Type 0} (D : R → Option (Sub R)) (x y : R) → supertype_of D x ≡ None → (n : ℕ) → ancestor_at D n x ≡ Some y → x ≡ y
steps_to D x y none zero l = same_Some x y l
steps_to D x y none (suc n) l = absurd (none-some y (sym (ap (option_and_then (ancestor_at D n)) none) ∙ l))

pub only_itself : {R : Type 0} (D : R → Option (Sub R)) (x y : R) → supertype_of D x ≡ None → IsAncestor D x y → x ≡ y
only_itself D x y none p = steps_to D x y none p.steps p.leads

pub itself : {R : Type 0} (D : R → Option (Sub R)) (x y : R) → x ≡ y → IsAncestor D x y
itself D x y e = record { steps = 0; leads = ap Some e }

-- two types and their ids: they are ordered alike, and one where both are
pub record AreJoined (F : Features) (D : ℕ → Option (Sub ℕ)) (p q : TypeWithId) : Type 0 where
  pub order : IsAncestor D p.id q.id ↔ (IsAncestor declared p.ty q.ty × (canonical F ≡ false → p.id ≡ q.id))
  pub same : (p.id ≡ q.id) ↔ ((p.ty ≡ q.ty) × (canonical F ≡ false → p.id ≡ q.id))

-- where equal types aren't one and the first has no supertype
pub joined_apart : (F : Features) (D : ℕ → Option (Sub ℕ)) (p q : TypeWithId) → canonical F ≡ false → supertype_of D p.id ≡ None → (p.id ≡ q.id → p.ty ≡ q.ty) → AreJoined F D p q
joined_apart F D p q c none same = record {
  order = (
    (λ a. let e = only_itself D p.id q.id none a in (itself declared p.ty q.ty (same e), λ (d : canonical F ≡ false). e)),
    (λ h. itself D p.id q.id (h.1 c)),
  );
  same = ((λ e. (same e, λ (d : canonical F ≡ false). e)), (λ h. h.1 c));
}

-- where they are one
pub joined_as_one : (F : Features) (D : ℕ → Option (Sub ℕ)) (p q : TypeWithId) → canonical F ≡ true → IsAncestor D p.id q.id ↔ IsAncestor declared p.ty q.ty → (p.id ≡ q.id) ↔ (p.ty ≡ q.ty) → AreJoined F D p q
joined_as_one F D p q c order same = record {
  order = (
    (λ a. (order.0 a, λ (d : canonical F ≡ false). absurd (let h : true ≡ false = sym c ∙ d in cc))),
    (λ h. order.1 h.0),
  );
  same = (
    (λ e. (same.0 e, λ (d : canonical F ≡ false). absurd (let h : true ≡ false = sym c ∙ d in cc))),
    (λ h. same.1 h.0),
  );
}

-- value types that name such types
module _ (F : Features) (D : ℕ → Option (Sub ℕ)) (Here : TypeWithId → Type 0) (alike_here : (p : TypeWithId) → Here p → AreAlike D p.id p.ty) (joined_here : (p q : TypeWithId) → Here p → Here q → AreJoined F D p q) where
  kinds : (p : TypeWithId) (s : Bool) (k : AbstractHeap) → Here p → MatchesKind D p.id s k ↔ MatchesKind declared p.ty s k
  kinds p s k h =
      let a = alike_here p h in (
        (λ m.
            let e : m.sub ≡ a.here = same_Some m.sub a.here (sym m.declares ∙ a.id_declares) in
            record {
              sub = a.there;
              declares = a.type_declares;
              same_shared = sym a.same_shared ∙ sym (ap (λ (t : Sub ℕ). t.shared) e) ∙ m.same_shared;
              matches = subst (λ (x : AbstractHeap). MatchesAbstract x k) (ap (λ (t : Sub ℕ). kind_of t.comp) e ∙ a.same_kind) m.matches;
            }),
        (λ m.
            let e : m.sub ≡ a.there = same_Some m.sub a.there (sym m.declares ∙ a.type_declares) in
            record {
              sub = a.here;
              declares = a.id_declares;
              same_shared = a.same_shared ∙ sym (ap (λ (t : Sub DefType). t.shared) e) ∙ m.same_shared;
              matches = subst (λ (x : AbstractHeap). MatchesAbstract x k) (ap (λ (t : Sub DefType). kind_of t.comp) e ∙ sym a.same_kind) m.matches;
            }),
      )

  bottoms : (p : TypeWithId) (s : Bool) (k : AbstractHeap) → Here p → IsAboveBottom D p.id s k ↔ IsAboveBottom declared p.ty s k
  bottoms p s k h =
      let a = alike_here p h in (
        (λ m.
            let e : m.sub ≡ a.here = same_Some m.sub a.here (sym m.declares ∙ a.id_declares) in
            record {
              sub = a.there;
              declares = a.type_declares;
              same_shared = sym a.same_shared ∙ sym (ap (λ (t : Sub ℕ). t.shared) e) ∙ m.same_shared;
              is_bottom = sym a.same_bottom ∙ sym (ap (λ (t : Sub ℕ). bottom_of t.comp) e) ∙ m.is_bottom;
            }),
        (λ m.
            let e : m.sub ≡ a.there = same_Some m.sub a.there (sym m.declares ∙ a.type_declares) in
            record {
              sub = a.here;
              declares = a.id_declares;
              same_shared = a.same_shared ∙ sym (ap (λ (t : Sub DefType). t.shared) e) ∙ m.same_shared;
              is_bottom = a.same_bottom ∙ sym (ap (λ (t : Sub DefType). bottom_of t.comp) e) ∙ m.is_bottom;
            }),
      )

  -- no type, or one, on each side
  none_here : (qs : List TypeWithId) → AreUnderOneId [] qs
  none_here qs = All-nil (λ (p : TypeWithId). All (λ (q : TypeWithId). p.id ≡ q.id) qs)

  none_there : (p : TypeWithId) → AreUnderOneId (p ∷ []) []
  none_there p = All-cons (λ (p : TypeWithId). All (λ (q : TypeWithId). p.id ≡ q.id) []) p [] (All-nil (λ (q : TypeWithId). p.id ≡ q.id)) (none_here [])

  under_one : (p q : TypeWithId) → p.id ≡ q.id → AreUnderOneId (p ∷ []) (q ∷ [])
  under_one p q e =
      All-cons (λ (p : TypeWithId). All (λ (q : TypeWithId). p.id ≡ q.id) (q ∷ [])) p []
      (All-cons (λ (q : TypeWithId). p.id ≡ q.id) q [] e (All-nil (λ (q : TypeWithId). p.id ≡ q.id))) (none_here (q ∷ []))

  one_under : (p q : TypeWithId) → AreUnderOneId (p ∷ []) (q ∷ []) → p.id ≡ q.id
  one_under p q a = All-head (λ (q : TypeWithId). p.id ≡ q.id) q [] (All-head (λ (p : TypeWithId). All (λ (q : TypeWithId). p.id ≡ q.id) (q ∷ [])) p [] a)

  only : (p : TypeWithId) → All Here (p ∷ []) → Here p
  only p a = All-head Here p [] a

  -- the exception, of two types
  with_ids : {P Q : Type 0} (p q : TypeWithId) → P ↔ (Q × (canonical F ≡ false → p.id ≡ q.id)) → P ↔ (Q × (canonical F ≡ false → AreUnderOneId (p ∷ []) (q ∷ [])))
  with_ids p q h = ((λ m. let n = h.0 m in (n.0, λ (c : canonical F ≡ false). under_one p q (n.1 c))), (λ m. h.1 (m.0, λ (c : canonical F ≡ false). one_under p q (m.1 c))))

  -- where there is nothing to except
  as_well : {P Q X : Type 0} → P ↔ Q → X → P ↔ (Q × (canonical F ≡ false → X))
  as_well h x = ((λ m. (h.0 m, λ (c : canonical F ≡ false). x)), (λ m. h.1 m.0))

  heaps : (h k : Heap TypeWithId) → All Here (refs_heap h) → All Here (refs_heap k)
      → MatchesHeap D (map_heap its_id h) (map_heap its_id k) ↔ (MatchesHeap declared (map_heap its_type h) (map_heap its_type k) × (canonical F ≡ false → AreUnderOneId (refs_heap h) (refs_heap k)))
  heaps (abstract_heap s i) (abstract_heap t j) u v = as_well ((λ m. m), (λ m. m)) (none_here [])
  heaps (abstract_heap s i) (concrete q) u v = as_well (bottoms q s i (only q v)) (none_here (q ∷ []))
  heaps (abstract_heap s i) (exact q) u v = as_well (bottoms q s i (only q v)) (none_here (q ∷ []))
  heaps (concrete p) (abstract_heap t j) u v = as_well (kinds p t j (only p u)) (none_there p)
  heaps (concrete p) (concrete q) u v = with_ids p q (joined_here p q (only p u) (only q v)).order
  heaps (concrete p) (exact q) u v = ((λ m. absurd m), (λ m. absurd m.0))
  heaps (exact p) (abstract_heap t j) u v = as_well (kinds p t j (only p u)) (none_there p)
  heaps (exact p) (concrete q) u v = with_ids p q (joined_here p q (only p u) (only q v)).order
  heaps (exact p) (exact q) u v = with_ids p q (joined_here p q (only p u) (only q v)).same

  pub vals : (v w : Val TypeWithId) → All Here (refs_val v) → All Here (refs_val w)
      → MatchesVal D (map_val its_id v) (map_val its_id w) ↔ (MatchesVal declared (map_val its_type v) (map_val its_type w) × (canonical F ≡ false → AreUnderOneId (refs_val v) (refs_val w)))
  vals (reference r) (reference s) x y =
      let h = heaps r.heap s.heap x y in
      ((λ m. let n = h.0 m.1 in ((m.0, n.0), n.1)), (λ m. (m.0.0, h.1 (m.0.1, m.1))))
  vals i32 i32 x y = as_well ((λ m. m), (λ m. m)) (none_here [])
  vals i64 i64 x y = as_well ((λ m. m), (λ m. m)) (none_here [])
  vals f32 f32 x y = as_well ((λ m. m), (λ m. m)) (none_here [])
  vals f64 f64 x y = as_well ((λ m. m), (λ m. m)) (none_here [])
  vals v128 v128 x y = as_well ((λ m. m), (λ m. m)) (none_here [])
  vals v w x y = ((λ m. absurd m), (λ m. absurd m.0))
