-- Among a module's types under their numbers, functions match as their types do.
use Rattle.std.proofs.Common.{◌≡◌, refl, sym, ap, subst, ◌∙◌, ℕ, zero, suc, nat_eq, Bool, true, false, not, ◌&&◌, ◌||◌, List, [], ◌∷◌, ◌++◌, map, length, slice_get, Option, Some, option_map, All, IsTrue}
use Rattle.std.specs.Option.{option_and_then}
use Rattle.std.specs.List.{flat_map, Contains, AllZip}
use Rattle.std.proofs.lemmas.Bool.Decides.{Decides-eqb}
use Rattle.std.proofs.lemmas.List.Elements.{All-nil, All-cons, All-head, All-tail, All-contains}
use Rattle.std.proofs.lemmas.Option.{slice_get-map}
use Rattle.wasm_spec.specs.Syntax.{AbstractHeap, Heap, abstract_heap, concrete, exact, Val, i32, i64, f32, f64, v128, reference, Comp, func, array, struct, cont, Sub, map_heap, map_val, map_comp, map_sub}
use Rattle.wasm_spec.specs.Features.{Features}
use Rattle.wasm_spec.specs.References.{refs_option, refs_heap, refs_val, refs_comp}
use Rattle.wasm_spec.specs.SupertypeOrder.{supertype, supertype_of, ancestor_at}
use Rattle.wasm_spec.specs.ValueTypes.{implies}
use Rattle.wasm_spec.specs.Matching.{kind_of, bottom_of, MatchesAbstract, MatchesHeap, MatchesVal, MatchesComp, MatchesSub}
use Rattle.wasm_spec.specs.MatchingTests.{number_of, same_flag, same_abstract, matches_abstract, matches_kind, is_above_bottom, World, matches_heap, matches_val}
use Rattle.wasm_spec.specs.Trees.{DefType, declared}
use Rattle.wasm_spec.specs.GroupRules.{IsValidType}
use Rattle.wasm_spec.specs.TypeLaws.{AreAccepted}
use Rattle.wasm_spec.proofs.Matching.{accepted_types_match_ancestors}
use Rattle.wasm_spec.proofs.MatchingTests.{tests_decide_matching}
use Rattle.wasm_spec_steps.specs.WasmSpecRules.Attempts.{◌>>=◌, passes}
use Rattle.wasm_spec_steps.specs.WasmSpecRules.Contexts.{Context, AreFirst}
use Rattle.wasm_spec_steps.specs.WasmSpecRules.Signatures.{Signature, signature_of}
use Rattle.wasm_spec_steps.specs.WasmSpecRules.Worlds.{declared_in, is_below, world_of}
use Rattle.wasm_spec_instructions.specs.ValueTypes.{vals, Match, none, each, IsInOrder}
use Rattle.wasm_spec_instructions.proofs.Attempts.{no, the_same, absent, bind-gives, passes-gives}
use Rattle.wasm_spec_instructions.proofs.OperandFits.{match-itself}
use Rattle.wasm_laws_soundness.proofs.NumberedContexts.{then_gives, from_map, place_of, contains_at, entries, Entry, entry_of, entry_for, kind-map}
use Rattle.wasm_laws_soundness.specs.Values.{signature_in}
use Rattle.wasm_laws_soundness.specs.StoreValidity.{FunctionsMatch}
use Rattle.wasm_laws_soundness.proofs.Steps.{vals-through}
use Rattle.wasm_laws_soundness.proofs.Values.{or-cases, or-second}

-- lists and truth values
module _ {X : Type 0} (P : X → Type 0) where
  all-first : (xs ys : List X) → All P (xs ++ ys) → All P xs
  all-first [] ys h = All-nil P
  all-first (x ∷ xs) ys h = All-cons P x xs (All-head P x (xs ++ ys) h) (all-first xs ys (All-tail P x (xs ++ ys) h))

  all-second : (xs ys : List X) → All P (xs ++ ys) → All P ys
  all-second [] ys h = h
  all-second (x ∷ xs) ys h = all-second xs ys (All-tail P x (xs ++ ys) h)

both-hold : (a b : Bool) → a ≡ true → b ≡ true → (a && b) ≡ true
both-hold true b e f = f
both-hold false b e f = no e

flag-itself : (s t : Bool) → s ≡ t → same_flag s t ≡ true
flag-itself true t e = sym e
flag-itself false t e = ap not (sym e)

module _ (N : DefType → ℕ) where
  bottom-map : (c : Comp DefType) → bottom_of (map_comp N c) ≡ bottom_of c
  bottom-map (func ps rs) = refl
  bottom-map (array x) = refl
  bottom-map (struct xs) = refl
  bottom-map (cont r) = refl

-- a supertype is above
below-itself : (xs : List (ℕ × Sub ℕ)) (n a : ℕ) → is_below nat_eq xs n a a ≡ true
below-itself xs zero a = (Decides-eqb a a).1 refl
below-itself xs (suc n) a = ap (λ (b : Bool). b || passes (λ c. is_below nat_eq xs n c a) (declared_in nat_eq xs a >>= supertype)) ((Decides-eqb a a).1 refl)

below-supertype :
    (xs : List (ℕ × Sub ℕ)) (a y : ℕ) (s : Sub ℕ) → declared_in nat_eq xs a ≡ Some s → supertype s ≡ Some y → is_below nat_eq xs (length xs) a y ≡ true
below-supertype [] a y s e f = absurd (absent s e)
below-supertype (x ∷ xs) a y s e f =
    or-second (nat_eq a y) (passes (λ c. is_below nat_eq (x ∷ xs) (length xs) c y) (declared_in nat_eq (x ∷ xs) a >>= supertype))
    (ap (λ (o : Option (Sub ℕ)). passes (λ c. is_below nat_eq (x ∷ xs) (length xs) c y) (o >>= supertype)) e
    ∙ ap (passes (λ c. is_below nat_eq (x ∷ xs) (length xs) c y)) f
    ∙ below-itself (x ∷ xs) (length xs) y)

module _ (F : Features) (types ds : List DefType) (N : DefType → ℕ) (accepted : AreAccepted F declared types) (first : AreFirst types ds)
    (numbers : (k : ℕ) (d : DefType) → slice_get ds k ≡ Some d → N d ≡ k) (C : Context ℕ) (lists : C.declares ≡ entries N ds)
    (o : IsInOrder (world_of nat_eq C)) where
  abbrev V : World ℕ
  V = world_of nat_eq C

  abbrev Known : List DefType → Type 0
  Known rs = All (Contains types) rs

  listed : (a : ℕ) → V.declared a ≡ declared_in nat_eq (entries N ds) a
  listed a = ap (λ (xs : List (ℕ × Sub ℕ)). declared_in nat_eq xs a) lists

  in_types : (k : ℕ) (d : DefType) → slice_get ds k ≡ Some d → Contains types d
  in_types k d e = All-contains (Contains types) ds d first.only (contains_at ds k d e)

  entry : (a : ℕ) (s : Sub ℕ) → V.declared a ≡ Some s → Entry N ds a s
  entry a s e = entry_of N ds a s (sym (listed a) ∙ e)

  -- what a type of the module declares, and its number does
  declares : (d : DefType) → Contains types d → (t : Sub DefType) × (declared d ≡ Some t) × (V.declared (N d) ≡ Some (map_sub N t))
  declares d c =
      let p = All-contains (Contains ds) types d first.all c in
      let e : slice_get ds p.0 ≡ Some d = place_of ds d p in
      let v : IsValidType F declared d = All-contains (IsValidType F declared) types d accepted.valid c in
      let s = entry_for N ds p.0 d v.sub e v.declares in
      let x : Entry N ds (N d) s.0 = entry_of N ds (N d) s.0 s.1 in
      let y : x.type ≡ d = the_same x.type d (sym x.there ∙ ap (slice_get ds) (sym (numbers x.place x.type x.there) ∙ x.number ∙ numbers p.0 d e) ∙ e) in
      let z : x.sub ≡ v.sub = the_same x.sub v.sub (sym x.declares ∙ ap declared y ∙ v.declares) in
      (v.sub, v.declares, listed (N d) ∙ s.1 ∙ ap (λ (w : Sub ℕ). Some w) (sym x.is ∙ ap (map_sub N) z))

  -- its supertype is one of them, too
  supertype_known : (d z : DefType) (t : Sub DefType) → Contains types d → declared d ≡ Some t → supertype t ≡ Some z → Contains types z
  supertype_known d z t c e f = head t.supers (refs_option t.describes ++ (refs_option t.descriptor ++ refs_comp t.comp)) (accepted.mentioned d t c e) f
    where
      head : (xs rest : List DefType) → Known (xs ++ rest) → slice_get xs 0 ≡ Some z → Contains types z
      head [] rest a g = absurd (absent z g)
      head (x ∷ xs) rest a g = subst (Contains types) (the_same x z g) (All-head (Contains types) x (xs ++ rest) a)

  -- types that match do so under their numbers
  ancestors-match : (n : ℕ) (a b : DefType) → Contains types a → ancestor_at declared n a ≡ Some b → V.below (N a) (N b) ≡ true
  ancestors-match zero a b c e = ap (λ (z : DefType). V.below (N a) (N z)) (sym (the_same a b e)) ∙ o.itself (concrete (N a))
  ancestors-match (suc n) a b c e =
      let z = then_gives (ancestor_at declared n) (supertype_of declared a) b e in
      let t = declares a c in
      let f : supertype t.0 ≡ Some z.0 = sym (ap (option_and_then supertype) t.1) ∙ z.1 in
      let g : supertype (map_sub N t.0) ≡ Some (N z.0) = slice_get-map N t.0.supers 0 ∙ ap (option_map N) f in
      o.through (concrete (N a)) (concrete (N z.0)) (concrete (N b)) (below-supertype C.declares (N a) (N z.0) (map_sub N t.0) t.2 g)
      (ancestors-match n z.0 b (supertype_known a z.0 t.0 c t.1 f) z.2)

  bottoms-match :
      (s : Bool) (k : AbstractHeap) (b : DefType) (t : Sub DefType) → Contains types b → declared b ≡ Some t → t.shared ≡ s → bottom_of t.comp ≡ k
      → is_above_bottom s k (V.declared (N b)) ≡ true
  bottoms-match s k b t c e f g =
      let u = declares b c in
      let w : u.0 ≡ t = the_same u.0 t (sym u.1 ∙ e) in
      ap (is_above_bottom s k) (u.2 ∙ ap (λ (z : Sub DefType). Some (map_sub N z)) w)
      ∙ both-hold (same_flag t.shared s) (same_abstract (bottom_of (map_comp N t.comp)) k) (flag-itself t.shared s f)
      (ap (λ (z : AbstractHeap). same_abstract z k) (bottom-map N t.comp ∙ g) ∙ same-itself k)
    where
      same-itself : (k : AbstractHeap) → same_abstract k k ≡ true
      same-itself k = (Decides-eqb (number_of k) (number_of k)).1 refl

  kinds-match :
      (s : Bool) (k : AbstractHeap) (a : DefType) (t : Sub DefType) → Contains types a → declared a ≡ Some t → t.shared ≡ s
      → MatchesAbstract (kind_of t.comp) k → matches_kind s k (V.declared (N a)) ≡ true
  kinds-match s k a t c e f g =
      let u = declares a c in
      let w : u.0 ≡ t = the_same u.0 t (sym u.1 ∙ e) in
      ap (matches_kind s k) (u.2 ∙ ap (λ (z : Sub DefType). Some (map_sub N z)) w)
      ∙ both-hold (same_flag t.shared s) (matches_abstract (kind_of (map_comp N t.comp)) k) (flag-itself t.shared s f)
      (ap (λ (z : AbstractHeap). matches_abstract z k) (kind-map N t.comp) ∙ ((tests_decide_matching {R = DefType}).abstract_types (kind_of t.comp) k).1 g)

  heaps-match :
      (h k : Heap DefType) → Known (refs_heap h) → Known (refs_heap k) → MatchesHeap declared h k → matches_heap V (map_heap N h) (map_heap N k) ≡ true
  heaps-match (abstract_heap s j) (abstract_heap t k) c d m =
      both-hold (same_flag s t) (matches_abstract j k) (flag-itself s t m.0) (((tests_decide_matching {R = DefType}).abstract_types j k).1 m.1)
  heaps-match (abstract_heap s k) (concrete b) c d m = bottoms-match s k b m.sub (All-head (Contains types) b [] d) m.declares m.same_shared m.is_bottom
  heaps-match (abstract_heap s k) (exact b) c d m = bottoms-match s k b m.sub (All-head (Contains types) b [] d) m.declares m.same_shared m.is_bottom
  heaps-match (concrete a) (abstract_heap t k) c d m = kinds-match t k a m.sub (All-head (Contains types) a [] c) m.declares m.same_shared m.matches
  heaps-match (exact a) (abstract_heap t k) c d m = kinds-match t k a m.sub (All-head (Contains types) a [] c) m.declares m.same_shared m.matches
  heaps-match (concrete a) (concrete b) c d m = ancestors-match m.steps a b (All-head (Contains types) a [] c) m.leads
  heaps-match (exact a) (concrete b) c d m = ancestors-match m.steps a b (All-head (Contains types) a [] c) m.leads
  heaps-match (exact a) (exact b) c d m = (Decides-eqb (N a) (N b)).1 (ap N m)
  heaps-match (concrete a) (exact b) c d m = absurd m

  vals-match : (v w : Val DefType) → Known (refs_val v) → Known (refs_val w) → MatchesVal declared v w → matches_val V (map_val N v) (map_val N w) ≡ true
  vals-match i32 i32 c d m = refl
  vals-match i64 i64 c d m = refl
  vals-match f32 f32 c d m = refl
  vals-match f64 f64 c d m = refl
  vals-match v128 v128 c d m = refl
  vals-match (reference r) (reference q) c d m =
      both-hold (implies r.nullable q.nullable) (matches_heap V (map_heap N r.heap) (map_heap N q.heap)) (null r.nullable q.nullable m.0)
      (heaps-match r.heap q.heap c d m.1)
    where
      null : (a b : Bool) → (IsTrue a → IsTrue b) → implies a b ≡ true
      null true true f = refl
      null true false f = no (f refl)
      null false b f = refl
  vals-match v w c d m = absurd m

  lists-match :
      (vs ws : List (Val DefType)) → Known (flat_map refs_val vs) → Known (flat_map refs_val ws) → AllZip (MatchesVal declared) vs ws
      → Match V (vals (map (map_val N) vs)) (vals (map (map_val N) ws))
  lists-match [] [] c d m = none
  lists-match (v ∷ vs) (w ∷ ws) c d m =
      each (vals-match v w (all-first (Contains types) (refs_val v) (flat_map refs_val vs) c)
      (all-first (Contains types) (refs_val w) (flat_map refs_val ws) d) m.0)
      (lists-match vs ws (all-second (Contains types) (refs_val v) (flat_map refs_val vs) c)
      (all-second (Contains types) (refs_val w) (flat_map refs_val ws) d) m.1)
  lists-match [] (w ∷ ws) c d m = absurd m
  lists-match (v ∷ vs) [] c d m = absurd m

  -- what is said of the signatures of a type and of one above it
  abbrev Goes : Option (Signature ℕ) → Signature ℕ → Type 0
  Goes f g = (h : Signature ℕ) × (f ≡ Some h) × Match V (vals g.takes) (vals h.takes) × Match V (vals h.gives) (vals g.gives)

  comps-match :
      (c e : Comp DefType) → Known (refs_comp c) → Known (refs_comp e) → MatchesComp declared c e → (g : Signature ℕ) → signature_of (map_comp N e) ≡ Some g
      → Goes (signature_of (map_comp N c)) g
  comps-match (func ps rs) (func qs ss) u v m g w =
      subst (Goes (Some (record { takes = map (map_val N) ps; gives = map (map_val N) rs })))
      (the_same (record { takes = map (map_val N) qs; gives = map (map_val N) ss }) g w) (
        record { takes = map (map_val N) ps; gives = map (map_val N) rs },
        refl,
        lists-match qs ps (all-first (Contains types) (flat_map refs_val qs) (flat_map refs_val ss) v)
            (all-first (Contains types) (flat_map refs_val ps) (flat_map refs_val rs) u) m.0,
        lists-match rs ss (all-second (Contains types) (flat_map refs_val ps) (flat_map refs_val rs) u)
            (all-second (Contains types) (flat_map refs_val qs) (flat_map refs_val ss) v) m.1,
      )
  comps-match c (array y) u v m g w = absurd (absent g w)
  comps-match c (struct ys) u v m g w = absurd (absent g w)
  comps-match c (cont r) u v m g w = absurd (absent g w)
  comps-match (array x) (func qs ss) u v m g w = absurd m
  comps-match (struct xs) (func qs ss) u v m g w = absurd m
  comps-match (cont r) (func qs ss) u v m g w = absurd m

  in_comp : (d : DefType) (t : Sub DefType) → Contains types d → declared d ≡ Some t → Known (refs_comp t.comp)
  in_comp d t c e =
      all-second (Contains types) (refs_option t.descriptor) (refs_comp t.comp)
      (all-second (Contains types) (refs_option t.describes) (refs_option t.descriptor ++ refs_comp t.comp)
      (all-second (Contains types) t.supers (refs_option t.describes ++ (refs_option t.descriptor ++ refs_comp t.comp)) (accepted.mentioned d t c e)))

  -- one step up, and any number of them
  step-match : (a y : ℕ) (s : Sub ℕ) (g : Signature ℕ) → V.declared a ≡ Some s → supertype s ≡ Some y → signature_in V y ≡ Some g → Goes (signature_in V a) g
  step-match a y s g e f w =
      let x : Entry N ds a s = entry a s e in
      let c : Contains types x.type = in_types x.place x.type x.there in
      let z = from_map N (slice_get x.sub.supers 0) y (sym (slice_get-map N x.sub.supers 0) ∙ ap (λ (w : Sub ℕ). supertype w) x.is ∙ f) in
      let k : Contains types z.0 = supertype_known x.type z.0 x.sub c x.declares z.1 in
      let t = declares z.0 k in
      let m : MatchesSub declared x.sub t.0 =
      (accepted_types_match_ancestors {R = DefType}).match_ancestors F declared types accepted x.type z.0 x.sub t.0 c
      (record { steps = 1; leads = ap (option_and_then (ancestor_at declared 0)) (ap (option_and_then supertype) x.declares ∙ z.1) }) x.declares t.1 in
      let v : signature_of (map_comp N t.0.comp) ≡ Some g =
      sym (ap (λ (o : Option (Sub ℕ)). o >>= λ s. signature_of s.comp) (ap V.declared (sym z.2) ∙ t.2)) ∙ w in
      let r = comps-match x.sub.comp t.0.comp (in_comp x.type x.sub c x.declares) (in_comp z.0 t.0 k t.1) m.comp g v in
      (r.0, ap (λ (o : Option (Sub ℕ)). o >>= λ s. signature_of s.comp) (e ∙ ap (λ (w : Sub ℕ). Some w) (sym x.is)) ∙ r.1, r.2, r.3)

  steps-match : (n a b : ℕ) (g : Signature ℕ) → is_below nat_eq C.declares n a b ≡ true → signature_in V b ≡ Some g → Goes (signature_in V a) g
  steps-match zero a b g e w = (g, ap (signature_in V) ((Decides-eqb a b).0 e) ∙ w, match-itself V o (vals g.takes), match-itself V o (vals g.gives))
  steps-match (suc n) a b g e w =
      or-cases (nat_eq a b) (passes (λ c. is_below nat_eq C.declares n c b) (V.declared a >>= supertype)) e
      (λ f. (g, ap (signature_in V) ((Decides-eqb a b).0 f) ∙ w, match-itself V o (vals g.takes), match-itself V o (vals g.gives)))
      (λ f. let c = passes-gives (λ c. is_below nat_eq C.declares n c b) (V.declared a >>= supertype) f in
      let s = bind-gives (V.declared a) supertype c.0 c.1 in
      let i = steps-match n c.0 b g c.2 w in
      let r = step-match a c.0 s.0 i.0 s.1 s.2 i.1 in
      (r.0, r.1, vals-through V o g.takes i.0.takes r.0.takes i.2 r.2, vals-through V o r.0.gives i.0.gives g.gives r.3 i.3))

  pub functions-match : FunctionsMatch V
  functions-match a b g e w = steps-match (length C.declares) a b g e w
