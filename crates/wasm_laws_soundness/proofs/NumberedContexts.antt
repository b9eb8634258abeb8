-- What a module's context says of its types under their numbers: supertypes keep their kind, the tests are right, and without shared
-- types nothing is shared.
use Rattle.std.proofs.Common.{◌≡◌, refl, sym, ap, subst, ◌∙◌, ℕ, zero, suc, ◌<◌, ◌≤◌, ◌+◌, nat_eq, nat_lt, Bool, true, false, not, ◌&&◌, if◌then◌else◌, List, [], ◌∷◌, ◌++◌, map, length, slice_get, Option, Some, None, option_map, All, arith}
use Rattle.std.specs.Option.{option_and_then}
use Rattle.std.specs.List.{flat_map, Contains, list_all}
use Rattle.std.proofs.lemmas.Bool.{ltb-true, ltb-false}
use Rattle.std.proofs.lemmas.Bool.Decides.{Decides-eqb}
use Rattle.std.proofs.lemmas.List.Elements.{All-head, All-contains}
use Rattle.std.proofs.lemmas.Option.{slice_get-map, slice_get_within, slice_get-get_or, get_or_from_slice_get}
use Rattle.wasm_spec.specs.Syntax.{Heap, abstract_heap, concrete, exact, Val, i32, i64, f32, f64, v128, reference, unpacked, Comp, func, array, struct, cont, Sub, map_heap, map_val, map_comp, map_sub}
use Rattle.wasm_spec.specs.Features.{Features}
use Rattle.wasm_spec.specs.References.{refs_sub}
use Rattle.wasm_spec.specs.SupertypeOrder.{supertype, supertype_of, ancestor_at}
use Rattle.wasm_spec.specs.ValueTypes.{implies, abstract_needs, is_without_gc_types, allows_heap, allows_val, allows_storage}
use Rattle.wasm_spec.specs.Matching.{kind_of, shared_flag, is_shared_heap}
use Rattle.wasm_spec.specs.MatchingTests.{IsWorld}
use Rattle.wasm_spec.specs.Trees.{DefType, declared}
use Rattle.wasm_spec.specs.GroupRules.{storages, IsValidType}
use Rattle.wasm_spec.specs.TypeLaws.{IsLike, AreAccepted}
use Rattle.wasm_spec.proofs.Matching.{accepted_types_match_ancestors}
use Rattle.wasm_spec_steps.specs.WasmSpecRules.Contexts.{Context, declares_at, AreFirst}
use Rattle.wasm_spec_steps.specs.WasmSpecRules.Signatures.{Signature, signature_of}
use Rattle.wasm_spec_steps.specs.WasmSpecRules.Worlds.{declared_in, world_of}
use Rattle.wasm_spec_steps.proofs.WorldsDecided.{worlds_are_right}
use Rattle.wasm_spec_instructions.specs.ValueTypes.{IsInOrder, IsUnshared, AreUnshared}
use Rattle.wasm_spec_instructions.specs.Laws.{HasNoSharing}
use Rattle.wasm_spec_instructions.proofs.Attempts.{no, the_same, absent, and-both}
use Rattle.wasm_spec_instructions.proofs.Orders.{in_order}

-- options and lists
pub then_gives : {X Y : Type 0} (f : X → Option Y) (o : Option X) (y : Y) → option_and_then f o ≡ Some y → (x : X) × (o ≡ Some x) × (f x ≡ Some y)
then_gives f None y e = absurd (absent y e)
then_gives f (Some x) y e = (x, refl, e)

pub from_map : {X Y : Type 0} (g : X → Y) (o : Option X) (y : Y) → option_map g o ≡ Some y → (x : X) × (o ≡ Some x) × (g x ≡ y)
from_map g None y e = absurd (absent y e)
from_map g (Some x) y e = (x, refl, the_same (g x) y e)

first_of_all : (P : DefType → Type 0) (xs rest : List DefType) (x : DefType) → All P (xs ++ rest) → slice_get xs 0 ≡ Some x → P x
first_of_all P [] rest x a e = absurd (absent x e)
first_of_all P (z ∷ xs) rest x a e = subst P (the_same z x e) (All-head P z (xs ++ rest) a)

-- places of a list
pub place_of : {X : Type 0} (xs : List X) (x : X) (c : Contains xs x) → slice_get xs c.0 ≡ Some x
place_of xs x c = slice_get-get_or xs c.0 x c.1 ∙ ap Some c.2

pub contains_at : {X : Type 0} (xs : List X) (k : ℕ) (x : X) → slice_get xs k ≡ Some x → Contains xs x
contains_at xs k x e = (k, slice_get_within xs k x e, get_or_from_slice_get xs k x x e)

-- how many types of a list pass a test
one_if : Bool → ℕ
one_if true = 1
one_if false = 0

count : (DefType → Bool) → List DefType → ℕ
count f [] = 0
count f (x ∷ xs) = one_if (f x) + count f xs

one-most : (b : Bool) → one_if b ≤ 1
unfolding one_if
one-most true = omega arith
one-most false = omega arith

count-most : (f : DefType → Bool) (xs : List DefType) → count f xs ≤ length xs
unfolding count
count-most f [] = omega arith
count-most f (x ∷ xs) = omega (arith, one-most (f x), count-most f xs)

one-grows : (b c : Bool) → (b ≡ true → c ≡ true) → one_if b ≤ one_if c
unfolding one_if
one-grows true true h = omega arith
one-grows true false h = no (h refl)
one-grows false true h = omega arith
one-grows false false h = omega arith

count-grows : (f g : DefType → Bool) → ((x : DefType) → f x ≡ true → g x ≡ true) → (xs : List DefType) → count f xs ≤ count g xs
unfolding count
count-grows f g h [] = omega arith
count-grows f g h (x ∷ xs) = omega (arith, one-grows (f x) (g x) (h x), count-grows f g h xs)

one-more : (b c : Bool) → b ≡ false → c ≡ true → one_if b < one_if c
unfolding one_if
one-more false true e f = omega arith
one-more false false e f = no f
one-more true c e f = no (sym e)

count-more :
    (f g : DefType → Bool) → ((x : DefType) → f x ≡ true → g x ≡ true) → (xs : List DefType) (k : ℕ) (x : DefType) → slice_get xs k ≡ Some x → f x ≡ false → g x ≡ true
    → count f xs < count g xs
unfolding count
count-more f g h [] k x e a b = absurd (absent x e)
count-more f g h (y ∷ xs) zero x e a b =
    let s : y ≡ x = the_same y x e in
    let m : one_if (f y) < one_if (g y) = one-more (f y) (g y) (ap f s ∙ a) (ap g s ∙ b) in
    omega (arith, m, count-grows f g h xs)
count-more f g h (y ∷ xs) (suc k) x e a b = omega (arith, one-grows (f y) (g y) (h y), count-more f g h xs k x e a b)

-- how many ancestors a type has, itself among them, up to a limit
height : ℕ → Option DefType → ℕ
height zero o = 0
height (suc n) None = 0
height (suc n) (Some d) = suc (height n (supertype_of declared d))

height-stays : (n : ℕ) (o : Option DefType) → option_and_then (ancestor_at declared n) o ≡ None → height (suc n) o ≡ height n o
unfolding height
height-stays zero None e = refl
height-stays zero (Some d) e = absurd (absent d (sym e))
height-stays (suc n) None e = refl
height-stays (suc n) (Some d) e = ap suc (height-stays n (supertype_of declared d) e)

abbrev tall : DefType → ℕ
tall d = height 64 (Some d)

taller : (d x : DefType) → ancestor_at declared 64 d ≡ None → supertype_of declared d ≡ Some x → tall x < tall d
unfolding height
taller d x e f =
    let a : height 64 (supertype_of declared d) ≡ height 63 (supertype_of declared d) = height-stays 63 (supertype_of declared d) e in
    let b : height 64 (Some x) ≡ height 64 (supertype_of declared d) = ap (height 64) (sym f) in
    let c : tall d ≡ suc (height 63 (supertype_of declared d)) = refl in
    omega (arith, a, b, c)

is_lower : DefType → DefType → Bool
is_lower d x = nat_lt (tall x) (tall d)

lower-is : (i h : ℕ) → i < h → nat_lt i h ≡ true
lower-is i h l = go (nat_lt i h) refl
  where
    go : (b : Bool) → nat_lt i h ≡ b → nat_lt i h ≡ true
    go true e = e
    go false e = let m : h ≤ i = ltb-false i h e in absurd (omega (arith, l, m))

not_itself : (i : ℕ) → nat_lt i i ≡ false
not_itself i = go (nat_lt i i) refl
  where
    go : (b : Bool) → nat_lt i i ≡ b → nat_lt i i ≡ false
    go false e = e
    go true e = let m : i < i = ltb-true i i e in absurd (omega (arith, m))

module _ (N : DefType → ℕ) where
  abbrev pub entries : List DefType → List (ℕ × Sub ℕ)
  entries ds = flat_map (λ (d : DefType). declares_at N d (declared d)) ds

  -- an entry that is found
  pub record Entry (ds : List DefType) (a : ℕ) (s : Sub ℕ) : Type 0 where
    pub type : DefType
    pub place : ℕ
    pub there : slice_get ds place ≡ Some type
    pub number : N type ≡ a
    pub sub : Sub DefType
    pub declares : declared type ≡ Some sub
    pub is : map_sub N sub ≡ s

  behind : (d : DefType) (ds : List DefType) (a : ℕ) (s : Sub ℕ) → Entry ds a s → Entry (d ∷ ds) a s
  behind d ds a s e = record { type = e.type; place = suc e.place; there = e.there; number = e.number; sub = e.sub; declares = e.declares; is = e.is }

  pub entry_of : (ds : List DefType) (a : ℕ) (s : Sub ℕ) → declared_in nat_eq (entries ds) a ≡ Some s → Entry ds a s
  entry_of [] a s e = absurd (absent s e)
  entry_of (d ∷ ds) a s e = go (entry_of ds a s) (declared d) refl e
    where
      pick : (declared_in nat_eq (entries ds) a ≡ Some s → Entry ds a s) → (t : Sub DefType) → declared d ≡ Some t → (b : Bool) → nat_eq (N d) a ≡ b → (if b then Some (map_sub N t) else declared_in nat_eq (entries ds) a) ≡ Some s → Entry (d ∷ ds) a s
      pick ih t f true g h = record { type = d; place = 0; there = refl; number = (Decides-eqb (N d) a).0 g; sub = t; declares = f; is = the_same (map_sub N t) s h }
      pick ih t f false g h = behind d ds a s (ih h)

      go : (declared_in nat_eq (entries ds) a ≡ Some s → Entry ds a s) → (o : Option (Sub DefType)) → declared d ≡ o → declared_in nat_eq (declares_at N d o ++ entries ds) a ≡ Some s → Entry (d ∷ ds) a s
      go ih None f g = behind d ds a s (ih g)
      go ih (Some t) f g = pick ih t f (nat_eq (N d) a) refl g

  -- each type that declares something has an entry
  pub entry_for : (ds : List DefType) (k : ℕ) (d : DefType) (t : Sub DefType) → slice_get ds k ≡ Some d → declared d ≡ Some t → (s : Sub ℕ) × (declared_in nat_eq (entries ds) (N d) ≡ Some s)
  entry_for [] k d t e f = absurd (absent d e)
  entry_for (x ∷ ds) k d t e f = go (λ j g. entry_for ds j d t g f) (declared x) refl k e
    where
      pick : ((j : ℕ) → slice_get ds j ≡ Some d → (s : Sub ℕ) × (declared_in nat_eq (entries ds) (N d) ≡ Some s)) → (u : Sub DefType) (b : Bool) → nat_eq (N x) (N d) ≡ b → (k : ℕ) → slice_get (x ∷ ds) k ≡ Some d → (s : Sub ℕ) × ((if b then Some (map_sub N u) else declared_in nat_eq (entries ds) (N d)) ≡ Some s)
      pick ih u true g k e = (map_sub N u, refl)
      pick ih u false g zero e = no (sym g ∙ (Decides-eqb (N x) (N d)).1 (ap N (the_same x d e)))
      pick ih u false g (suc k) e = ih k e

      go : ((j : ℕ) → slice_get ds j ≡ Some d → (s : Sub ℕ) × (declared_in nat_eq (entries ds) (N d) ≡ Some s)) → (o : Option (Sub DefType)) → declared x ≡ o → (k : ℕ) → slice_get (x ∷ ds) k ≡ Some d → (s : Sub ℕ) × (declared_in nat_eq (declares_at N x o ++ entries ds) (N d) ≡ Some s)
      go ih None g zero e = absurd (absent t (sym g ∙ ap declared (the_same x d e) ∙ f))
      go ih None g (suc k) e = ih k e
      go ih (Some u) g k e = pick ih u (nat_eq (N x) (N d)) refl k e

  length-entries : (ds : List DefType) → ((k : ℕ) (d : DefType) → slice_get ds k ≡ Some d → (s : Sub DefType) × (declared d ≡ Some s)) → length (entries ds) ≡ length ds
  length-entries [] h = refl
  length-entries (d ∷ ds) h =
      let s = h 0 d refl in
      ap (λ (o : Option (Sub DefType)). length (declares_at N d o ++ entries ds)) s.1 ∙ ap suc (length-entries ds (λ k e g. h (suc k) e g))

pub kind-map : (N : DefType → ℕ) (c : Comp DefType) → kind_of (map_comp N c) ≡ kind_of c
kind-map N (func ps rs) = refl
kind-map N (array x) = refl
kind-map N (struct xs) = refl
kind-map N (cont r) = refl

allows-map : (N : DefType → ℕ) (F : Features) (v : Val DefType) → allows_val F (map_val N v) ≡ allows_val F v
allows-map N F i32 = refl
allows-map N F i64 = refl
allows-map N F f32 = refl
allows-map N F f64 = refl
allows-map N F v128 = refl
allows-map N F (reference r) = ap (λ (b : Bool). F.reference_types && b) (heap r.heap)
  where
    heap : (h : Heap DefType) → allows_heap F r.nullable (map_heap N h) ≡ allows_heap F r.nullable h
    heap (abstract_heap s k) = refl
    heap (concrete a) = refl
    heap (exact a) = refl

module _ (F : Features) (types ds : List DefType) (N : DefType → ℕ) (accepted : AreAccepted F declared types) (first : AreFirst types ds)
    (numbers : (k : ℕ) (d : DefType) → slice_get ds k ≡ Some d → N d ≡ k) (C : Context ℕ) (lists : C.declares ≡ entries N ds) where
  abbrev D : ℕ → Option (Sub ℕ)
  D = declared_in nat_eq C.declares

  listed : (a : ℕ) → D a ≡ declared_in nat_eq (entries N ds) a
  listed a = ap (λ (xs : List (ℕ × Sub ℕ)). declared_in nat_eq xs a) lists

  in_types : (k : ℕ) (d : DefType) → slice_get ds k ≡ Some d → Contains types d
  in_types k d e = All-contains (Contains types) ds d first.only (contains_at ds k d e)

  placed : (d : DefType) → Contains types d → (k : ℕ) × (slice_get ds k ≡ Some d)
  placed d c = let p = All-contains (Contains ds) types d first.all c in (p.0, place_of ds d p)

  valid : (k : ℕ) (d : DefType) → slice_get ds k ≡ Some d → IsValidType F declared d
  valid k d e = All-contains (IsValidType F declared) types d accepted.valid (in_types k d e)

  entry : (a : ℕ) (s : Sub ℕ) → D a ≡ Some s → Entry N ds a s
  entry a s e = entry_of N ds a s (sym (listed a) ∙ e)

  same_type : (j k : ℕ) (d e : DefType) → slice_get ds j ≡ Some d → slice_get ds k ≡ Some e → N d ≡ N e → d ≡ e
  same_type j k d e f g h = the_same d e (sym f ∙ ap (slice_get ds) (sym (numbers j d f) ∙ h ∙ numbers k e g) ∙ g)

  -- what the number of a type declares
  declares : (k : ℕ) (d : DefType) (t : Sub DefType) → slice_get ds k ≡ Some d → declared d ≡ Some t → D (N d) ≡ Some (map_sub N t)
  declares k d t e f =
      let s = entry_for N ds k d t e f in
      let x : Entry N ds (N d) s.0 = entry_of N ds (N d) s.0 s.1 in
      let y : x.type ≡ d = same_type x.place k x.type d x.there e x.number in
      let z : x.sub ≡ t = the_same x.sub t (sym x.declares ∙ ap declared y ∙ f) in
      listed (N d) ∙ s.1 ∙ ap (λ (w : Sub ℕ). Some w) (sym x.is ∙ ap (map_sub N) z)

  -- the supertype of an entry
  record Above (d : DefType) (y : ℕ) : Type 0 where
    type : DefType
    place : ℕ
    there : slice_get ds place ≡ Some type
    number : N type ≡ y
    above : supertype_of declared d ≡ Some type
    sub : Sub DefType
    is_declared : declared type ≡ Some sub

  above_of : (a : ℕ) (s : Sub ℕ) (y : ℕ) (x : Entry N ds a s) → supertype s ≡ Some y → Above x.type y
  above_of a s y x e =
      let b = from_map N (slice_get x.sub.supers 0) y (sym (slice_get-map N x.sub.supers 0) ∙ ap (λ (w : Sub ℕ). supertype w) x.is ∙ e) in
      let c : Contains types b.0 =
      first_of_all (Contains types) x.sub.supers (refs_sub (record x.sub { supers = [] })) b.0 (accepted.mentioned x.type x.sub (in_types x.place x.type x.there) x.declares) b.1 in
      let p = placed b.0 c in
      let v : IsValidType F declared b.0 = valid p.0 b.0 p.1 in
      record { type = b.0; place = p.0; there = p.1; number = b.2; above = ap (option_and_then supertype) x.declares ∙ b.1; sub = v.sub; is_declared = v.declares }

  -- supertypes keep their kind and shared flag
  keeps : (k a b : ℕ) (s : Sub ℕ) → ancestor_at D k a ≡ Some b → D a ≡ Some s → IsLike D b s
  keeps zero a b s e f = record { sub = s; declares = ap D (sym (the_same a b e)) ∙ f; same_shared = refl; same_kind = refl }
  keeps (suc k) a b s e f =
      let g = then_gives (ancestor_at D k) (supertype_of D a) b e in
      let x : Entry N ds a s = entry a s f in
      let u : Above x.type g.0 = above_of a s g.0 x (sym (ap (option_and_then supertype) f) ∙ g.1) in
      let l : IsLike declared u.type x.sub =
      (accepted_types_match_ancestors {R = DefType}).keep_kind F declared types accepted x.type (in_types x.place x.type x.there) u.type x.sub (record { steps = 1; leads = ap (option_and_then (ancestor_at declared 0)) u.above }) x.declares in
      let t : D g.0 ≡ Some (map_sub N l.sub) = ap D (sym u.number) ∙ declares u.place u.type l.sub u.there l.declares in
      let i : IsLike D b (map_sub N l.sub) = keeps k g.0 b (map_sub N l.sub) g.2 t in
      record {
        sub = i.sub;
        declares = i.declares;
        same_shared = i.same_shared ∙ l.same_shared ∙ ap (λ (w : Sub ℕ). w.shared) x.is;
        same_kind = i.same_kind ∙ kind-map N l.sub.comp ∙ l.same_kind ∙ sym (kind-map N x.sub.comp) ∙ ap (λ (w : Sub ℕ). kind_of w.comp) x.is;
      }

  -- no chain of supertypes is longer than the list
  rank : DefType → ℕ
  rank d = count (is_lower d) ds

  rank-grows : (d x : DefType) (k j : ℕ) → slice_get ds k ≡ Some d → slice_get ds j ≡ Some x → supertype_of declared d ≡ Some x → rank x < rank d
  unfolding is_lower rank
  rank-grows d x k j e f g =
      let v : IsValidType F declared d = valid k d e in
      let l : tall x < tall d = taller d x v.rules.few_ancestors g in
      count-more (is_lower x) (is_lower d) (λ z h. let m : tall z < tall x = ltb-true (tall z) (tall x) h in lower-is (tall z) (tall d) (omega (arith, l, m))) ds j x f (not_itself (tall x)) (lower-is (tall x) (tall d) l)

  climbs : (n a b k : ℕ) (d : DefType) → slice_get ds k ≡ Some d → N d ≡ a → ancestor_at D n a ≡ Some b → n ≤ rank d
  climbs zero a b k d e f g = omega arith
  climbs (suc n) a b k d e f g =
      let h = then_gives (ancestor_at D n) (supertype_of D a) b g in
      let s = then_gives supertype (D a) h.0 h.1 in
      let x : Entry N ds a s.0 = entry a s.0 s.1 in
      let y : x.type ≡ d = same_type x.place k x.type d x.there e (x.number ∙ sym f) in
      let u : Above x.type h.0 = above_of a s.0 h.0 x s.2 in
      let l : rank u.type < rank d = rank-grows d u.type k u.place e u.there (ap (supertype_of declared) (sym y) ∙ u.above) in
      let m : n ≤ rank u.type = climbs n h.0 b u.place u.type u.there u.number h.2 in
      omega (arith, l, m)

  few : (d : DefType) → rank d ≤ length C.declares
  unfolding rank
  few d =
      let m : count (is_lower d) ds ≤ length ds = count-most (is_lower d) ds in
      let n : length (entries N ds) ≡ length ds = length-entries N ds (λ k x e. let v = valid k x e in (v.sub, v.declares)) in
      let p : length C.declares ≡ length (entries N ds) = ap length lists in
      omega (arith, m, n, p)

  near : (n a b : ℕ) → ancestor_at D n a ≡ Some b → n ≤ length C.declares
  near zero a b e = omega arith
  near (suc n) a b e =
      let h = then_gives (ancestor_at D n) (supertype_of D a) b e in
      let s = then_gives supertype (D a) h.0 h.1 in
      let x : Entry N ds a s.0 = entry a s.0 s.1 in
      let l : suc n ≤ rank x.type = climbs (suc n) a b x.place x.type x.there x.number e in
      let m : rank x.type ≤ length C.declares = few x.type in
      omega (arith, l, m)

  right : IsWorld (world_of nat_eq C)
  right = worlds_are_right nat_eq C Decides-eqb (λ a b p. record { steps = p.steps; within = near p.steps a b p.leads; leads = p.leads })

  pub is_in_order : IsInOrder (world_of nat_eq C)
  is_in_order = in_order (world_of nat_eq C) right (λ a b s p e. keeps p.steps a b s p.leads e)

  -- without shared types
  module _ (off : F.shared_everything_threads ≡ false) where
    no_flag : (b : Bool) → (b ≡ true → F.shared_everything_threads ≡ true) → b ≡ false
    no_flag true h = no (sym off ∙ h refl)
    no_flag false h = refl

    flags : (a : ℕ) → shared_flag (D a) ≡ false
    flags a = go (D a) refl
      where
        go : (r : Option (Sub ℕ)) → D a ≡ r → shared_flag (D a) ≡ false
        go None e = ap shared_flag e
        go (Some s) e =
            let x : Entry N ds a s = entry a s e in
            let v : IsValidType F declared x.type = valid x.place x.type x.there in
            ap shared_flag e ∙ sym (ap (λ (w : Sub ℕ). w.shared) x.is) ∙ ap (λ (w : Sub DefType). w.shared) (the_same x.sub v.sub (sym x.declares ∙ v.declares)) ∙ no_flag v.sub.shared v.rules.shared_needs_shared_everything_threads

    allowed : (v : Val ℕ) → allows_val F v ≡ true → IsUnshared (world_of nat_eq C) v
    allowed i32 e = tt
    allowed i64 e = tt
    allowed f32 e = tt
    allowed f64 e = tt
    allowed v128 e = tt
    allowed (reference r) e = heap r.heap (and-both F.reference_types (allows_heap F r.nullable r.heap) e).1
      where
        heap : (h : Heap ℕ) → allows_heap F r.nullable h ≡ true → is_shared_heap D h ≡ false
        heap (concrete a) f = flags a
        heap (exact a) f = flags a
        heap (abstract_heap false k) f = refl
        heap (abstract_heap true k) f = no (ap (λ (b : Bool). b && implies (not (is_without_gc_types k)) F.gc_types && abstract_needs F r.nullable k) (sym off) ∙ f)

    all_allowed : (vs ws : List (Val DefType)) → list_all (allows_storage F) (map unpacked (vs ++ ws)) ≡ true → AreUnshared (world_of nat_eq C) (map (map_val N) vs) × AreUnshared (world_of nat_eq C) (map (map_val N) ws)
    all_allowed [] [] e = (tt, tt)
    all_allowed [] (w ∷ ws) e = let f = and-both (allows_val F w) (list_all (allows_storage F) (map unpacked ws)) e in (tt, (allowed (map_val N w) (allows-map N F w ∙ f.0), (all_allowed [] ws f.1).1))
    all_allowed (v ∷ vs) ws e =
        let f = and-both (allows_val F v) (list_all (allows_storage F) (map unpacked (vs ++ ws))) e in
        let g = all_allowed vs ws f.1 in
        ((allowed (map_val N v) (allows-map N F v ∙ f.0), g.0), g.1)

    signature : (c : Comp DefType) (g : Signature ℕ) → list_all (allows_storage F) (storages c) ≡ true → signature_of (map_comp N c) ≡ Some g → AreUnshared (world_of nat_eq C) g.takes × AreUnshared (world_of nat_eq C) g.gives
    signature (func ps rs) g e f =
        subst (λ (z : Signature ℕ). AreUnshared (world_of nat_eq C) z.takes × AreUnshared (world_of nat_eq C) z.gives) (the_same (record { takes = map (map_val N) ps; gives = map (map_val N) rs }) g f) (all_allowed ps rs e)
    signature (array x) g e f = absurd (absent g f)
    signature (struct xs) g e f = absurd (absent g f)
    signature (cont r) g e f = absurd (absent g f)

    pub has_no_sharing : HasNoSharing (world_of nat_eq C) F
    has_no_sharing = record {
      off = off;
      types = flags;
      signatures = λ a s g e f.
          let x : Entry N ds a s = entry a s e in
          let v : IsValidType F declared x.type = valid x.place x.type x.there in
          let y : v.sub ≡ x.sub = the_same v.sub x.sub (sym v.declares ∙ x.declares) in
          signature x.sub.comp g (ap (λ (w : Sub DefType). list_all (allows_storage F) (storages w.comp)) (sym y) ∙ v.rules.members_are_allowed) (ap (λ (w : Sub ℕ). signature_of w.comp) x.is ∙ f);
    }
