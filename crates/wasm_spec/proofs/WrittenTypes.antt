-- Each type of a type section declares what is written there.
use Rattle.std.proofs.Common.{◌≡◌, refl, sym, ap, ◌∙◌, subst, ℕ, zero, suc, ◌+◌, ◌-◌, ◌<◌, ◌≤◌, nat_lt, nat_le, Bool, true, false, true≢false, not, ◌&&◌, ◌||◌, if◌then◌else◌, List, [], ◌∷◌, ◌++◌, map, length, slice_get, get_or, Option, Some, None, option_map, arith}
use Rattle.std.specs.List.{list_all, AllByRecursion}
use Rattle.std.proofs.lemmas.Bool.{ltb-true, ltb-false}
use Rattle.std.proofs.lemmas.List.{get_or_append_left, get_or-append-add}
use Rattle.std.proofs.lemmas.List.Sums.{AllPass-from_list_all}
use Rattle.std.proofs.lemmas.List.Elements.{recursion_from_All}
use Rattle.std.proofs.lemmas.Option.{none-some, slice_get_past, slice_get-get_or, slice_get_within}
use Rattle.wasm_spec.specs.Syntax.{Sub, Rec, map_sub}
use Rattle.wasm_spec.specs.References.{refs_option, refs_comp, refs_sub}
use Rattle.wasm_spec.specs.Features.{Features, canonical}
use Rattle.wasm_spec.specs.Trees.{RecTree, DefType, close, members, denote, declared}
use Rattle.wasm_spec.specs.Closing.{is_in_bounds, are_closable, is_closable, use_of, resolve, start_unless, closed, positions}
use Rattle.wasm_spec.specs.TypeLaws.{TypesDeclareWhatIsWritten}
use Rattle.wasm_spec.proofs.ReferenceNumbers.{members-close}
use Rattle.wasm_spec.proofs.SyntaxMaps.{map_sub-map}
use Rattle.wasm_spec.proofs.Agreement.{agree_sub}
use Rattle.wasm_spec.proofs.Matching.{some-injective}

-- tests
and_left : (a b : Bool) → (a && b) ≡ true → a ≡ true
and_left true b e = refl
and_left false b e = e

pub and_right : (a b : Bool) → (a && b) ≡ true → b ≡ true
and_right true b e = e
and_right false b e = absurd (true≢false (sym e))

or_cases : {P : Type 0} (a b : Bool) → (a || b) ≡ true → (a ≡ true → P) → (b ≡ true → P) → P
or_cases true b e f g = f refl
or_cases false b e f g = g e

pub if_some : {X : Type 0} (c : Bool) (x y : X) → (if c then Some x else None) ≡ Some y → (c ≡ true) × (x ≡ y)
if_some true x y e = (refl, some-injective x y e)
if_some false x y e = absurd (none-some y e)

pub map_some : {X Y : Type 0} (f : X → Y) (o : Option X) (y : Y) → option_map f o ≡ Some y → (x : X) × (o ≡ Some x) × (f x ≡ y)
map_some f None y e = absurd (none-some y e)
map_some f (Some x) y e = (x, refl, some-injective (f x) y e)

-- lists
abbrev pub Each : {X : Type 0} → (X → Type 0) → List X → Type 0
Each P xs = AllByRecursion P xs

pub each_map : {X : Type 0} (P Q : X → Type 0) → ((x : X) → P x → Q x) → (xs : List X) → Each P xs → Each Q xs
each_map P Q f [] h = tt
each_map P Q f (x ∷ xs) h = (f x h.0, each_map P Q f xs h.1)

each_append : {X : Type 0} (P : X → Type 0) (xs ys : List X) → Each P xs → Each P ys → Each P (xs ++ ys)
each_append P [] ys h k = k
each_append P (x ∷ xs) ys h k = (h.0, each_append P xs ys h.1 k)

each_passed : {X : Type 0} (p : X → Bool) (Q : X → Type 0) → ((x : X) → p x ≡ true → Q x) → (xs : List X) → list_all p xs ≡ true → Each Q xs
each_passed p Q f xs e = each_map (λ x. p x ≡ true) Q f xs (recursion_from_All (λ x. p x ≡ true) xs (AllPass-from_list_all p xs e))

slice_get-append_right : {X : Type 0} (xs ys : List X) (k : ℕ) → slice_get (xs ++ ys) (length xs + k) ≡ slice_get ys k
slice_get-append_right [] ys k = let e : 0 + k ≡ k = omega arith in ap (slice_get ys) e
slice_get-append_right (x ∷ xs) ys k = let e : suc (length xs) + k ≡ suc (length xs + k) = omega arith in ap (slice_get (x ∷ xs ++ ys)) e ∙ slice_get-append_right xs ys k

slice_get-map : {X Y : Type 0} (f : X → Y) (xs : List X) (k : ℕ) (x : X) → slice_get xs k ≡ Some x → slice_get (map f xs) k ≡ Some (f x)
slice_get-map f [] zero x e = absurd (none-some x e)
slice_get-map f [] (suc k) x e = absurd (none-some x e)
slice_get-map f (y ∷ ys) zero x e = ap (option_map f) e
slice_get-map f (y ∷ ys) (suc k) x e = slice_get-map f ys k x e

-- the positions of a group
module _ (t : RecTree) where
  abbrev pub at : ℕ → DefType
  at i = record { tree = t; position = i }

  pub positions-get : {X : Type 0} (i : ℕ) (xs : List X) (k : ℕ) → k < length xs → slice_get (positions t i xs) k ≡ Some (at (i + k))
  positions-get i [] k h = absurd (omega (arith, h))
  positions-get i (x ∷ xs) zero h = let e : i ≡ i + 0 = omega arith in λ j. Some (at (e j))
  positions-get i (x ∷ xs) (suc k) h = let e : i + 1 + k ≡ i + suc k = omega arith in positions-get (i + 1) xs k (omega (arith, h)) ∙ (λ j. Some (at (e j)))

  pub positions-get_or : {X : Type 0} (i : ℕ) (xs : List X) (k : ℕ) (d : DefType) → k < length xs → get_or (positions t i xs) k d ≡ at (i + k)
  positions-get_or i [] k d h = absurd (omega (arith, h))
  positions-get_or i (x ∷ xs) zero d h = let e : i ≡ i + 0 = omega arith in λ j. at (e j)
  positions-get_or i (x ∷ xs) (suc k) d h = let e : i + 1 + k ≡ i + suc k = omega arith in positions-get_or (i + 1) xs k d (omega (arith, h)) ∙ (λ j. at (e j))

module _ (F : Features) where
  -- the references of a closable type are below the end of its group
  pub below_end : (start end n : ℕ) (s : Sub ℕ) → start ≤ end → n < end → is_in_bounds F start end n s ≡ true → Each (λ i. i < end) (refs_sub s)
  below_end start end n s h k e =
      let earlier : ℕ → Bool = λ i. nat_lt i n in
      let inside : ℕ → Bool = λ i. nat_lt i start || (F.gc && nat_lt i end) in
      let supers = list_all earlier s.supers in
      let describes = list_all earlier (refs_option s.describes) in
      let rest = list_all inside (refs_option s.descriptor ++ refs_comp s.comp) in
      let front : (supers && describes) ≡ true = and_left (supers && describes) rest e in
      let before : (i : ℕ) → earlier i ≡ true → i < end = λ i f. let l : i < n = ltb-true i n f in omega (arith, l, k) in
      let within : (i : ℕ) → inside i ≡ true → i < end = λ i f.
      or_cases (nat_lt i start) (F.gc && nat_lt i end) f
      (λ g. let l : i < start = ltb-true i start g in omega (arith, l, h))
      (λ g. ltb-true i end (and_right F.gc (nat_lt i end) g)) in
      each_append (λ i. i < end) s.supers (refs_option s.describes ++ (refs_option s.descriptor ++ refs_comp s.comp))
      (each_passed earlier (λ i. i < end) before s.supers (and_left supers describes front))
      (each_append (λ i. i < end) (refs_option s.describes) (refs_option s.descriptor ++ refs_comp s.comp)
      (each_passed earlier (λ i. i < end) before (refs_option s.describes) (and_right supers describes front))
      (each_passed inside (λ i. i < end) within (refs_option s.descriptor ++ refs_comp s.comp) (and_right (supers && describes) rest e)))

  pub closable_at : (start end n : ℕ) (ss : List (Sub ℕ)) (k : ℕ) (s : Sub ℕ) → are_closable F start end n ss ≡ true → slice_get ss k ≡ Some s → is_in_bounds F start end (n + k) s ≡ true
  closable_at start end n [] k s e f = absurd (none-some s f)
  closable_at start end n (x ∷ xs) zero s e f =
      let here = is_in_bounds F start end n x in
      let one = nat_le (length x.supers) 1 in
      let zero_more : n ≡ n + 0 = omega arith in
      subst (λ m. is_in_bounds F start end m s ≡ true) zero_more
      (subst (λ y. is_in_bounds F start end n y ≡ true) (some-injective x s f) (and_left here one (and_left (here && one) (are_closable F start end (n + 1) xs) e)))
  closable_at start end n (x ∷ xs) (suc k) s e f =
      let here = is_in_bounds F start end n x in
      let one = nat_le (length x.supers) 1 in
      let next : n + 1 + k ≡ n + suc k = omega arith in
      subst (λ m. is_in_bounds F start end m s ≡ true) next (closable_at start end (n + 1) xs k s (and_right (here && one) (are_closable F start end (n + 1) xs) e) f)

-- what a type index of a group stands for
stands_for : (ts : List DefType) (t : RecTree) (g : Rec ℕ) (d : DefType) (i : ℕ) (b : Bool) → nat_lt i (length ts) ≡ b → i < length ts + length g.types → denote t (resolve ts i) ≡ get_or (ts ++ positions t 0 g.types) i d
stands_for ts t g d i true e h =
    let l : i < length ts = ltb-true i (length ts) e in
    ap (λ o. denote t (use_of o (i - length ts))) (slice_get-get_or ts i d l) ∙ sym (get_or_append_left ts (positions t 0 g.types) d i l)
stands_for ts t g d i false e h =
    let l : length ts ≤ i = ltb-false i (length ts) e in
    let k = i - length ts in
    let split : length ts + k ≡ i = omega (arith, l) in
    let first : 0 + k ≡ k = omega arith in
    ap (λ o. denote t (use_of o k)) (slice_get_past ts i l)
    ∙ sym (ap (λ j. get_or (ts ++ positions t 0 g.types) j d) (sym split) ∙ get_or-append-add ts (positions t 0 g.types) k d ∙ positions-get_or t 0 g.types k d (omega (arith, h, l)) ∙ ap (at t) first)

declares-closed : (F : Features) (ts : List DefType) (g : Rec ℕ) (t : RecTree) (k : ℕ) (s : Sub ℕ) (d : DefType) → is_closable F (length ts) g ≡ true → close (start_unless (canonical F) (length ts)) (map (map_sub (resolve ts)) g.types) ≡ t → slice_get g.types k ≡ Some s → d ≡ record { tree = t; position = k } → declared d ≡ Some (map_sub (λ i. get_or (ts ++ positions t 0 g.types) i d) s)
unfolding declared
declares-closed F ts g t k s d c e f at_k =
    let subs = map (map_sub (resolve ts)) g.types in
    let held : members t ≡ subs = ap members (sym e) ∙ members-close (start_unless (canonical F) (length ts)) subs in
    let within : k < length g.types = slice_get_within g.types k s f in
    let whole = not g.is_explicit || F.gc in
    let all : are_closable F (length ts) (length ts + length g.types) (length ts) g.types ≡ true = and_right whole (are_closable F (length ts) (length ts + length g.types) (length ts) g.types) c in
    let bounds = closable_at F (length ts) (length ts + length g.types) (length ts) g.types k s all f in
    let refs = below_end F (length ts) (length ts + length g.types) (length ts + k) s (omega arith) (omega (arith, within)) bounds in
    ap (λ (x : DefType). option_map (map_sub (denote x.tree)) (slice_get (members x.tree) x.position)) at_k
    ∙ ap (λ l. option_map (map_sub (denote t)) (slice_get l k)) held
    ∙ ap (option_map (map_sub (denote t))) (slice_get-map (map_sub (resolve ts)) g.types k s f)
    ∙ ap Some (map_sub-map (denote t) (resolve ts) s
    ∙ agree_sub (λ i. denote t (resolve ts i)) (λ i. get_or (ts ++ positions t 0 g.types) i d) s
    (each_map (λ i. i < length ts + length g.types) (λ i. denote t (resolve ts i) ≡ get_or (ts ++ positions t 0 g.types) i d) (λ i h. stands_for ts t g d i (nat_lt i (length ts)) refl h) (refs_sub s) refs))

pub types_declare_what_is_written : TypesDeclareWhatIsWritten
types_declare_what_is_written F ts us g e k s d f at_k =
    let h = map_some (λ t. ts ++ positions t 0 g.types) (closed F ts g) us e in
    let t = h.0 in
    let c = if_some (is_closable F (length ts) g) (close (start_unless (canonical F) (length ts)) (map (map_sub (resolve ts)) g.types)) t h.1 in
    let first : 0 + k ≡ k = omega arith in
    let found : slice_get (ts ++ positions t 0 g.types) (length ts + k) ≡ Some (at t (0 + k)) = slice_get-append_right ts (positions t 0 g.types) k ∙ positions-get t 0 g.types k (slice_get_within g.types k s f) in
    let same : d ≡ at t k = some-injective d (at t k) (sym at_k ∙ ap (λ l. slice_get l (length ts + k)) (sym h.2) ∙ found ∙ ap (λ j. Some (at t j)) first) in
    declares-closed F ts g t k s d c.0 c.1 f same ∙ ap (λ l. Some (map_sub (λ i. get_or l i d) s)) h.2
