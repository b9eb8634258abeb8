-- The types of a valid type section mention only types of it.
use Rattle.std.proofs.Common.{◌≡◌, refl, sym, ap, ◌∙◌, subst, ℕ, zero, suc, ◌+◌, ◌-◌, ◌<◌, ◌≤◌, nat_lt, Bool, true, false, not, ◌||◌, List, [], ◌∷◌, ◌++◌, map, length, slice_get, get_or, Some, arith, length-append}
use Rattle.std.specs.List.{Contains}
use Rattle.std.proofs.lemmas.Bool.{ltb-true, ltb-false}
use Rattle.std.proofs.lemmas.List.Elements.{All-from_recursion}
use Rattle.std.proofs.lemmas.Option.{none-some, slice_get-get_or, slice_get_within, get_or_from_slice_get, option_and_then_some}
use Rattle.wasm_spec.specs.Syntax.{Sub, Rec, map_sub}
use Rattle.wasm_spec.specs.References.{refs_sub}
use Rattle.wasm_spec.specs.Features.{Features, canonical}
use Rattle.wasm_spec.specs.Trees.{RecTree, DefType, close, declared}
use Rattle.wasm_spec.specs.Closing.{is_closable, are_closable, resolve, start_unless, closed, positions, with_group, with_groups}
use Rattle.wasm_spec.specs.TypeLaws.{ValidTypeSectionIsAccepted}
use Rattle.wasm_spec.proofs.Closing.{slice_get-append_left}
use Rattle.wasm_spec.proofs.Matching.{some-injective}
use Rattle.wasm_spec.proofs.ClosedGroups.{refs_sub-map}
use Rattle.wasm_spec.proofs.WrittenTypes.{Each, if_some, map_some, each_map, and_right, below_end, closable_at, types_declare_what_is_written}

-- elements by their place
contains_at : {X : Type 0} (xs : List X) (k : ℕ) (x : X) → slice_get xs k ≡ Some x → Contains xs x
contains_at xs k x e = (k, slice_get_within xs k x e, get_or_from_slice_get xs k x x e)

place_of : {X : Type 0} (xs : List X) (x : X) (c : Contains xs x) → slice_get xs c.0 ≡ Some x
place_of xs x c = slice_get-get_or xs c.0 x c.1 ∙ ap Some c.2

contains_front : {X : Type 0} (xs ys : List X) (x : X) → Contains xs x → Contains (xs ++ ys) x
contains_front xs ys x c = contains_at (xs ++ ys) c.0 x (slice_get-append_left xs ys c.0 c.1 ∙ place_of xs x c)

get_behind : {X : Type 0} (xs ys : List X) (k : ℕ) (x : X) → length xs ≤ k → slice_get (xs ++ ys) k ≡ Some x → slice_get ys (k - length xs) ≡ Some x
get_behind [] ys k x h e = let z : k - 0 ≡ k = omega arith in ap (slice_get ys) z ∙ e
get_behind (y ∷ xs) ys zero x h e = absurd (omega (arith, h))
get_behind (y ∷ xs) ys (suc k) x h e = let z : suc k - suc (length xs) ≡ k - length xs = omega arith in ap (slice_get ys) z ∙ get_behind xs ys k x (omega (arith, h)) e

pub length-positions : {X : Type 0} (t : RecTree) (i : ℕ) (xs : List X) → length (positions t i xs) ≡ length xs
length-positions t i [] = refl
length-positions t i (x ∷ xs) = ap suc (length-positions t (i + 1) xs)

position_of : {X : Type 0} (t : RecTree) (i : ℕ) (xs : List X) (k : ℕ) (d : DefType) → slice_get (positions t i xs) k ≡ Some d → (x : X) × (slice_get xs k ≡ Some x)
position_of t i [] k d e = absurd (none-some d e)
position_of t i (x ∷ xs) zero d e = (x, refl)
position_of t i (x ∷ xs) (suc k) d e = position_of t (i + 1) xs k d e

each_mapped : {X Y : Type 0} (P : Y → Type 0) (f : X → Y) (xs : List X) → Each (λ x. P (f x)) xs → Each P (map f xs)
each_mapped P f [] h = tt
each_mapped P f (x ∷ xs) h = (h.0, each_mapped P f xs h.1)

-- each type of the list mentions only types of it
abbrev MentionsItself : List DefType → Type 0
MentionsItself ts = (a : DefType) (s : Sub DefType) → Contains ts a → declared a ≡ Some s → Each (Contains ts) (refs_sub s)

module _ (F : Features) where
  refs_in_group : (ts : List DefType) (g : Rec ℕ) (k : ℕ) (s : Sub ℕ) → is_closable F (length ts) g ≡ true → slice_get g.types k ≡ Some s → Each (λ i. i < length ts + length g.types) (refs_sub s)
  refs_in_group ts g k s c f =
      let end = length ts + length g.types in
      let within : k < length g.types = slice_get_within g.types k s f in
      let all = and_right (not g.is_explicit || F.gc) (are_closable F (length ts) end (length ts) g.types) c in
      below_end F (length ts) end (length ts + k) s (omega arith) (omega (arith, within)) (closable_at F (length ts) end (length ts) g.types k s all f)

  -- a type of the group
  new_mentions : (ts us : List DefType) (g : Rec ℕ) (t : RecTree) → with_group F ts g ≡ Some us → closed F ts g ≡ Some t → ts ++ positions t 0 g.types ≡ us → (k : ℕ) (a : DefType) (s : Sub DefType) → slice_get (ts ++ positions t 0 g.types) (length ts + k) ≡ Some a → slice_get (positions t 0 g.types) k ≡ Some a → declared a ≡ Some s → Each (Contains us) (refs_sub s)
  new_mentions ts us g t e f same k a s at_k in_group d =
      let found = position_of t 0 g.types k a in_group in
      let w = found.0 in
      let c = if_some (is_closable F (length ts) g) (close (start_unless (canonical F) (length ts)) (map (map_sub (resolve ts)) g.types)) t f in
      let written = types_declare_what_is_written F ts us g e k w a found.1 (ap (λ l. slice_get l (length ts + k)) (sym same) ∙ at_k) in
      let is : map_sub (λ i. get_or us i a) w ≡ s = some-injective (map_sub (λ i. get_or us i a) w) s (sym written ∙ d) in
      let long : length us ≡ length ts + length g.types = ap length (sym same) ∙ length-append ts (positions t 0 g.types) ∙ ap (λ n. length ts + n) (length-positions t 0 g.types) in
      let each : Each (λ i. Contains us (get_or us i a)) (refs_sub w) =
      each_map (λ i. i < length ts + length g.types) (λ i. Contains us (get_or us i a)) (λ i l. contains_at us i (get_or us i a) (slice_get-get_or us i a (omega (arith, l, long)))) (refs_sub w) (refs_in_group ts g k w c.0 found.1) in
      subst (λ x. Each (Contains us) (refs_sub x)) is (subst (λ l. Each (Contains us) l) (sym (refs_sub-map (λ i. get_or us i a) w)) (each_mapped (Contains us) (λ i. get_or us i a) (refs_sub w) each))

  at_place : (ts us : List DefType) (g : Rec ℕ) (t : RecTree) → MentionsItself ts → with_group F ts g ≡ Some us → closed F ts g ≡ Some t → ts ++ positions t 0 g.types ≡ us → (k : ℕ) (a : DefType) (s : Sub DefType) (b : Bool) → nat_lt k (length ts) ≡ b → slice_get (ts ++ positions t 0 g.types) k ≡ Some a → declared a ≡ Some s → Each (Contains us) (refs_sub s)
  at_place ts us g t h e f same k a s true b i d =
      let l : k < length ts = ltb-true k (length ts) b in
      let old = h a s (contains_at ts k a (sym (slice_get-append_left ts (positions t 0 g.types) k l) ∙ i)) d in
      subst (λ l. Each (Contains l) (refs_sub s)) same (each_map (Contains ts) (Contains (ts ++ positions t 0 g.types)) (λ x c. contains_front ts (positions t 0 g.types) x c) (refs_sub s) old)
  at_place ts us g t h e f same k a s false b i d =
      let l : length ts ≤ k = ltb-false k (length ts) b in
      let split : k ≡ length ts + (k - length ts) = omega (arith, l) in
      new_mentions ts us g t e f same (k - length ts) a s (ap (slice_get (ts ++ positions t 0 g.types)) (sym split) ∙ i) (get_behind ts (positions t 0 g.types) k a l i) d

  group_mentions : (ts us : List DefType) (g : Rec ℕ) → MentionsItself ts → with_group F ts g ≡ Some us → MentionsItself us
  group_mentions ts us g h e a s c d =
      let m = map_some (λ t. ts ++ positions t 0 g.types) (closed F ts g) us e in
      at_place ts us g m.0 h e m.1 m.2 c.0 a s (nat_lt c.0 (length ts)) refl (ap (λ l. slice_get l c.0) m.2 ∙ place_of us a c) d

  groups_mention : (gs : List (Rec ℕ)) (ts us : List DefType) → MentionsItself ts → with_groups F ts gs ≡ Some us → MentionsItself us
  groups_mention [] ts us h e = subst MentionsItself (some-injective ts us e) h
  groups_mention (g ∷ gs) ts us h e = option_and_then_some (λ vs. with_groups F vs gs) (with_group F ts g) us e (λ vs a b. groups_mention gs vs us (group_mentions ts vs g h a) b)

nothing_mentions : MentionsItself []
nothing_mentions a s c d = absurd (omega (arith, c.1))

pub valid_type_section_is_accepted : ValidTypeSectionIsAccepted
valid_type_section_is_accepted F gs h = record {
  valid = h.valid;
  mentioned = λ a s c d. All-from_recursion (Contains h.types) (refs_sub s) (groups_mention F gs [] h.types nothing_mentions h.gives a s c d);
}
