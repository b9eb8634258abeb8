-- Laws of recursive types, of closing, and of matching, as facts that a contract can name.
use Rattle.std.specs.Prelude.{get_or, Bool, ⊤, ◌≡◌, ◌≢◌, ℕ, ◌+◌, ◌<◌, ◌≤◌, true, false, List, [], ◌∷◌, ◌++◌, map, length, slice_get, Option, Some, None, IsTrue}
use Rattle.std.specs.Option.{option_and_then}
use Rattle.std.specs.Bool.{Decides}
use Rattle.std.specs.List.{All, Contains}
use Rattle.wasm_spec.specs.Syntax.{AbstractHeap, Heap, Ref, Val, Comp, Sub, Rec, map_sub, map_rec}
use Rattle.wasm_spec.specs.References.{refs_heap, refs_val, refs_comp, refs_sub}
use Rattle.wasm_spec.specs.Features.{Features, canonical}
use Rattle.wasm_spec.specs.Limits.{most_ancestors}
use Rattle.wasm_spec.specs.Trees.{RecTree, TypeUse, DefType, close, members, start_of, declared}
use Rattle.wasm_spec.specs.Closing.{closed, resolve, with_group, type_space}
use Rattle.wasm_spec.specs.TypeLists.{ListedUse, by_id, by_position, listed_from, listed_tree, with_listed, types_of}
use Rattle.wasm_spec.specs.SupertypeOrder.{IsAncestor, IsDepth, Links, ancestor_at}
use Rattle.wasm_spec.specs.Matching.{MatchesAbstract, kind_of, MatchesHeap, MatchesRef, MatchesVal, MatchesComp, MatchesSub}
use Rattle.wasm_spec.specs.MatchingTests.{World, IsWorld, matches_abstract, matches_heap, matches_ref, matches_val}
use Rattle.wasm_spec.specs.GroupRules.{IsValidType, IsValidTypeSection}

-- A recursive type has the sub types that it was closed from.
abbrev pub MembersOfClosed : Type 0
MembersOfClosed = (start : Option ℕ) (g : List (Sub TypeUse)) → members (close start g) ≡ g

-- It begins where it was said to.
abbrev pub StartOfClosed : Type 0
StartOfClosed = (start : Option ℕ) (g : List (Sub TypeUse)) → start_of (close start g) ≡ start

-- Equal recursive types were closed from equal lists of sub types.
abbrev pub EqualTreesEqualGroups : Type 0
EqualTreesEqualGroups = (start begin : Option ℕ) (g h : List (Sub TypeUse)) → close start g ≡ close begin h → (start ≡ begin) × (g ≡ h)

-- The type space of one more group is that of the groups before it, with the group's types.
abbrev pub AppendedGroup : Type 0
AppendedGroup = (F : Features) (gs : List (Rec ℕ)) (g : Rec ℕ) → type_space F (gs ++ g ∷ []) ≡ option_and_then (λ ts. with_group F ts g) (type_space F gs)

-- what the groups gs give, at the front of ts
pub record IsFrontOf (F : Features) (gs : List (Rec ℕ)) (ts : List DefType) : Type 0 where
  pub front : List DefType
  pub gives : type_space F gs ≡ Some front
  pub rest : List DefType
  pub is : ts ≡ front ++ rest

-- The type space of the first groups is the front of the type space of all.
abbrev pub FrontOfTypeSpace : Type 0
FrontOfTypeSpace = (F : Features) (gs hs : List (Rec ℕ)) (ts : List DefType) → type_space F (gs ++ hs) ≡ Some ts → IsFrontOf F gs ts

-- Groups put behind others leave the types of earlier indices as they were.
abbrev pub EarlierTypesStay : Type 0
EarlierTypesStay =
    (F : Features) (gs hs : List (Rec ℕ)) (ts us : List DefType) (k : ℕ)
    → type_space F gs ≡ Some ts → type_space F (gs ++ hs) ≡ Some us → k < length ts → slice_get us k ≡ slice_get ts k

-- With gc, a group of one type is the same whether `rec` is written or not.
abbrev pub SingleRecIsPlain : Type 0
SingleRecIsPlain =
    (F : Features) (ts : List DefType) (s : Sub ℕ) → IsTrue F.gc
    → closed F ts (record { is_explicit = true; types = s ∷ [] }) ≡ closed F ts (record { is_explicit = false; types = s ∷ [] })

-- Places of different groups are different types, equal positions too.
abbrev pub DifferentGroupsDifferentTypes : Type 0
DifferentGroupsDifferentTypes =
    (start begin : Option ℕ) (g h : List (Sub TypeUse)) (i j : ℕ) → g ≢ h
    → let a : DefType = record { tree = close start g; position = i } in let b : DefType = record { tree = close begin h; position = j } in a ≢ b

-- Where references aren't canonicalized, groups written at different indices are different.
abbrev pub EachWrittenGroupIsItsOwn : Type 0
EachWrittenGroupIsItsOwn =
    (F : Features) (ts us : List DefType) (g h : Rec ℕ) (t u : RecTree) → canonical F ≡ false
    → closed F ts g ≡ Some t → closed F us h ≡ Some u → length ts ≢ length us → t ≢ u

-- A group that mentions only itself is the same recursive type at whatever index it is written.
abbrev pub SelfMentionsAreOneTree : Type 0
SelfMentionsAreOneTree =
    (F : Features) (ts : List DefType) (g : Rec ℕ) → IsTrue (canonical F) → closed F ts (map_rec (λ i. length ts + i) g) ≡ closed F [] g

-- Each type of a type section declares what is written there, with each type index standing for the type at it.
abbrev pub TypesDeclareWhatIsWritten : Type 0
TypesDeclareWhatIsWritten =
    (F : Features) (ts us : List DefType) (g : Rec ℕ) → with_group F ts g ≡ Some us
    → (k : ℕ) (s : Sub ℕ) (d : DefType) → slice_get g.types k ≡ Some s → (slice_get us (length ts + k) ≡ Some d) → declared d ≡ Some (map_sub (λ i. get_or us i d) s)

-- A group behind others in a list leaves the types of earlier ids as they were.
abbrev pub AppendedListedGroup : Type 0
AppendedListedGroup = (c : Bool) (gs : List (List (Sub ListedUse))) (g : List (Sub ListedUse)) → types_of c (gs ++ g ∷ []) ≡ with_listed c (types_of c gs) g

abbrev pub EarlierIdsStay : Type 0
EarlierIdsStay = (c : Bool) (gs hs : List (List (Sub ListedUse))) (k : ℕ) → k < length (types_of c gs) → slice_get (types_of c (gs ++ hs)) k ≡ slice_get (types_of c gs) k

-- no type of the list has two ids
pub record HasNoRepetition (ts : List DefType) : Type 0 where
  pub one_id : (j k : ℕ) (d : DefType) → slice_get ts j ≡ Some d → slice_get ts k ≡ Some d → j ≡ k

-- an id of the list, or a position
abbrev pub IsKnownUse : List DefType → ListedUse → Type 0
IsKnownUse ts (by_id k) = k < length ts
IsKnownUse ts (by_position i) = ⊤

-- each use in a group is known
pub record MentionsKnown (ts : List DefType) (g : List (Sub ListedUse)) : Type 0 where
  pub known : All (λ s. All (IsKnownUse ts) (refs_sub s)) g

-- Behind a list with no repetition, equal recursive types come from equal groups, so that trees can be compared by ids.
abbrev pub EqualTreesEqualListedGroups : Type 0
EqualTreesEqualListedGroups =
    (c : Bool) (ts : List DefType) (g h : List (Sub ListedUse))
    → HasNoRepetition ts → MentionsKnown ts g → MentionsKnown ts h → listed_tree c ts g ≡ listed_tree c ts h → g ≡ h

-- each id is that of the type at its place
pub record AreIdsOf (us : List DefType) (ids : List ℕ) (ts : List DefType) : Type 0 where
  pub as_many : length ids ≡ length ts
  pub each : (k id : ℕ) → slice_get ids k ≡ Some id → slice_get us id ≡ slice_get ts k

-- A module's group, written by ids in a list of canonical types, is the recursive type that it is in the module.
abbrev pub ListedGroupIsWrittenGroup : Type 0
ListedGroupIsWrittenGroup =
    (us ts : List DefType) (ids : List ℕ) (g : List (Sub ℕ)) → AreIdsOf us ids ts
    → listed_tree true us (map (map_sub (listed_from ids)) g) ≡ close None (map (map_sub (resolve ts)) g)

-- Matching is reflexive.
pub record MatchingIsReflexive (R : Type 0) : Type 0 where
  pub heap_types : (D : R → Option (Sub R)) (h : Heap R) → MatchesHeap D h h
  pub reference_types : (D : R → Option (Sub R)) (r : Ref R) → MatchesRef D r r
  pub value_types : (D : R → Option (Sub R)) (v : Val R) → MatchesVal D v v
  pub composite_types : (D : R → Option (Sub R)) (c : Comp R) → MatchesComp D c c
  pub sub_types : (D : R → Option (Sub R)) (s : Sub R) → MatchesSub D s s

-- The tests of a world that is right decide matching.
pub record TestsDecideMatching (R : Type 0) : Type 0 where
  pub abstract_types : (a b : AbstractHeap) → Decides (matches_abstract a b) (MatchesAbstract a b)
  pub heap_types : (W : World R) → IsWorld W → (h k : Heap R) → Decides (matches_heap W h k) (MatchesHeap W.declared h k)
  pub reference_types : (W : World R) → IsWorld W → (r s : Ref R) → Decides (matches_ref W r s) (MatchesRef W.declared r s)
  pub value_types : (W : World R) → IsWorld W → (v w : Val R) → Decides (matches_val W v w) (MatchesVal W.declared v w)

-- what b declares has the shared flag and the kind of s
pub record IsLike {R : Type 0} (D : R → Option (Sub R)) (b : R) (s : Sub R) : Type 0 where
  pub sub : Sub R
  pub declares : D b ≡ Some sub
  pub same_shared : sub.shared ≡ s.shared
  pub same_kind : kind_of sub.comp ≡ kind_of s.comp

-- each ancestor of a is declared, with the shared flag and the kind of a
abbrev pub KeepsKind : {R : Type 0} → (R → Option (Sub R)) → R → Type 0
KeepsKind {R} D a = (b : R) (s : Sub R) → IsAncestor D a b → D a ≡ Some s → IsLike D b s

-- Matching is transitive between types whose supertypes keep their kind and shared flag.
pub record MatchingIsTransitive (R : Type 0) : Type 0 where
  pub heap_types : (D : R → Option (Sub R)) (h k l : Heap R) → All (KeepsKind D) (refs_heap h) → All (KeepsKind D) (refs_heap k) → MatchesHeap D h k → MatchesHeap D k l → MatchesHeap D h l
  pub reference_types : (D : R → Option (Sub R)) (r s t : Ref R) → All (KeepsKind D) (refs_heap r.heap) → All (KeepsKind D) (refs_heap s.heap) → MatchesRef D r s → MatchesRef D s t → MatchesRef D r t
  pub value_types : (D : R → Option (Sub R)) (v w x : Val R) → All (KeepsKind D) (refs_val v) → All (KeepsKind D) (refs_val w) → MatchesVal D v w → MatchesVal D w x → MatchesVal D v x
  pub composite_types : (D : R → Option (Sub R)) (c d e : Comp R) → All (KeepsKind D) (refs_comp c) → All (KeepsKind D) (refs_comp d) → All (KeepsKind D) (refs_comp e) → MatchesComp D c d → MatchesComp D d e → MatchesComp D c e

-- the chain of supertypes of a ends
pub record EndsAbove {R : Type 0} (D : R → Option (Sub R)) (a : R) : Type 0 where
  pub steps : ℕ
  pub ends : ancestor_at D steps a ≡ None

-- Matching is antisymmetric between types whose chains of supertypes end.
pub record MatchingIsAntisymmetric (R : Type 0) : Type 0 where
  pub heap_types : (D : R → Option (Sub R)) (h k : Heap R) → All (EndsAbove D) (refs_heap h) → MatchesHeap D h k → MatchesHeap D k h → h ≡ k
  pub value_types : (D : R → Option (Sub R)) (v w : Val R) → All (EndsAbove D) (refs_val v) → MatchesVal D v w → MatchesVal D w v → v ≡ w

-- Types that are accepted: each of the list is valid, and mentions only types of the list.
pub record AreAccepted {R : Type 0} (F : Features) (D : R → Option (Sub R)) (ts : List R) : Type 0 where
  pub valid : All (IsValidType F D) ts
  pub mentioned : (a : R) (s : Sub R) → Contains ts a → D a ≡ Some s → All (Contains ts) (refs_sub s)

-- Supertypes of accepted types keep their kind and shared flag, and their chains end, so that matching is an order
-- between accepted types. And an accepted type matches each of its ancestors.
pub record AcceptedTypesMatchAncestors (R : Type 0) : Type 0 where
  pub keep_kind : (F : Features) (D : R → Option (Sub R)) (ts : List R) → AreAccepted F D ts → (a : R) → Contains ts a → KeepsKind D a
  pub end_above : (F : Features) (D : R → Option (Sub R)) (ts : List R) → AreAccepted F D ts → (a : R) → Contains ts a → EndsAbove D a
  pub match_ancestors :
      (F : Features) (D : R → Option (Sub R)) (ts : List R) → AreAccepted F D ts
      → (a b : R) (s t : Sub R) → Contains ts a → IsAncestor D a b → D a ≡ Some s → D b ≡ Some t → MatchesSub D s t

-- The types of a valid type section are accepted.
abbrev pub ValidTypeSectionIsAccepted : Type 0
ValidTypeSectionIsAccepted = (F : Features) (gs : List (Rec ℕ)) (h : IsValidTypeSection F gs) → AreAccepted F declared h.types

-- A type has one number of proper ancestors at most, and a valid one at most 63 of them, so that no more links than
-- these are followed from it.
pub record DepthsAreSmall (R : Type 0) : Type 0 where
  pub one_depth : (D : R → Option (Sub R)) (a : R) (m n : ℕ) → IsDepth D a m → IsDepth D a n → m ≡ n
  pub few_ancestors : (F : Features) (D : R → Option (Sub R)) (a : R) (n : ℕ) → IsValidType F D a → IsDepth D a n → n ≤ most_ancestors
  pub few_links : (F : Features) (D : R → Option (Sub R)) (a b : R) (n : ℕ) → IsValidType F D a → Links D a b n → n ≤ most_ancestors
