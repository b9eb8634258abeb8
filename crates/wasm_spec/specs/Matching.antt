-- Matching (subtyping) of heap types, reference types, value types, storage types, field types and composite types,
-- over any kind of identity R, where `D` is what each R declares. Core Specification 3.0, Validation, Matching, with
-- the shared flags, exact types and continuations of the proposals.
use Rattle.std.specs.Prelude.{◌≡◌, Bool, true, false, List, [], ◌∷◌, Option, Some, None, IsTrue, ⊤}
use Rattle.std.specs.Option.{option_map}
use Rattle.std.specs.List.{AllZip}
use Rattle.wasm_spec.specs.Syntax.{AbstractHeap, any_heap, eq_heap, i31_heap, struct_heap, array_heap, none_heap, func_heap, nofunc_heap, extern_heap, noextern_heap, exn_heap, noexn_heap, cont_heap, nocont_heap, Heap, abstract_heap, concrete, exact, Ref, Val, i32, i64, f32, f64, v128, reference, Storage, i8, i16, unpacked, Field, Comp, func, array, struct, cont, Sub}
use Rattle.wasm_spec.specs.SupertypeOrder.{IsAncestor}

-- The rules between abstract heap types, and any number of them one after another.
pub data AbstractRule : AbstractHeap → AbstractHeap → Type 0 where
  none-i31 : AbstractRule none_heap i31_heap
  none-struct : AbstractRule none_heap struct_heap
  none-array : AbstractRule none_heap array_heap
  i31-eq : AbstractRule i31_heap eq_heap
  struct-eq : AbstractRule struct_heap eq_heap
  array-eq : AbstractRule array_heap eq_heap
  eq-any : AbstractRule eq_heap any_heap
  nofunc-func : AbstractRule nofunc_heap func_heap
  noextern-extern : AbstractRule noextern_heap extern_heap
  noexn-exn : AbstractRule noexn_heap exn_heap
  nocont-cont : AbstractRule nocont_heap cont_heap

pub data MatchesAbstract : AbstractHeap → AbstractHeap → Type 0 where
  itself : {a : AbstractHeap} → MatchesAbstract a a
  further : {a b c : AbstractHeap} → AbstractRule a b → MatchesAbstract b c → MatchesAbstract a c

-- the abstract heap type of all types of a composite type's kind, and the one below them all
abbrev pub kind_of : {R : Type 0} → Comp R → AbstractHeap
kind_of (func ps rs) = func_heap
kind_of (array x) = array_heap
kind_of (struct xs) = struct_heap
kind_of (cont r) = cont_heap

abbrev pub bottom_of : {R : Type 0} → Comp R → AbstractHeap
bottom_of (func ps rs) = nofunc_heap
bottom_of (array x) = none_heap
bottom_of (struct xs) = none_heap
bottom_of (cont r) = nocont_heap

-- the greatest type of the hierarchy of an abstract heap type
abbrev pub top_of : AbstractHeap → AbstractHeap
top_of any_heap = any_heap
top_of eq_heap = any_heap
top_of i31_heap = any_heap
top_of struct_heap = any_heap
top_of array_heap = any_heap
top_of none_heap = any_heap
top_of func_heap = func_heap
top_of nofunc_heap = func_heap
top_of extern_heap = extern_heap
top_of noextern_heap = extern_heap
top_of exn_heap = exn_heap
top_of noexn_heap = exn_heap
top_of cont_heap = cont_heap
top_of nocont_heap = cont_heap

-- the shared flag of what is declared, if anything is
abbrev pub shared_flag : {R : Type 0} → Option (Sub R) → Bool
shared_flag None = false
shared_flag (Some s) = s.shared

-- a declares a type with this shared flag, and its kind matches k
pub record MatchesKind {R : Type 0} (D : R → Option (Sub R)) (a : R) (shared : Bool) (k : AbstractHeap) : Type 0 where
  pub sub : Sub R
  pub declares : D a ≡ Some sub
  pub same_shared : sub.shared ≡ shared
  pub matches : MatchesAbstract (kind_of sub.comp) k

-- a declares a type with this shared flag, and k is the abstract heap type below its kind
pub record IsAboveBottom {R : Type 0} (D : R → Option (Sub R)) (a : R) (shared : Bool) (k : AbstractHeap) : Type 0 where
  pub sub : Sub R
  pub declares : D a ≡ Some sub
  pub same_shared : sub.shared ≡ shared
  pub is_bottom : bottom_of sub.comp ≡ k

module _ {R : Type 0} (D : R → Option (Sub R)) where
  abbrev pub MatchesHeap : Heap R → Heap R → Type 0
  MatchesHeap (abstract_heap s j) (abstract_heap t k) = (s ≡ t) × MatchesAbstract j k
  MatchesHeap (abstract_heap s k) (concrete b) = IsAboveBottom D b s k
  MatchesHeap (abstract_heap s k) (exact b) = IsAboveBottom D b s k
  MatchesHeap (concrete a) (abstract_heap t k) = MatchesKind D a t k
  MatchesHeap (concrete a) (concrete b) = IsAncestor D a b
  MatchesHeap (concrete a) (exact b) = ⊥
  MatchesHeap (exact a) (abstract_heap t k) = MatchesKind D a t k
  MatchesHeap (exact a) (concrete b) = IsAncestor D a b
  MatchesHeap (exact a) (exact b) = a ≡ b

  -- the greatest type of the hierarchy that a heap type stands in, with its shared flag
  abbrev pub top_of_heap : Heap R → Option (Heap R)
  top_of_heap (abstract_heap s a) = Some (abstract_heap s (top_of a))
  top_of_heap (concrete a) = option_map (λ s. abstract_heap s.shared (top_of (kind_of s.comp))) (D a)
  top_of_heap (exact a) = option_map (λ s. abstract_heap s.shared (top_of (kind_of s.comp))) (D a)

  -- what may be null matches only what may be
  abbrev pub MatchesRef : Ref R → Ref R → Type 0
  MatchesRef r s = (IsTrue r.nullable → IsTrue s.nullable) × MatchesHeap r.heap s.heap

  abbrev pub MatchesVal : Val R → Val R → Type 0
  MatchesVal i32 i32 = ⊤
  MatchesVal i64 i64 = ⊤
  MatchesVal f32 f32 = ⊤
  MatchesVal f64 f64 = ⊤
  MatchesVal v128 v128 = ⊤
  MatchesVal (reference r) (reference s) = MatchesRef r s
  MatchesVal _ _ = ⊥

  abbrev pub MatchesStorage : Storage R → Storage R → Type 0
  MatchesStorage i8 i8 = ⊤
  MatchesStorage i16 i16 = ⊤
  MatchesStorage (unpacked v) (unpacked w) = MatchesVal v w
  MatchesStorage _ _ = ⊥

-- both immutable, and the storage matches; or both mutable, and it matches in both directions
pub record MatchesField {R : Type 0} (D : R → Option (Sub R)) (x y : Field R) : Type 0 where
  pub same_mutable : x.mutable ≡ y.mutable
  pub storage : MatchesStorage D x.storage y.storage
  pub back : IsTrue x.mutable → MatchesStorage D y.storage x.storage

module _ {R : Type 0} (D : R → Option (Sub R)) where
  -- the fields of the second match place by place, and the first may have more
  abbrev pub MatchesFields : List (Field R) → List (Field R) → Type 0
  MatchesFields xs [] = ⊤
  MatchesFields [] (y ∷ ys) = ⊥
  MatchesFields (x ∷ xs) (y ∷ ys) = MatchesField D x y × MatchesFields xs ys

  -- composite types: parameters match the other way round, and a continuation's type as a reference to it
  abbrev pub MatchesComp : Comp R → Comp R → Type 0
  MatchesComp (func ps rs) (func qs ss) = AllZip (MatchesVal D) qs ps × AllZip (MatchesVal D) rs ss
  MatchesComp (array x) (array y) = MatchesField D x y
  MatchesComp (struct xs) (struct ys) = MatchesFields xs ys
  MatchesComp (cont a) (cont b) = MatchesHeap D (concrete a) (concrete b)
  MatchesComp _ _ = ⊥

  -- whether values of these types may be shared; what a packed field holds may be
  abbrev pub is_shared_type : R → Bool
  is_shared_type a = shared_flag (D a)

  abbrev pub is_shared_heap : Heap R → Bool
  is_shared_heap (abstract_heap s a) = s
  is_shared_heap (concrete a) = is_shared_type a
  is_shared_heap (exact a) = is_shared_type a

  abbrev pub is_shared_val : Val R → Bool
  is_shared_val (reference r) = is_shared_heap r.heap
  is_shared_val _ = true

  abbrev pub is_shared_storage : Storage R → Bool
  is_shared_storage (unpacked v) = is_shared_val v
  is_shared_storage _ = true

-- the composite type of a with its shared flag matches that of b
pub record MatchesSub {R : Type 0} (D : R → Option (Sub R)) (s t : Sub R) : Type 0 where
  pub same_shared : s.shared ≡ t.shared
  pub comp : MatchesComp D s.comp t.comp
