-- Matching as a test, for identities of which the declared order and equality can be tested.
-- Core Specification 3.0, Validation, Matching.
use Rattle.std.specs.Prelude.{◌≡◌, ℕ, Bool, true, false, not, ◌&&◌, ◌==◌, List, [], ◌∷◌, Option, Some, None}
use Rattle.std.specs.Bool.{Decides}
use Rattle.std.specs.List.{list_any}
use Rattle.wasm_spec.specs.Syntax.{AbstractHeap, any_heap, eq_heap, i31_heap, struct_heap, array_heap, none_heap, func_heap, nofunc_heap, extern_heap, noextern_heap, exn_heap, noexn_heap, cont_heap, nocont_heap, Heap, abstract_heap, concrete, exact, Ref, Val, i32, i64, f32, f64, v128, reference, Sub}
use Rattle.wasm_spec.specs.SupertypeOrder.{IsAncestor}
use Rattle.wasm_spec.specs.ValueTypes.{implies}
use Rattle.wasm_spec.specs.Matching.{kind_of, bottom_of}

-- What identities declare, whether the second is the first or an ancestor of it, and whether they are the same.
pub record World (R : Type 0) : Type 0 where
  pub declared : R → Option (Sub R)
  pub below : R → R → Bool
  pub same : R → R → Bool

-- the tests of a world are right
pub record IsWorld {R : Type 0} (W : World R) : Type 0 where
  pub below : (a b : R) → Decides (W.below a b) (IsAncestor W.declared a b)
  pub same : (a b : R) → Decides (W.same a b) (a ≡ b)

abbrev pub abstract_heaps : List AbstractHeap
abstract_heaps = any_heap ∷ eq_heap ∷ i31_heap ∷ struct_heap ∷ array_heap ∷ none_heap ∷ func_heap ∷ nofunc_heap ∷ extern_heap ∷ noextern_heap ∷ exn_heap ∷ noexn_heap ∷ cont_heap ∷ nocont_heap ∷ []

-- the place in that list
abbrev pub number_of : AbstractHeap → ℕ
number_of any_heap = 0
number_of eq_heap = 1
number_of i31_heap = 2
number_of struct_heap = 3
number_of array_heap = 4
number_of none_heap = 5
number_of func_heap = 6
number_of nofunc_heap = 7
number_of extern_heap = 8
number_of noextern_heap = 9
number_of exn_heap = 10
number_of noexn_heap = 11
number_of cont_heap = 12
number_of nocont_heap = 13

abbrev pub same_abstract : AbstractHeap → AbstractHeap → Bool
same_abstract a b = number_of a == number_of b

-- an abstract heap type, and those above it
abbrev pub and_above : AbstractHeap → List AbstractHeap
and_above any_heap = any_heap ∷ []
and_above eq_heap = eq_heap ∷ any_heap ∷ []
and_above i31_heap = i31_heap ∷ eq_heap ∷ any_heap ∷ []
and_above struct_heap = struct_heap ∷ eq_heap ∷ any_heap ∷ []
and_above array_heap = array_heap ∷ eq_heap ∷ any_heap ∷ []
and_above none_heap = none_heap ∷ i31_heap ∷ struct_heap ∷ array_heap ∷ eq_heap ∷ any_heap ∷ []
and_above func_heap = func_heap ∷ []
and_above nofunc_heap = nofunc_heap ∷ func_heap ∷ []
and_above extern_heap = extern_heap ∷ []
and_above noextern_heap = noextern_heap ∷ extern_heap ∷ []
and_above exn_heap = exn_heap ∷ []
and_above noexn_heap = noexn_heap ∷ exn_heap ∷ []
and_above cont_heap = cont_heap ∷ []
and_above nocont_heap = nocont_heap ∷ cont_heap ∷ []

abbrev pub matches_abstract : AbstractHeap → AbstractHeap → Bool
matches_abstract a b = list_any (λ x. same_abstract x b) (and_above a)

abbrev pub same_flag : Bool → Bool → Bool
same_flag true b = b
same_flag false b = not b

abbrev pub matches_kind : {R : Type 0} → Bool → AbstractHeap → Option (Sub R) → Bool
matches_kind shared k None = false
matches_kind shared k (Some s) = same_flag s.shared shared && matches_abstract (kind_of s.comp) k

abbrev pub is_above_bottom : {R : Type 0} → Bool → AbstractHeap → Option (Sub R) → Bool
is_above_bottom shared k None = false
is_above_bottom shared k (Some s) = same_flag s.shared shared && same_abstract (bottom_of s.comp) k

module _ {R : Type 0} (W : World R) where
  abbrev pub matches_heap : Heap R → Heap R → Bool
  matches_heap (abstract_heap s j) (abstract_heap t k) = same_flag s t && matches_abstract j k
  matches_heap (abstract_heap s k) (concrete b) = is_above_bottom s k (W.declared b)
  matches_heap (abstract_heap s k) (exact b) = is_above_bottom s k (W.declared b)
  matches_heap (concrete a) (abstract_heap t k) = matches_kind t k (W.declared a)
  matches_heap (concrete a) (concrete b) = W.below a b
  matches_heap (concrete a) (exact b) = false
  matches_heap (exact a) (abstract_heap t k) = matches_kind t k (W.declared a)
  matches_heap (exact a) (concrete b) = W.below a b
  matches_heap (exact a) (exact b) = W.same a b

  abbrev pub matches_ref : Ref R → Ref R → Bool
  matches_ref r s = implies r.nullable s.nullable && matches_heap r.heap s.heap

  abbrev pub matches_val : Val R → Val R → Bool
  matches_val i32 i32 = true
  matches_val i64 i64 = true
  matches_val f32 f32 = true
  matches_val f64 f64 = true
  matches_val v128 v128 = true
  matches_val (reference r) (reference s) = matches_ref r s
  matches_val _ _ = false
