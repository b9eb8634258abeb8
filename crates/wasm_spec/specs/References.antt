-- The references of a type in the order in which the binary format writes them, and a type with each of them
-- replaced by its number in that order. Core Specification 3.0, Binary Format, Types.
use Rattle.std.specs.Prelude.{ℕ, ◌+◌, List, [], ◌∷◌, ◌++◌, flat_map, length, Option, Some, None, option_map}
use Rattle.wasm_spec.specs.Syntax.{Heap, abstract_heap, concrete, exact, Val, i32, i64, f32, f64, v128, reference, Storage, i8, i16, unpacked, Field, Comp, func, array, struct, cont, Sub}

-- the references
module _ {R : Type 0} where
  abbrev pub refs_option : Option R → List R
  refs_option None = []
  refs_option (Some r) = r ∷ []

  abbrev pub refs_heap : Heap R → List R
  refs_heap (abstract_heap s a) = []
  refs_heap (concrete r) = r ∷ []
  refs_heap (exact r) = r ∷ []

  abbrev pub refs_val : Val R → List R
  refs_val i32 = []
  refs_val i64 = []
  refs_val f32 = []
  refs_val f64 = []
  refs_val v128 = []
  refs_val (reference r) = refs_heap r.heap

  abbrev pub refs_storage : Storage R → List R
  refs_storage i8 = []
  refs_storage i16 = []
  refs_storage (unpacked v) = refs_val v

  abbrev pub refs_field : Field R → List R
  refs_field x = refs_storage x.storage

  abbrev pub refs_comp : Comp R → List R
  refs_comp (func ps rs) = flat_map refs_val ps ++ flat_map refs_val rs
  refs_comp (array x) = refs_field x
  refs_comp (struct xs) = flat_map refs_field xs
  refs_comp (cont r) = r ∷ []

  abbrev pub refs_sub : Sub R → List R
  refs_sub s = s.supers ++ (refs_option s.describes ++ (refs_option s.descriptor ++ refs_comp s.comp))

-- the items of a list, each numbered from where the references of those before it end
abbrev pub number_list : {R X Y : Type 0} → (X → List R) → (ℕ → X → Y) → ℕ → List X → List Y
number_list refs number n [] = []
number_list refs number n (x ∷ xs) = number n x ∷ number_list refs number (n + length (refs x)) xs

-- each reference replaced by its number, from n on
module _ {R : Type 0} where
  abbrev pub itself : R → List R
  itself r = r ∷ []

  abbrev pub number_ref : ℕ → R → ℕ
  number_ref n r = n

  abbrev pub number_heap : ℕ → Heap R → Heap ℕ
  number_heap n (abstract_heap s a) = abstract_heap s a
  number_heap n (concrete r) = concrete n
  number_heap n (exact r) = exact n

  abbrev pub number_val : ℕ → Val R → Val ℕ
  number_val n i32 = i32
  number_val n i64 = i64
  number_val n f32 = f32
  number_val n f64 = f64
  number_val n v128 = v128
  number_val n (reference r) = reference (record { nullable = r.nullable; heap = number_heap n r.heap })

  abbrev pub number_storage : ℕ → Storage R → Storage ℕ
  number_storage n i8 = i8
  number_storage n i16 = i16
  number_storage n (unpacked v) = unpacked (number_val n v)

  abbrev pub number_field : ℕ → Field R → Field ℕ
  number_field n x = record { storage = number_storage n x.storage; mutable = x.mutable }

  abbrev pub number_comp : ℕ → Comp R → Comp ℕ
  number_comp n (func ps rs) = func (number_list refs_val number_val n ps) (number_list refs_val number_val (n + length (flat_map refs_val ps)) rs)
  number_comp n (array x) = array (number_field n x)
  number_comp n (struct xs) = struct (number_list refs_field number_field n xs)
  number_comp n (cont r) = cont n

  abbrev pub number_sub : ℕ → Sub R → Sub ℕ
  number_sub n s =
      let after_supers = n + length s.supers in
      let after_describes = after_supers + length (refs_option s.describes) in
      let after_descriptor = after_describes + length (refs_option s.descriptor) in
      record {
        is_final = s.is_final;
        supers = number_list itself number_ref n s.supers;
        shared = s.shared;
        comp = number_comp after_descriptor s.comp;
        descriptor = option_map (number_ref after_describes) s.descriptor;
        describes = option_map (number_ref after_supers) s.describes;
      }
