-- The abstract syntax of types, over any kind of reference R to a defined type.
-- Core Specification 3.0, Structure, Types. R is a module's type index where types are written.
use Rattle.std.specs.Prelude.{ℕ, Bool, List, map, Option, option_map}

-- abstract heap types
pub data AbstractHeap : Type 0 where
  any_heap eq_heap i31_heap struct_heap array_heap none_heap : AbstractHeap
  func_heap nofunc_heap extern_heap noextern_heap exn_heap noexn_heap cont_heap nocont_heap : AbstractHeap

-- heap types: an abstract one with its shared flag, that of a defined type or a subtype of it, or exactly that of a defined type
pub data Heap (R : Type 0) : Type 0 where
  abstract_heap : Bool → AbstractHeap → Heap R
  concrete exact : R → Heap R

-- reference types
pub record Ref (R : Type 0) : Type 0 where
  pub nullable : Bool
  pub heap : Heap R

-- value types
pub data Val (R : Type 0) : Type 0 where
  i32 i64 f32 f64 v128 : Val R
  reference : Ref R → Val R

-- storage types
pub data Storage (R : Type 0) : Type 0 where
  i8 i16 : Storage R
  unpacked : Val R → Storage R

-- field types
pub record Field (R : Type 0) : Type 0 where
  pub storage : Storage R
  pub mutable : Bool

-- composite types
pub data Comp (R : Type 0) : Type 0 where
  func : List (Val R) → List (Val R) → Comp R
  array : Field R → Comp R
  struct : List (Field R) → Comp R
  cont : R → Comp R

-- sub types: what they may be extended by, their supertypes, and their composite type with its shared flag and descriptor clauses
pub record Sub (R : Type 0) : Type 0 where
  pub is_final : Bool
  pub supers : List R
  pub shared : Bool
  pub comp : Comp R
  pub descriptor : Option R
  pub describes : Option R

-- recursive types, and whether `rec` is written
pub record Rec (R : Type 0) : Type 0 where
  pub is_explicit : Bool
  pub types : List (Sub R)

-- table types
pub record Table (R : Type 0) : Type 0 where
  pub element : Ref R
  pub is_64 : Bool
  pub minimum : ℕ
  pub maximum : Option ℕ
  pub shared : Bool

-- memory types, in pages
pub record Memory : Type 0 where
  pub is_64 : Bool
  pub shared : Bool
  pub minimum : ℕ
  pub maximum : Option ℕ
  pub page_size_log2 : Option ℕ

-- global types
pub record Global (R : Type 0) : Type 0 where
  pub content : Val R
  pub mutable : Bool
  pub shared : Bool

-- external types, with function and tag types by their type index
pub data Extern (R : Type 0) : Type 0 where
  func_extern : ℕ → Extern R
  func_exact_extern : ℕ → Extern R
  table_extern : Table R → Extern R
  memory_extern : Memory → Extern R
  global_extern : Global R → Extern R
  tag_extern : ℕ → Extern R

-- each reference renamed
module _ {R S : Type 0} (f : R → S) where
  abbrev pub map_heap : Heap R → Heap S
  map_heap (abstract_heap s a) = abstract_heap s a
  map_heap (concrete r) = concrete (f r)
  map_heap (exact r) = exact (f r)

  abbrev pub map_ref : Ref R → Ref S
  map_ref r = record { nullable = r.nullable; heap = map_heap r.heap }

  abbrev pub map_val : Val R → Val S
  map_val i32 = i32
  map_val i64 = i64
  map_val f32 = f32
  map_val f64 = f64
  map_val v128 = v128
  map_val (reference r) = reference (map_ref r)

  abbrev pub map_storage : Storage R → Storage S
  map_storage i8 = i8
  map_storage i16 = i16
  map_storage (unpacked v) = unpacked (map_val v)

  abbrev pub map_field : Field R → Field S
  map_field x = record { storage = map_storage x.storage; mutable = x.mutable }

  abbrev pub map_comp : Comp R → Comp S
  map_comp (func ps rs) = func (map map_val ps) (map map_val rs)
  map_comp (array x) = array (map_field x)
  map_comp (struct xs) = struct (map map_field xs)
  map_comp (cont r) = cont (f r)

  abbrev pub map_sub : Sub R → Sub S
  map_sub s = record {
    is_final = s.is_final;
    supers = map f s.supers;
    shared = s.shared;
    comp = map_comp s.comp;
    descriptor = option_map f s.descriptor;
    describes = option_map f s.describes;
  }

  abbrev pub map_rec : Rec R → Rec S
  map_rec r = record { is_explicit = r.is_explicit; types = map map_sub r.types }

  abbrev pub map_table : Table R → Table S
  map_table t = record { element = map_ref t.element; is_64 = t.is_64; minimum = t.minimum; maximum = t.maximum; shared = t.shared }

  abbrev pub map_global : Global R → Global S
  map_global g = record { content = map_val g.content; mutable = g.mutable; shared = g.shared }

  abbrev pub map_extern : Extern R → Extern S
  map_extern (func_extern x) = func_extern x
  map_extern (func_exact_extern x) = func_exact_extern x
  map_extern (table_extern t) = table_extern (map_table t)
  map_extern (memory_extern m) = memory_extern m
  map_extern (global_extern g) = global_extern (map_global g)
  map_extern (tag_extern x) = tag_extern x
