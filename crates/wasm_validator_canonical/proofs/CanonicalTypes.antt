-- Types whose indices are written as the list has them.
use Rattle.std.proofs.Common.{◌≡◌, refl, ap, ◌∙◌, Bool, true, false, ◌&&◌, eqb, List, [], ◌∷◌, map, length}
use Rattle.std.specs.List.{list_all, flat_map}
use Rattle.std.proofs.lemmas.List.Folds.{list_all-append}
use Rattle.wasm_spec.specs.Syntax.{Heap, abstract_heap, concrete, exact, map_heap, Val, i32, i64, f32, f64, v128, reference, map_val, Field, func, struct}
use Rattle.wasm_spec.specs.References.{refs_heap, refs_val, refs_field, refs_comp}
use Rattle.wasm_readers_types.specs.WasmReadersValues.declared.indices.UnpackedIndex.{UnpackedIndex}
use Rattle.wasm_validator_canonical.specs.declared.type_canonicalizer.TypeCanonicalizer.{TypeCanonicalizer}
use Rattle.wasm_readers_errors.specs.declared.error.Error.{Error}
use Rattle.wasm_readers_errors.specs.declared.error.Error.TheVariants.{Refused, OutOfMemory}
use Rattle.wasm_validator_canonical.specs.Answers.{Denies}
use Rattle.wasm_validator_canonical.specs.Indices.{has_no_index, is_known_by, knows_val, knows_field, canonical_by}

pub and_left : (a b : Bool) → (a && b) ≡ true → a ≡ true
and_left true b e = refl
and_left false b e = absurd cc

pub and_right : (a b : Bool) → (a && b) ≡ true → b ≡ true
and_right true b e = e
and_right false b e = absurd cc

-- value types that refer to no type
module _ (c : TypeCanonicalizer) where
  heap_kept : (h : Heap UnpackedIndex) → eqb (length (refs_heap h)) 0 ≡ true → h ≡ map_heap (canonical_by c) h
  heap_kept (abstract_heap s a) e = refl
  heap_kept (concrete r) e = absurd cc
  heap_kept (exact r) e = absurd cc

  heap_known : (h : Heap UnpackedIndex) → eqb (length (refs_heap h)) 0 ≡ true → list_all (is_known_by c) (refs_heap h) ≡ true
  heap_known (abstract_heap s a) e = refl
  heap_known (concrete r) e = absurd cc
  heap_known (exact r) e = absurd cc

  val_kept : (v : Val UnpackedIndex) → has_no_index v ≡ true → v ≡ map_val (canonical_by c) v
  val_kept i32 e = refl
  val_kept i64 e = refl
  val_kept f32 e = refl
  val_kept f64 e = refl
  val_kept v128 e = refl
  val_kept (reference r) e = λ i. reference (record { nullable = r.nullable; heap = heap_kept r.heap e i })

  val_known : (v : Val UnpackedIndex) → has_no_index v ≡ true → knows_val c v ≡ true
  val_known i32 e = refl
  val_known i64 e = refl
  val_known f32 e = refl
  val_known f64 e = refl
  val_known v128 e = refl
  val_known (reference r) e = heap_known r.heap e

  pub values_kept : (vs : List (Val UnpackedIndex)) → list_all has_no_index vs ≡ true → vs ≡ map (map_val (canonical_by c)) vs
  values_kept [] e = refl
  values_kept (v ∷ vs) e = λ i. val_kept v (and_left (has_no_index v) (list_all has_no_index vs) e) i ∷ values_kept vs (and_right (has_no_index v) (list_all has_no_index vs) e) i

  pub both : (a b : Bool) → a ≡ true → b ≡ true → (a && b) ≡ true
  both true b e f = f
  both false b e f = absurd cc

  pub values_known : (vs : List (Val UnpackedIndex)) → list_all has_no_index vs ≡ true → list_all (knows_val c) vs ≡ true
  values_known [] e = refl
  values_known (v ∷ vs) e =
      both (knows_val c v) (list_all (knows_val c) vs) (val_known v (and_left (has_no_index v) (list_all has_no_index vs) e)) (values_known vs (and_right (has_no_index v) (list_all has_no_index vs) e))

  -- references of lists, item by item
  each_known : {X : Type 0} (refs : X → List UnpackedIndex) (xs : List X) → list_all (is_known_by c) (flat_map refs xs) ≡ list_all (λ x. list_all (is_known_by c) (refs x)) xs
  each_known refs [] = refl
  each_known refs (x ∷ xs) = list_all-append (is_known_by c) (refs x) (flat_map refs xs) ∙ ap (λ b. list_all (is_known_by c) (refs x) && b) (each_known refs xs)

  pub function_known : (ps rs : List (Val UnpackedIndex)) → list_all (is_known_by c) (refs_comp (func ps rs)) ≡ (list_all (knows_val c) ps && list_all (knows_val c) rs)
  function_known ps rs = list_all-append (is_known_by c) (flat_map refs_val ps) (flat_map refs_val rs) ∙ (λ i. each_known refs_val ps i && each_known refs_val rs i)

  pub structure_known : (xs : List (Field UnpackedIndex)) → list_all (is_known_by c) (refs_comp (struct xs)) ≡ list_all (knows_field c) xs
  structure_known xs = each_known refs_field xs

-- a refusal of a part is one of the whole
pub says_as : (e : Error) (b d : Bool) → (b ≡ false → d ≡ false) → Denies e b → Denies e d
says_as (Refused r) b d f h = f h
says_as OutOfMemory b d f h = tt

pub and_false : (a : Bool) → (a && false) ≡ false
and_false true = refl
and_false false = refl

pub ruleset values_laws = (values_kept, values_known)

pub ruleset known_laws = (function_known, structure_known)
