-- Types over indices in range, and lists that go side by side.
use Rattle.std.proofs.Common.{◌≡◌, refl, ap, subst, ℕ, zero, suc, ◌<◌, List, [], ◌∷◌, map, length, slice_get, Some, All}
use Rattle.std.specs.List.{AllZip}
use Rattle.std.proofs.lemmas.List.Elements.{All-head, All-tail}
use Rattle.std.proofs.lemmas.Option.{none-some, same_Some}
use Rattle.wasm_spec.specs.Syntax.{Heap, abstract_heap, concrete, exact, Ref, Val, i32, i64, f32, f64, v128, reference, Table, Global, map_heap, map_ref, map_val, map_table, map_global}
use Rattle.wasm_spec.specs.References.{refs_heap, refs_val}
use Rattle.wasm_spec.specs.Trees.{DefType}

-- types over indices in range, where two readings of such an index agree
module _ {R : Type 0} (u v : ℕ → R) (end : ℕ) (agree : (x : ℕ) → x < end → u x ≡ v x) where
  abbrev pub AreBelow : List ℕ → Type 0
  AreBelow xs = All (λ x. x < end) xs

  heap-agrees : (h : Heap ℕ) → AreBelow (refs_heap h) → map_heap u h ≡ map_heap v h
  heap-agrees (abstract_heap s k) b = refl
  heap-agrees (concrete x) b = ap concrete (agree x (All-head (λ y. y < end) x [] b))
  heap-agrees (exact x) b = ap exact (agree x (All-head (λ y. y < end) x [] b))

  pub ref-agrees : (r : Ref ℕ) → AreBelow (refs_heap r.heap) → map_ref u r ≡ map_ref v r
  ref-agrees r b = λ i. record { nullable = r.nullable; heap = heap-agrees r.heap b i }

  pub val-agrees : (w : Val ℕ) → AreBelow (refs_val w) → map_val u w ≡ map_val v w
  val-agrees i32 b = refl
  val-agrees i64 b = refl
  val-agrees f32 b = refl
  val-agrees f64 b = refl
  val-agrees v128 b = refl
  val-agrees (reference r) b = ap reference (ref-agrees r b)

  pub tables-agree : (ts : List (Table ℕ)) → All (λ (t : Table ℕ). AreBelow (refs_heap t.element.heap)) ts → map (map_table u) ts ≡ map (map_table v) ts
  tables-agree [] b = refl
  tables-agree (t ∷ ts) b = λ i.
      record {
        element = ref-agrees t.element (All-head (λ (y : Table ℕ). AreBelow (refs_heap y.element.heap)) t ts b) i;
        is_64 = t.is_64;
        minimum = t.minimum;
        maximum = t.maximum;
        shared = t.shared;
      } ∷ tables-agree ts (All-tail (λ (y : Table ℕ). AreBelow (refs_heap y.element.heap)) t ts b) i

  pub globals-agree : (gs : List (Global ℕ)) → All (λ (g : Global ℕ). AreBelow (refs_val g.content)) gs → map (map_global u) gs ≡ map (map_global v) gs
  globals-agree [] b = refl
  globals-agree (g ∷ gs) b = λ i.
      record {
        content = val-agrees g.content (All-head (λ (y : Global ℕ). AreBelow (refs_val y.content)) g gs b) i;
        mutable = g.mutable;
        shared = g.shared;
      } ∷ globals-agree gs (All-tail (λ (y : Global ℕ). AreBelow (refs_val y.content)) g gs b) i

-- what holds of lists side by side
pub zip_at : (P : ℕ → DefType → Type 0) (ids : List ℕ) (ds : List DefType) → AllZip P ids ds → (k : ℕ) (d : DefType) → slice_get ds k ≡ Some d → (id : ℕ) × (slice_get ids k ≡ Some id) × P id d
zip_at P [] [] z k d e = absurd (none-some d e)
zip_at P [] (x ∷ ds) z k d e = absurd z
zip_at P (i ∷ ids) [] z k d e = absurd z
zip_at P (i ∷ ids) (x ∷ ds) z zero d e = (i, refl, subst (P i) (same_Some x d e) z.0)
zip_at P (i ∷ ids) (x ∷ ds) z (suc k) d e = zip_at P ids ds z.1 k d e

pub zip-length : (P : ℕ → DefType → Type 0) (ids : List ℕ) (ds : List DefType) → AllZip P ids ds → length ids ≡ length ds
zip-length P [] [] z = refl
zip-length P [] (d ∷ ds) z = absurd z
zip-length P (i ∷ ids) [] z = absurd z
zip-length P (i ∷ ids) (d ∷ ds) z = ap suc (zip-length P ids ds z.1)
