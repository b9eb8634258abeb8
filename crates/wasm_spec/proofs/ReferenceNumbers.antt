-- References that were numbered in the order of writing can be read back from the list of them.
use Rattle.std.proofs.Common.{◌≡◌, refl, sym, ap, ◌∙◌, ℕ, zero, suc, ◌+◌, List, [], ◌∷◌, ◌++◌, map, flat_map, length, drop, Some, None, option_map, slice_get, append_assoc, append-nil, drop-drop}
use Rattle.std.proofs.Math.Seq.{drop-append_seam}
use Rattle.std.proofs.lemmas.Option.{get_or_from_slice_get}
use Rattle.wasm_spec.specs.Syntax.{abstract_heap, concrete, exact, i32, i64, f32, f64, v128, reference, i8, i16, unpacked, func, array, struct, cont, Sub, map_heap, map_val, map_storage, map_field, map_comp, map_sub}
use Rattle.wasm_spec.specs.References.{refs_option, refs_heap, refs_val, refs_storage, refs_field, refs_comp, refs_sub, itself, number_ref, number_list, number_heap, number_val, number_storage, number_field, number_comp, number_sub}
use Rattle.wasm_spec.specs.Trees.{TypeUse, local, listed, unlisted, number_subs, use_at, close, members, start_of}

slice_get-drop : {X : Type 0} (os : List X) (n : ℕ) → slice_get os n ≡ slice_get (drop n os) 0
slice_get-drop [] zero = refl
slice_get-drop [] (suc n) = refl
slice_get-drop (x ∷ xs) zero = refl
slice_get-drop (x ∷ xs) (suc n) = slice_get-drop xs n

drop_past : {X : Type 0} (os : List X) (n : ℕ) (a b : List X) → drop n os ≡ a ++ b → drop (n + length a) os ≡ b
drop_past os n a b e = sym (drop-drop (length a) n os) ∙ ap (drop (length a)) e ∙ drop-append_seam a b

-- back gives the reference that each number stands for in os
module _ {R : Type 0} (os : List R) (back : ℕ → R) (h : (n : ℕ) (r : R) → slice_get os n ≡ Some r → back n ≡ r) where
  -- where os goes on from n with the references of x, `un` undoes the numbering of x from n
  abbrev Restores : {X Y : Type 0} → (X → List R) → (ℕ → X → Y) → (Y → X) → Type 0
  Restores {X} refs number un = (n : ℕ) (x : X) (rest : List R) → drop n os ≡ refs x ++ rest → un (number n x) ≡ x

  restore_list : {X Y : Type 0} (refs : X → List R) (number : ℕ → X → Y) (un : Y → X) → Restores refs number un → Restores (flat_map refs) (number_list refs number) (map un)
  restore_list refs number un k n [] rest e = refl
  restore_list refs number un k n (x ∷ xs) rest e =
      let e' = e ∙ append_assoc (refs x) (flat_map refs xs) rest in
      λ i. k n x (flat_map refs xs ++ rest) e' i ∷ restore_list refs number un k (n + length (refs x)) xs rest (drop_past os n (refs x) (flat_map refs xs ++ rest) e') i

  restore_one : (n : ℕ) (r : R) (rest : List R) → drop n os ≡ r ∷ rest → back n ≡ r
  restore_one n r rest e = h n r (slice_get-drop os n ∙ ap (λ l. slice_get l 0) e)

  restore_each : Restores (λ rs. rs) (number_list itself number_ref) (map back)
  restore_each n [] rest e = refl
  restore_each n (r ∷ rs) rest e = λ i. restore_one n r (rs ++ rest) e i ∷ restore_each (n + 1) rs rest (drop_past os n (itself r) (rs ++ rest) e) i

  restore_option : Restores refs_option (λ n. option_map (number_ref n)) (option_map back)
  restore_option n None rest e = refl
  restore_option n (Some r) rest e = λ i. Some (restore_one n r rest e i)

  restore_heap : Restores refs_heap number_heap (map_heap back)
  restore_heap n (abstract_heap s a) rest e = refl
  restore_heap n (concrete r) rest e = λ i. concrete (restore_one n r rest e i)
  restore_heap n (exact r) rest e = λ i. exact (restore_one n r rest e i)

  restore_val : Restores refs_val number_val (map_val back)
  restore_val n i32 rest e = refl
  restore_val n i64 rest e = refl
  restore_val n f32 rest e = refl
  restore_val n f64 rest e = refl
  restore_val n v128 rest e = refl
  restore_val n (reference r) rest e = λ i. reference (record { nullable = r.nullable; heap = restore_heap n r.heap rest e i })

  restore_storage : Restores refs_storage number_storage (map_storage back)
  restore_storage n i8 rest e = refl
  restore_storage n i16 rest e = refl
  restore_storage n (unpacked x) rest e = λ i. unpacked (restore_val n x rest e i)

  restore_field : Restores refs_field number_field (map_field back)
  restore_field n x rest e = λ i. record { storage = restore_storage n x.storage rest e i; mutable = x.mutable }

  restore_vals : Restores (flat_map refs_val) (number_list refs_val number_val) (map (map_val back))
  restore_vals = restore_list refs_val number_val (map_val back) restore_val

  restore_comp : Restores refs_comp number_comp (map_comp back)
  restore_comp n (func ps rs) rest e =
      let a = flat_map refs_val ps in
      let b = flat_map refs_val rs in
      let e' = e ∙ append_assoc a b rest in
      λ i. func (restore_vals n ps (b ++ rest) e' i) (restore_vals (n + length a) rs rest (drop_past os n a (b ++ rest) e') i)
  restore_comp n (array x) rest e = λ i. array (restore_field n x rest e i)
  restore_comp n (struct xs) rest e = λ i. struct (restore_list refs_field number_field (map_field back) restore_field n xs rest e i)
  restore_comp n (cont r) rest e = λ i. cont (restore_one n r rest e i)

  restore_sub : Restores refs_sub number_sub (map_sub back)
  restore_sub n s rest e =
      let a = s.supers in
      let b = refs_option s.describes in
      let c = refs_option s.descriptor in
      let d = refs_comp s.comp in
      let e₀ = e ∙ append_assoc a (b ++ (c ++ d)) rest in
      let e₁ = drop_past os n a ((b ++ (c ++ d)) ++ rest) e₀ ∙ append_assoc b (c ++ d) rest in
      let e₂ = drop_past os (n + length a) b ((c ++ d) ++ rest) e₁ ∙ append_assoc c d rest in
      let e₃ = drop_past os (n + length a + length b) c (d ++ rest) e₂ in
      λ i. record {
        is_final = s.is_final;
        supers = restore_each n a ((b ++ (c ++ d)) ++ rest) e₀ i;
        shared = s.shared;
        comp = restore_comp (n + length a + length b + length c) s.comp rest e₃ i;
        descriptor = restore_option (n + length a + length b) s.descriptor (d ++ rest) e₂ i;
        describes = restore_option (n + length a) s.describes ((c ++ d) ++ rest) e₁ i;
      }

  pub restore_subs : (g : List (Sub R)) → os ≡ flat_map refs_sub g → map (map_sub back) (number_list refs_sub number_sub 0 g) ≡ g
  restore_subs g e = restore_list refs_sub number_sub (map_sub back) restore_sub 0 g [] (e ∙ sym (append-nil (flat_map refs_sub g)))

listed-unlisted : (us : List TypeUse) → listed (unlisted us) ≡ us
listed-unlisted [] = refl
listed-unlisted (u ∷ us) = λ i. u ∷ listed-unlisted us i

pub members-close : (start : _) (g : List (Sub TypeUse)) → members (close start g) ≡ g
unfolding close members
members-close start g =
    let us = flat_map refs_sub g in
    ap (λ l. map (map_sub (use_at l)) (number_subs g)) (listed-unlisted us)
    ∙ restore_subs us (use_at us) (λ n u e. get_or_from_slice_get us n u (local 0) e) g refl

pub start_of-close : (start : _) (g : List (Sub TypeUse)) → start_of (close start g) ≡ start
unfolding close start_of
start_of-close start g = refl
