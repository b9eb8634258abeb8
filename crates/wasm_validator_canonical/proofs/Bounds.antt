-- Groups whose types keep within the bounds of their indices, and groups that close.
use Rattle.std.proofs.Common.{◌≡◌, refl, sym, ap, ◌∙◌, ℕ, ◌+◌, Bool, true, false, not, ◌&&◌, ◌||◌, ltb, leb, List, [], ◌∷◌, ◌++◌, map, length}
use Rattle.std.specs.Option.{option_map}
use Rattle.std.specs.List.{list_all}
use Rattle.std.proofs.lemmas.List.{map-append, length-map}
use Rattle.std.proofs.lemmas.List.Folds.{list_all-append}
use Rattle.wasm_spec.specs.Syntax.{Sub, Rec, map_comp, map_sub}
use Rattle.wasm_spec.specs.References.{refs_option, refs_comp}
use Rattle.wasm_spec.specs.Features.{Features}
use Rattle.wasm_spec.specs.Closing.{is_in_bounds, are_closable}
use Rattle.wasm_spec.proofs.ClosedGroups.{refs_option-map, refs_comp-map}
use Rattle.wasm_readers_types.specs.WasmReadersValues.declared.indices.UnpackedIndex.{UnpackedIndex}
use Rattle.wasm_readers_types.specs.WasmReadersValues.declared.indices.UnpackedIndex.TheVariants.{Module, RecGroup, Id}
use Rattle.wasm_validator_canonical.specs.Groups.{closes}
use Rattle.wasm_validator_canonical.specs.Indices.{is_written, is_written_sub, number_in, is_known, is_earlier, is_bound, are_bound, extends_at_most_one}

-- bounds of an index, by its number
abbrev before : ℕ → ℕ → Bool
before n k = ltb k n

abbrev within : Bool → ℕ → ℕ → ℕ → Bool
within gc start end k = ltb k start || (gc && ltb k end)

earlier_index : (n : ℕ) (u : UnpackedIndex) → is_earlier n u ≡ (is_written u && before n (number_in u))
earlier_index n (Module k) = refl
earlier_index n (RecGroup i) = refl
earlier_index n (Id id) = refl

known_index : (gc : Bool) (start end : ℕ) (u : UnpackedIndex) → is_known gc start end u ≡ (is_written u && within gc start end (number_in u))
known_index gc start end (Module k) = refl
known_index gc start end (RecGroup i) = refl
known_index gc start end (Id id) = refl

-- conjunctions in another order
swap : (a b c d : Bool) → ((a && b) && (c && d)) ≡ ((a && c) && (b && d))
swap true true c d = refl
swap true false true d = refl
swap true false false d = refl
swap false b c d = refl

three : (a b c : Bool) → (a && (b && c)) ≡ (a && b && c)
three true b c = refl
three false b c = refl

and_swap : (a b c : Bool) → (a && (b && c)) ≡ (b && (a && c))
and_swap true b c = refl
and_swap false true c = refl
and_swap false false c = refl

commuted : (a b : Bool) → (a && b) ≡ (b && a)
commuted true true = refl
commuted true false = refl
commuted false true = refl
commuted false false = refl

-- indices of a module that keep a bound
module _ (p : UnpackedIndex → Bool) (q : ℕ → Bool) (e : (u : UnpackedIndex) → p u ≡ (is_written u && q (number_in u))) where
  bound_indices : (us : List UnpackedIndex) → list_all p us ≡ (list_all is_written us && list_all q (map number_in us))
  bound_indices [] = refl
  bound_indices (u ∷ us) =
      (λ i. e u i && bound_indices us i)
      ∙ swap (is_written u) (q (number_in u)) (list_all is_written us) (list_all q (map number_in us))

module _ (F : Features) (start end : ℕ) where
  module _ (n : ℕ) (s : Sub UnpackedIndex) where
    abbrev others : List UnpackedIndex
    others = refs_option s.descriptor ++ refs_comp s.comp

    abbrev others_in : List ℕ
    others_in = refs_option (option_map number_in s.descriptor) ++ refs_comp (map_comp number_in s.comp)

    same_others : map number_in others ≡ others_in
    same_others =
        map-append number_in (refs_option s.descriptor) (refs_comp s.comp)
        ∙ (λ i. sym (refs_option-map number_in s.descriptor) i ++ sym (refs_comp-map number_in s.comp) i)

    written_parts : is_written_sub s ≡ (list_all is_written s.supers && (list_all is_written (refs_option s.describes) && list_all is_written others))
    written_parts =
        list_all-append is_written s.supers (refs_option s.describes ++ others)
        ∙ ap (λ b. list_all is_written s.supers && b) (list_all-append is_written (refs_option s.describes) others)

    -- a type keeps its bounds where it is written with indices of a module that do
    bound_sub : is_bound F.gc start end n s ≡ (is_written_sub s && is_in_bounds F start end n (map_sub number_in s))
    bound_sub =
        let w₁ = list_all is_written s.supers in
        let w₂ = list_all is_written (refs_option s.describes) in
        let w₃ = list_all is_written others in
        let b₁ = list_all (before n) (map number_in s.supers) in
        let b₂ = list_all (before n) (refs_option (option_map number_in s.describes)) in
        let b₃ = list_all (within F.gc start end) others_in in
        let p₁ : list_all (is_earlier n) s.supers ≡ (w₁ && b₁) = bound_indices (is_earlier n) (before n) (earlier_index n) s.supers in
        let p₂ : list_all (is_earlier n) (refs_option s.describes) ≡ (w₂ && b₂) =
        bound_indices (is_earlier n) (before n) (earlier_index n) (refs_option s.describes) ∙ ap (λ us. w₂ && list_all (before n) us) (sym (refs_option-map number_in s.describes)) in
        let p₃ : list_all (is_known F.gc start end) others ≡ (w₃ && b₃) =
        bound_indices (is_known F.gc start end) (within F.gc start end) (known_index F.gc start end) others ∙ ap (λ us. w₃ && list_all (within F.gc start end) us) same_others in
        (λ i. p₁ i && (p₂ i && p₃ i))
        ∙ ap (λ b. (w₁ && b₁) && b) (swap w₂ b₂ w₃ b₃)
        ∙ swap w₁ b₁ (w₂ && w₃) (b₂ && b₃)
        ∙ (λ i. sym written_parts i && three b₁ b₂ b₃ i)

  one_super : (s : Sub UnpackedIndex) → extends_at_most_one s ≡ leb (length (map_sub number_in s).supers) 1
  one_super s = ap (λ n. leb n 1) (sym (length-map s.supers number_in))

  gathered : (o os w b ks ws cs : Bool) → (os && ks) ≡ (ws && cs) → ((o && os) && ((w && b) && ks)) ≡ ((w && ws) && (b && o && cs))
  gathered o os w b ks ws cs e =
      swap o os (w && b) ks
      ∙ ap (λ x. (o && (w && b)) && x) e
      ∙ ap (λ x. x && (ws && cs)) (and_swap o w b)
      ∙ swap w (o && b) ws cs
      ∙ ap (λ x. (w && ws) && (x && cs)) (commuted o b)

  -- types with at most one supertype each that keep their bounds
  pub bound_subs : (ss : List (Sub UnpackedIndex)) (n : ℕ)
      → (list_all extends_at_most_one ss && are_bound F.gc start end n ss) ≡ (list_all is_written_sub ss && are_closable F start end n (map (map_sub number_in) ss))
  bound_subs [] n = refl
  bound_subs (s ∷ ss) n =
      let one = extends_at_most_one s in
      let ones = list_all extends_at_most_one ss in
      let rest = are_bound F.gc start end (n + 1) ss in
      let closable = are_closable F start end (n + 1) (map (map_sub number_in) ss) in
      let w = is_written_sub s in
      let b = is_in_bounds F start end n (map_sub number_in s) in
      ap (λ x. (one && ones) && (x && rest)) (bound_sub n s)
      ∙ gathered one ones w b rest (list_all is_written_sub ss) closable (bound_subs ss (n + 1))
      ∙ ap (λ x. (w && list_all is_written_sub ss) && (b && x && closable)) (one_super s)

-- a group closes where `rec` is allowed, and its types extend at most one and keep their bounds
pub closes_is : (F : Features) (start : ℕ) (g : Rec UnpackedIndex)
    → ((not g.is_explicit || F.gc) && (list_all extends_at_most_one g.types && are_bound F.gc start (start + length g.types) start g.types)) ≡ closes F start g
closes_is F start g =
    ap (λ b. (not g.is_explicit || F.gc) && b) (bound_subs F start (start + length g.types) g.types start)
    ∙ and_swap (not g.is_explicit || F.gc) (list_all is_written_sub g.types) (are_closable F start (start + length g.types) start (map (map_sub number_in) g.types))
    ∙ (λ i. list_all is_written_sub g.types && ((not g.is_explicit || F.gc) && are_closable F start (start + sym (length-map g.types (map_sub number_in)) i) start (map (map_sub number_in) g.types)))
