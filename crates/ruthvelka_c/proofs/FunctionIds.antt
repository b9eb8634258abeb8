-- The ids of one more function.
use Rattle.std.proofs.Common.{ℕ, ◌≡◌, ◌+◌, ◌<◌, ◌++◌, List, [], ◌∷◌, length, map, take, slice_index, sym, ap, ◌∙◌, append_assoc, arith}
use Rattle.std.proofs.Math.ListN.{get_or-map}
use Rattle.std.proofs.lemmas.List.{length-map, take_more}

pub function_more : (types functions : List ℕ) (i : ℕ) → i < length functions
    → take (i + 1) (map (slice_index types) functions) ≡ take i (map (slice_index types) functions) ++ slice_index types (slice_index functions i) ∷ []
function_more types functions i l =
    let long = length-map functions (slice_index types) in
    let front = take i (map (slice_index types) functions) in
    take_more (map (slice_index types) functions) i (slice_index types 0) (omega (arith, long, l))
    ∙ ap (λ x. front ++ x ∷ []) (get_or-map (slice_index types) functions i 0)

-- one more behind the first of them
pub joined : (start front next : List ℕ) (v : ℕ) → next ≡ front ++ v ∷ [] → (start ++ front) ++ v ∷ [] ≡ start ++ next
joined start front next v e = rw append_assoc (ap (λ (x : List ℕ). start ++ x) (sym e))
