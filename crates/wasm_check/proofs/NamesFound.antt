-- Files that names stand for, one name after another.
use Rattle.std.proofs.Common.{◌≡◌, refl, sym, ap, subst, ◌∙◌, inl, inr, ℕ, Bool, true, List, [], ◌∷◌, ◌++◌, append_assoc, append-nil, OnOk, arith, length}
use Rattle.std.specs.Prelude.{String, string_bytes, is_ok, if◌then◌else◌}
use Rattle.std.specs.List.{All}
use Rattle.std.specs.List.Sorted.{IsPermutation}
use Rattle.std.specs.declared.alloc.Global.{Global}
use Rattle.std.specs.declared.result.Result.{Result}
use Rattle.std.specs.declared.result.Result.TheVariants.{Ok, Err}
use Rattle.std.proofs.lemmas.List.Sorted.{All-permutation, length_permutation}
use Rattle.wasm_check.specs.FoundFiles.{IsLookedFor, HasMore, StandsFor, StandFor}

one_more_name : (ns : List (List ℕ)) (fs : List (String Global)) (n : List ℕ) (own : List (String Global)) → StandFor ns fs → StandsFor n own → StandFor (ns ++ n ∷ []) (fs ++ own)
one_more_name [] fs n own none stands = (own, [], ap (λ gs. gs ++ own) none ∙ sym (append-nil own), stands, refl)
one_more_name (m ∷ ns) fs n own each stands =
    (each.0, each.1 ++ own, ap (λ gs. gs ++ own) each.2 ∙ append_assoc each.0 each.1 own, each.3, one_more_name ns each.1 n own each.4 stands)

-- one that is no folder
pub one_more_file : (ns : List (List ℕ)) (fs : List (String Global)) (n : List ℕ) (f : String Global) → string_bytes f ≡ n → StandFor ns fs → StandFor (ns ++ n ∷ []) (fs ++ f ∷ [])
one_more_file ns fs n f named each = one_more_name ns fs n (f ∷ []) each (inl (f, refl, named))

-- and one that is
pub one_more_folder : (ns : List (List ℕ)) (fs gs : List (String Global)) (n : List ℕ) → HasMore fs gs → StandFor ns fs → StandFor (ns ++ n ∷ []) gs
one_more_folder ns fs gs n more each = subst (StandFor (ns ++ n ∷ [])) (sym more.1) (one_more_name ns fs n more.0 each (inr more.2))

none_lost : (xs ys : List (String Global)) → length ys ≡ length xs → ys ≡ [] → xs ≡ []
none_lost [] ys as_long none = refl
none_lost (x ∷ xs) ys as_long none = absurd (omega (arith, as_long, ap length none))

-- what was found in a folder, in order
pub more_in_order : {X E : Type 0} (r : Result X E) (whole : Bool) (fs gs found sorted : List (String Global))
    → All IsLookedFor found → IsPermutation found sorted → (whole ≡ true → found ≡ [] → ⊥) → gs ≡ (if is_ok r then fs ++ sorted else fs) → OnOk r (whole ≡ true → HasMore fs gs)
more_in_order (Ok x) whole fs gs found sorted each order some is = λ w. (
  sorted,
  is,
  record {
    some = λ none. some w (none_lost found sorted (length_permutation found sorted order) none);
    each = All-permutation IsLookedFor found sorted order each;
  },
)
more_in_order (Err e) whole fs gs found sorted each order some is = tt
