-- Where types stand in a list of types.
use Rattle.std.specs.Prelude.{ℕ, suc, ◌==◌, cond, Bool, true, false, ◌&&◌, List, [], ◌∷◌, Option, Some, None}
use Rattle.std.specs.Option.{option_map}
use base.Stored.{Gv, gnil, gnum, gcons}
use Rattle.wasm_spec.specs.Trees.{DefType}
use Rattle.wasm_spec.specs.TreeCode.{coded_type}

abbrev pub same_code : Gv → Gv → Bool
same_code gnil gnil = true
same_code gnil (gnum n) = false
same_code gnil (gcons c d) = false
same_code (gnum m) gnil = false
same_code (gnum m) (gnum n) = m == n
same_code (gnum m) (gcons c d) = false
same_code (gcons a b) gnil = false
same_code (gcons a b) (gnum n) = false
same_code (gcons a b) (gcons c d) = same_code a c && same_code b d

-- whether two types are one
abbrev pub is_same : DefType → DefType → Bool
is_same d e = same_code (coded_type.code d) (coded_type.code e)

-- whether the list begins with these types
abbrev pub begins_with : List DefType → List DefType → Bool
begins_with us [] = true
begins_with [] (d ∷ ds) = false
begins_with (u ∷ us) (d ∷ ds) = is_same u d && begins_with us ds

-- the first place from which on these types stand in the list
abbrev pub place_of : List DefType → List DefType → Option ℕ
place_of [] ds = cond (begins_with [] ds) (Some 0) None
place_of (u ∷ us) ds = cond (begins_with (u ∷ us) ds) (Some 0) (option_map suc (place_of us ds))
