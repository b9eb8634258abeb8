-- What types declare under identities, looked up.
use Rattle.std.proofs.Common.{◌≡◌, refl, sym, ap, ◌∙◌, ℕ, zero, suc, Bool, true, false, if◌then◌else◌, List, [], ◌∷◌, ◌++◌, length, slice_get, Some, None, option_map, arith}
use Rattle.std.specs.List.{flat_map}
use Rattle.std.proofs.lemmas.Option.{none-some, same_Some}
use Rattle.wasm_spec.specs.Syntax.{Sub, map_sub}
use Rattle.wasm_spec.specs.Trees.{DefType, declared}
use Rattle.wasm_spec_rules.specs.Contexts.{declares_at}
use Rattle.wasm_spec_rules.specs.Worlds.{declared_in}
use Rattle.wasm_laws_core.proofs.NumbersAndIds.{not_true}

-- each type of a list declares something
abbrev pub EachDeclares : List DefType → Type 0
EachDeclares ds = (k : ℕ) (d : DefType) → slice_get ds k ≡ Some d → (s : Sub DefType) × (declared d ≡ Some s)

behind : (d : DefType) (ds : List DefType) → EachDeclares (d ∷ ds) → EachDeclares ds
behind d ds h k e g = h (suc k) e g

module _ {R : Type 0} (m : DefType → R) where
  abbrev pub entries : List DefType → List (R × Sub R)
  entries ds = flat_map (λ (d : DefType). declares_at m d (declared d)) ds

  first-entry : (d : DefType) (ds : List DefType) (s : Sub DefType) → declared d ≡ Some s → entries (d ∷ ds) ≡ (m d, map_sub m s) ∷ entries ds
  first-entry d ds s e = ap (λ o. declares_at m d o ++ entries ds) e

  pub length-entries : (ds : List DefType) → EachDeclares ds → length (entries ds) ≡ length ds
  length-entries [] h = refl
  length-entries (d ∷ ds) h = let s = h 0 d refl in ap length (first-entry d ds s.0 s.1) ∙ ap suc (length-entries ds (behind d ds h))

module _ {R : Type 0} (same : R → R → Bool) (m : DefType → R) where
  -- the first entry is the one that is looked up, or it isn't
  here : (a : R) (d : DefType) (ds : List DefType) (s : Sub DefType) → declared d ≡ Some s → same (m d) a ≡ true → declared_in same (entries m (d ∷ ds)) a ≡ Some (map_sub m s)
  here a d ds s e g =
      ap (λ xs. declared_in same xs a) (first-entry m d ds s e)
      ∙ ap (λ (c : Bool). if c then Some (map_sub m s) else declared_in same (entries m ds) a) g

  past : (a : R) (d : DefType) (ds : List DefType) (s : Sub DefType) → declared d ≡ Some s → same (m d) a ≡ false → declared_in same (entries m (d ∷ ds)) a ≡ declared_in same (entries m ds) a
  past a d ds s e g =
      ap (λ xs. declared_in same xs a) (first-entry m d ds s e)
      ∙ ap (λ (c : Bool). if c then Some (map_sub m s) else declared_in same (entries m ds) a) g

  -- where one place alone has the identity, its type is found
  pub found : (a : R) (ds : List DefType) (k : ℕ) (d : DefType) → EachDeclares ds → slice_get ds k ≡ Some d → same (m d) a ≡ true
      → ((j : ℕ) (e : DefType) → slice_get ds j ≡ Some e → same (m e) a ≡ true → j ≡ k) → declared_in same (entries m ds) a ≡ option_map (map_sub m) (declared d)
  found a [] k d h g t only = absurd (none-some d g)
  found a (x ∷ ds) zero d h g t only =
      let s = h 0 x refl in
      let is : x ≡ d = same_Some x d g in
      here a x ds s.0 s.1 (ap (λ y. same (m y) a) is ∙ t) ∙ ap (option_map (map_sub m)) (sym s.1 ∙ ap declared is)
  found a (x ∷ ds) (suc k) d h g t only =
      let s = h 0 x refl in
      let other : same (m x) a ≡ false = not_true (same (m x) a) (λ e. let z : 0 ≡ suc k = only 0 x refl e in omega (arith, z)) in
      past a x ds s.0 s.1 other
      ∙ found a ds k d (behind x ds h) g t (λ j e u v. let z : suc j ≡ suc k = only (suc j) e u v in omega (arith, z))

  -- where none has it, nothing is
  pub none_found : (a : R) (ds : List DefType) → EachDeclares ds → ((j : ℕ) (e : DefType) → slice_get ds j ≡ Some e → same (m e) a ≡ false) → declared_in same (entries m ds) a ≡ None
  none_found a [] h other = refl
  none_found a (x ∷ ds) h other =
      let s = h 0 x refl in
      past a x ds s.0 s.1 (other 0 x refl) ∙ none_found a ds (behind x ds h) (λ j e u. other (suc j) e u)
