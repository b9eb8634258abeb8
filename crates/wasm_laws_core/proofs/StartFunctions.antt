-- The start function that the machine accepts is one that is there, and takes and gives nothing.
use Rattle.std.proofs.Common.{◌≡◌, refl, sym, ◌∙◌, ap, ℕ, suc, ◌==◌, Bool, true, false, List, [], ◌∷◌, length, slice_get, Option, Some, None}
use Rattle.std.specs.Bool.{Decides}
use Rattle.std.specs.Option.{option_map, option_and_then}
use Rattle.std.proofs.lemmas.Bool.Decides.{Decides-at, Decides-and, Decides-eqb}
use Rattle.wasm_spec.specs.Syntax.{Val, Sub}
use Rattle.wasm_spec.specs.Features.{canonical}
use Rattle.wasm_spec.specs.Trees.{DefType, declared}
use Rattle.wasm_spec_rules.specs.Parts.{Parts}
use Rattle.wasm_spec_rules.specs.IndexSpaces.{index_spaces, signature, signature_at}
use Rattle.wasm_spec_rules.specs.LinkRules.{IsValidStart}
use Rattle.wasm_validator_core.specs.WasmValidatorCanonical.Arities.{arity, type_arity, arity_at}
use Rattle.wasm_validator_core.specs.WasmValidatorCanonical.Groups.{types_at}
use Rattle.wasm_validator_core.specs.WasmValidatorChecks.Laws.{Stand}
use Rattle.wasm_validator_core.proofs.WasmValidatorChecks.ItemTests.{arities_are_kept}
use Rattle.wasm_validator_core.specs.Items.{takes_and_gives_nothing}
use Rattle.wasm_laws_core.specs.Laws.{StartsAreDecided}

-- a type has as many parameters and results as its signature says
arity_of_signature : (o : Option DefType) → option_and_then type_arity o ≡ option_map arity (option_and_then (λ (s : Sub DefType). signature s.comp) (option_and_then declared o))
arity_of_signature None = refl
arity_of_signature (Some d) = refl

abbrev Signature : Type 0
Signature = List (Val DefType) × List (Val DefType)

abbrev none : Signature
none = ([], [])

-- a list of no elements
empty_decided : {X : Type 0} (xs : List X) → Decides (length xs == 0) (xs ≡ [])
empty_decided [] = (λ _. refl, λ _. refl)
empty_decided (x ∷ xs) = (λ h. absurd (let z : suc (length xs) ≡ 0 = (Decides-eqb (suc (length xs)) 0).0 h in cc), λ e. absurd (let z = e in cc))

-- none of either are no parameters and no results
nothing_decided : (o : Option Signature) → Decides (takes_and_gives_nothing (option_map arity o)) (o ≡ Some none)
nothing_decided None = (λ h. absurd (let z : false ≡ true = h in cc), λ e. absurd (let z = e in cc))
nothing_decided (Some s) =
    let both = Decides-and (length s.0 == 0) (length s.1 == 0) (empty_decided s.0) (empty_decided s.1) in (
      λ h. let parts = both.0 h in λ i. Some (parts.0 i, parts.1 i),
      λ (e : Some s ≡ Some none). let same : s ≡ none = cc in both.1 (ap (λ (t : Signature). t.0) same, ap (λ (t : Signature). t.1) same),
    )

module _ (c : Bool) (us : List DefType) (ids : List ℕ) (types : List DefType) (stand : Stand c us ids types) (p : Parts) (x : ℕ) where
  -- the type of a function in the list has as many as its signature in the module
  arity_is : (y : ℕ) → arity_at (types_at us ids) y ≡ option_map arity (signature_at types y)
  arity_is y = arities_are_kept c us ids types stand y ∙ arity_of_signature (slice_get types y)

  -- a function that is there, and takes and gives nothing
  function_decided : (o : Option ℕ) → slice_get (index_spaces types p).functions x ≡ o → Decides (takes_and_gives_nothing (option_and_then (arity_at (types_at us ids)) o)) (IsValidStart (index_spaces types p) x)
  function_decided None there = (λ h. absurd (let z : false ≡ true = h in cc), λ v. absurd (let both : None ≡ Some v.ty = sym there ∙ v.is_there in cc))
  function_decided (Some y) there =
      let nothing : Decides (takes_and_gives_nothing (arity_at (types_at us ids) y)) (signature_at types y ≡ Some none) =
      Decides-at _ _ (ap takes_and_gives_nothing (arity_is y)) (nothing_decided (signature_at types y)) in (
        λ h. record { ty = y; is_there = there; takes_and_gives_nothing = nothing.0 h },
        λ v. let same : v.ty ≡ y = let both : Some v.ty ≡ Some y = sym v.is_there ∙ there in cc in nothing.1 (ap (signature_at types) (sym same) ∙ v.takes_and_gives_nothing),
      )

pub starts_are_decided : StartsAreDecided
starts_are_decided F us ids types stand p x = function_decided (canonical F) us ids types stand p x (slice_get (index_spaces types p).functions x) refl
