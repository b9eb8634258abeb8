-- Where equal types aren't one, the types of a group that is added have the next ids.
use Rattle.std.proofs.Common.{◌≡◌, ap, ◌∙◌, ℕ, ◌+◌, false, List, [], ◌∷◌, ◌++◌, length, Some, arith}
use Rattle.wasm_spec.specs.Syntax.{Rec}
use Rattle.wasm_spec.specs.Features.{Features, canonical}
use Rattle.wasm_spec.specs.Trees.{DefType}
use Rattle.wasm_readers_types.specs.WasmReadersValues.declared.indices.UnpackedIndex.{UnpackedIndex}
use Rattle.wasm_validator_type_list.specs.WasmValidatorTypeGroups.Elements.{numbers_from}
use Rattle.wasm_validator_type_list.specs.ListViews.{Listing, types_in}
use Rattle.wasm_validator_type_list.specs.DefTypes.{def_types}
use Rattle.wasm_validator_type_list.proofs.DefTypes.{length-def_types}
use Rattle.wasm_validator_canonical.specs.Groups.{with_written}
use Rattle.wasm_validator_canonical.proofs.Steps.{written_own}

same_behind : {X : Type 0} (xs ys zs : List X) → xs ++ ys ≡ xs ++ zs → ys ≡ zs
same_behind [] ys zs e = e
same_behind (x ∷ xs) ys zs e = let h : xs ++ ys ≡ xs ++ zs = cc in same_behind xs ys zs h

module _ {A : Type 0} (F : Features) (own : canonical F ≡ false) (old new : Listing A) (ids more : List ℕ) (g : Rec UnpackedIndex) (count : ℕ) (many : length g.types ≡ count) where
  abbrev us : List DefType
  us = def_types old.is_canonical old.groups

  pub own_grows : with_written F us ids g ≡ Some (def_types new.is_canonical new.groups, more) → length (types_in new) ≡ length (types_in old) + count
  own_grows e =
      let longer = (written_own F us ids g (def_types new.is_canonical new.groups, more) own e).1 in
      let before = length-def_types old.is_canonical old.groups in
      let after = length-def_types new.is_canonical new.groups in
      omega (arith, longer, before, after, many)

  pub own_all : with_written F us ids g ≡ Some (def_types new.is_canonical new.groups, more) → more ≡ ids ++ numbers_from (length (types_in old)) count
  own_all e =
      (written_own F us ids g (def_types new.is_canonical new.groups, more) own e).0
      ∙ ap (λ n. ids ++ numbers_from n (length g.types)) (length-def_types old.is_canonical old.groups) ∙ ap (λ n. ids ++ numbers_from (length (types_in old)) n) many

pub own_new : {A : Type 0} (F : Features) → canonical F ≡ false → (old new : Listing A) (ids more : List ℕ) (g : Rec UnpackedIndex) (count : ℕ) → length g.types ≡ count
    → with_written F (def_types old.is_canonical old.groups) ids g ≡ Some (def_types new.is_canonical new.groups, ids ++ more) → more ≡ numbers_from (length (types_in old)) count
own_new F own old new ids more g count many e = same_behind ids more (numbers_from (length (types_in old)) count) (own_all F own old new ids (ids ++ more) g count many e)
