-- A list to which groups are added begins with those that it had.
use Rattle.std.proofs.Common.{◌≡◌, refl, ap, ◌∙◌, Bool, true, false, ℕ, List, [], ◌∷◌, ◌++◌}
use Rattle.wasm_readers_types.specs.declared.types.SubType.{SubType}
use Rattle.wasm_validator_type_list.specs.ListViews.{Listing}
use Rattle.wasm_validator_type_list.specs.GroupInterning.{Interns}
use Rattle.wasm_validator_canonical.specs.GroupInterning.{KeepsGroups}

none_more : {X : Type 0} (xs : List X) → xs ≡ xs ++ []
none_more [] = refl
none_more (x ∷ xs) = ap (λ us. x ∷ us) (none_more xs)

module _ {A : Type 0} (old new : Listing A) where
  pub same_groups_begin : new.groups ≡ old.groups → KeepsGroups old new
  same_groups_begin e = record { more = []; groups = e ∙ none_more old.groups }

  pub same_list_begins : new ≡ old → KeepsGroups old new
  same_list_begins e = same_groups_begin (ap (λ (l : Listing A). l.groups) e)

  pub interned_begins : (g : List (SubType A)) (is_new : Bool) (n : ℕ) → Interns old new g is_new n → KeepsGroups old new
  interned_begins g true n i = record { more = g ∷ []; groups = ap (λ (l : Listing A). l.groups) (i.added refl) }
  interned_begins g false n i = same_list_begins (i.known refl)

pub still_begins : {A : Type 0} (old mid new : Listing A) → KeepsGroups old mid → new.groups ≡ mid.groups → KeepsGroups old new
still_begins old mid new b e = record { more = b.more; groups = e ∙ b.groups }

pub begins : {A : Type 0} (l : Listing A) → KeepsGroups l l
begins l = same_groups_begin l l refl

pub ruleset lists_begin = (begins, same_list_begins, interned_begins, still_begins)
