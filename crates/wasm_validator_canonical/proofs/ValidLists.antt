-- The types of a list are valid where each id keeps the rules.
use Rattle.std.proofs.Common.{refl, ℕ, ◌<◌, ◌≤◌, true, false, length, arith}
use Rattle.std.specs.Bool.{Decides}
use Rattle.std.proofs.lemmas.Option.{slice_get_within}
use Rattle.wasm_spec.specs.Features.{Features}
use Rattle.wasm_spec.specs.GroupRules.{IsValidType}
use Rattle.wasm_spec.specs.Trees.{declared}
use Rattle.wasm_spec.specs.TypeLaws.{HasNoRepetition}
use Rattle.wasm_validator_type_list.specs.DeclarationsById.{declares}
use Rattle.wasm_validator_type_list.specs.DefTypes.{types_of_list}
use Rattle.wasm_validator_type_list.specs.GroupOrder.{AreListable}
use Rattle.wasm_validator_type_list.specs.ListViews.{Listing, types_in}
use Rattle.wasm_validator_type_list.proofs.DefTypes.{length-def_types}
use Rattle.wasm_validator_type_checks.proofs.IdsAndTypes.{ids_keep_rules_as_types}
use Rattle.wasm_validator_canonical.specs.Groups.{AreValid}
use Rattle.wasm_validator_canonical.proofs.Lists.{all_from, all_at, some_at}

module _ {A : Type 0} (F : Features) (l : Listing A) (listable : AreListable l.groups) (one : HasNoRepetition (types_of_list l)) where
  -- each id below the limit keeps the rules
  abbrev pub KeepsUpTo : ℕ → Type 0
  KeepsUpTo n = (id : ℕ) → id < n → IsValidType F (declares l.groups) id

  all_valid : KeepsUpTo (length (types_in l)) → AreValid F (types_of_list l)
  all_valid all =
      all_from (IsValidType F declared) (types_of_list l)
      (λ k d e.
      let within = slice_get_within (types_of_list l) k d e in
      let many = length-def_types l.is_canonical l.groups in
      (ids_keep_rules_as_types F l.is_canonical l.groups listable one k d e).0 (all k (omega (arith, within, many))))

  one_valid : (id : ℕ) → id < length (types_in l) → AreValid F (types_of_list l) → IsValidType F (declares l.groups) id
  one_valid id within v =
      let many = length-def_types l.is_canonical l.groups in
      let d = some_at (types_of_list l) id (omega (arith, within, many)) in
      (ids_keep_rules_as_types F l.is_canonical l.groups listable one id d.0 d.1).1 (all_at (IsValidType F declared) (types_of_list l) v id d.0 d.1)

  pub all_keep : (n : ℕ) → length (types_in l) ≤ n → KeepsUpTo n → Decides true (AreValid F (types_of_list l))
  all_keep n h all = (λ e. all_valid (λ id within. all id (omega (arith, within, h))), λ v. refl)

  pub one_breaks : (id : ℕ) → id < length (types_in l) → Decides false (IsValidType F (declares l.groups) id) → Decides false (AreValid F (types_of_list l))
  one_breaks id within d = (λ e. absurd cc, λ v. d.1 (one_valid id within v))
