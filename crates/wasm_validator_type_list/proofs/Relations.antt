-- What a list of types shows, of what is always true of it.
use Rattle.std.proofs.Common.{◌≡◌, subst}
use Rattle.wasm_validator_type_list.specs.declared.type_list.TypeList.TheInside.{Inside}
use Rattle.wasm_validator_type_list.specs.ListViews.{Listing}
use Rattle.wasm_validator_type_list.specs.GroupOrder.{AreListable}
use Rattle.wasm_validator_type_list.specs.ListSoundness.{shown, IsSound}

module _ {A : Type 0} where
  pub listable_of : (a : Inside A) (l : Listing A) → shown a ≡ l → IsSound a → AreListable l.groups
  listable_of a l e h = subst (λ (m : Listing A). AreListable m.groups) e h.listable
