-- The depths that a list keeps of the types of a group: the numbers of their proper ancestors. Core Specification 3.0,
-- Validation, Matching (Defined Types).
use Rattle.std.specs.Prelude.{ℕ, ◌≡◌, ◌<◌, IsSome}
use Rattle.std.specs.declared.option.Option.TheVariants.{Some}
use Rattle.wasm_spec.specs.SupertypeOrder.{supertype_of, IsDepth}
use Rattle.wasm_validator_type_list.specs.ListViews.{Listing}
use Rattle.wasm_validator_type_list.specs.DeclarationsById.{declares}
use Rattle.wasm_validator_type_list.specs.Depths.{depth_of}

module _ {A : Type 0} where
  -- the type with this id extends nothing, or the depth of what it extends is kept
  abbrev pub HasDepthAbove : Listing A → ℕ → Type 0
  HasDepthAbove l id = (above : ℕ) → supertype_of (declares l.groups) id ≡ Some above → IsSome (depth_of l.depths above)

  -- then its depth is kept too
  abbrev pub KeepsDepth : Listing A → ℕ → Type 0
  KeepsDepth l id = HasDepthAbove l id → IsSome (depth_of l.depths id)

  -- each depth that was kept still is
  abbrev pub StillKept : Listing A → Listing A → Type 0
  StillKept old new = (id n : ℕ) → depth_of old.depths id ≡ Some n → depth_of new.depths id ≡ Some n

  -- the depth of the type with this id fits a byte
  abbrev pub FitsByte : Listing A → ℕ → Type 0
  FitsByte l id = (n : ℕ) → IsDepth (declares l.groups) id n → n < 256
