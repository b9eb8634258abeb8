-- The depths of types by those of what they extend, and ids that are in a list.
use Rattle.std.proofs.Common.{◌≡◌, refl, sym, ap, subst, ◌∙◌, ℕ, zero, suc, ◌+◌, ◌≤◌, ◌<◌, List, length, Option, Some, None, IfSome, All, arith}
use Rattle.std.proofs.lemmas.List.Elements.{All-nil, All-cons}
use Rattle.std.specs.Option.{option_and_then, SomeIff}
use Rattle.wasm_spec.specs.SupertypeOrder.{ancestor_at, IsDepth}
use Rattle.wasm_readers_types.specs.WasmReadersValues.declared.indices.CoreTypeId.{CoreTypeId}
use Rattle.wasm_readers_types.specs.declared.types.SubType.{SubType}
use Rattle.wasm_validator_type_list.specs.DeclarationsById.{declares}
use Rattle.wasm_validator_type_list.specs.WasmValidatorTypeGroups.Elements.{numbers_from}
use Rattle.wasm_validator_type_list.specs.WasmValidatorTypeGroups.Groups.{first_of}
use Rattle.wasm_validator_type_list.specs.ListViews.{Listing, types_in}
use Rattle.wasm_validator_type_list.specs.Lookups.{IsSupertypeAt}
use Rattle.wasm_validator_type_list.proofs.IdDeclarations.{supertype_read}
use Rattle.wasm_validator_type_list.proofs.DefTypes.{first_of-within}
use Rattle.wasm_validator_canonical.specs.GroupInterning.{InternsUnder}
use Rattle.wasm_validator_canonical.proofs.InternedIds.{there, first_of_next}

module _ {A : Type 0} where
  -- a type that extends nothing has no proper ancestor
  pub top_depth : (gs : List (List (SubType A))) (id : ℕ) → IsSupertypeAt gs id None → IsDepth (declares gs) id 0
  top_depth gs id h = record { top = id; leads = refl; is_top = supertype_read gs id None h }

  -- one that extends another has one more than that
  pub next_depth : (gs : List (List (SubType A))) (id : ℕ) (above : CoreTypeId) (n : ℕ) → IsSupertypeAt gs id (Some above) → IsDepth (declares gs) above.index n → IsDepth (declares gs) id (suc n)
  next_depth gs id above n h d =
      record { top = d.top; leads = ap (option_and_then (ancestor_at (declares gs) n)) (supertype_read gs id (Some above) h) ∙ d.leads; is_top = d.is_top }

  -- where that is a number
  pub next_depth_fits : (gs : List (List (SubType A))) (id : ℕ) (above : CoreTypeId) (n : ℕ) (o : Option ℕ) (P : Type 0) → IsSupertypeAt gs id (Some above) → IsDepth (declares gs) above.index n → SomeIff o P (n + 1) → IfSome o (IsDepth (declares gs) id)
  next_depth_fits gs id above n None P h d s = tt
  next_depth_fits gs id above n (Some k) P h d s = let one = s.1 in let e : suc n ≡ k = omega (arith, one) in subst (IsDepth (declares gs) id) e (next_depth gs id above n h d)

-- so many numbers from this one on
below : (end start count : ℕ) → start + count ≤ end → All (λ i. i < end) (numbers_from start count)
below end start zero h = All-nil (λ i. i < end)
below end start (suc n) h = All-cons (λ i. i < end) start (numbers_from (start + 1) n) (omega (arith, h)) (below end (start + 1) n (omega (arith, h)))

-- the ids of an interned group are in the list
module _ {A : Type 0} where
  pub interned_there : (old new : Listing A) (g : List (SubType A)) (ids : List ℕ) → InternsUnder old new g ids → All (λ i. i < length (types_in new)) ids
  interned_there old new g ids h =
      let next = first_of_next new.groups h.group g (there old new g h.is_new h.group h.interned) in
      let within = first_of-within new.groups (h.group + 1) in
      subst (All (λ i. i < length (types_in new))) (sym h.are_ids) (below (length (types_in new)) (first_of new.groups h.group) (length g) (omega (arith, next, within)))
