-- Function types that a list has under ids.
use Rattle.std.proofs.Common.{◌≡◌, refl, sym, ap, ◌∙◌, ℕ, ◌<◌, ◌≤◌, List, length, slice_get, Option, Some, None, IfSome, arith}
use Rattle.std.specs.List.{slice_index_or}
use Rattle.std.specs.declared.ops.Range.{Range}
use Rattle.std.proofs.lemmas.Option.{slice_get_read, slice_get_past}
use Rattle.wasm_spec.specs.Syntax.{Val, map_comp}
use Rattle.wasm_readers_types.specs.WasmReadersValues.declared.indices.TheConstants.{MAX_IDS}
use Rattle.wasm_readers_types.specs.WasmReadersValues.declared.indices.CoreTypeId.{CoreTypeId}
use Rattle.wasm_readers_types.specs.SeenTypes.{comp_of}
use Rattle.wasm_readers_types.specs.declared.types.SubType.{SubType}
use Rattle.wasm_validator_type_list.specs.WasmValidatorTypeGroups.Groups.{all_in, first_of, IsInGroup}
use Rattle.wasm_validator_type_list.specs.Lookups.{leads_to, group_span}
use Rattle.wasm_validator_type_list.specs.DeclarationsById.{sub_by_ids, subs_by_ids, declares}
use Rattle.wasm_validator_type_list.proofs.DefTypes.{first_of-within}
use Rattle.wasm_validator_type_list.proofs.IdDeclarations.{declares-at}
use Rattle.wasm_validator_type_list.proofs.IdsAndTypes.{length-subs}
use Rattle.wasm_validator_handles.specs.declared.signatures.Signature.{Signature}
use Rattle.wasm_validator_handles.specs.Signatures.{func_in, func_of_comp}

module _ {A : Type 0} where
  -- a type that is read, in a group whose range of ids is read
  module _
      (gs : List (List (SubType A))) (k at start : ℕ) (ids : Range CoreTypeId) (ty : SubType A) (in_group : IsInGroup gs k at)
      (there : at < length (all_in gs)) (span : ids ≡ group_span gs k) (first : start ≡ ids.start.index) (here : ty ≡ slice_index_or (all_in gs) at ty) where
    from : start ≡ first_of gs k
    from = first ∙ ap (λ (i : Range CoreTypeId). i.start.index) span

    read : slice_get (all_in gs) at ≡ Some ty
    read = slice_get_read (all_in gs) (length (all_in gs)) at ty refl there here

    pub found : (o : Option (List (Val ℕ) × List (Val ℕ))) → o ≡ func_of_comp (map_comp (leads_to start) (comp_of ty.composite_type.inner))
        → o ≡ func_in (declares gs at)
    found o e =
        e ∙ sym (ap func_in (declares-at gs k at ty in_group read) ∙ ap (λ n. func_in (Some (sub_by_ids n ty))) (sym from))

    pub start_within : length (all_in gs) ≤ MAX_IDS → start ≤ MAX_IDS
    start_within room = omega (arith, from, first_of-within gs k, room)

  -- behind the last id
  pub none_found : (gs : List (List (SubType A))) (id : ℕ) → length (all_in gs) ≤ id → None ≡ func_in (declares gs id)
  unfolding declares
  none_found gs id l = ap func_in (sym (slice_get_past (subs_by_ids 0 gs) id (omega (arith, l, length-subs gs 0))))

-- what begins where a group does begins below the last id
pub bounded : (o : Option Signature) (start : ℕ) → start ≤ MAX_IDS → IfSome o (λ s. s.start ≡ start) → IfSome o (λ s. s.start ≤ MAX_IDS)
bounded (Some s) start l e = omega (arith, l, e)
bounded None start l e = e
