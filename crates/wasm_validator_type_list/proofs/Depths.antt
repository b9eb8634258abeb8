-- The numbers of proper ancestors, as groups come behind.
use Rattle.std.proofs.Common.{◌≡◌, refl, sym, ap, ◌∙◌, ℕ, zero, suc, ◌<◌, ◌≤◌, Bool, true, false, cond, List, [], ◌∷◌, ◌++◌, map, length, slice_get, Option, Some, None, arith, subst, ◌+◌, length-append}
use Rattle.std.specs.Option.{option_map, option_and_then}
use Rattle.std.specs.FinMap.Entries.{find-put}
use Rattle.std.specs.Ordering.{nat_cmp, eq_by_cmp}
use Rattle.std.specs.Cmp.{unsigned_tied, nat_cmp_total}
use Rattle.std.proofs.lemmas.Option.{same_Some}
use Rattle.std.proofs.lemmas.Bool.Decides.{Decides-eqb}
use Rattle.std.proofs.lemmas.List.{append_assoc}
use Rattle.wasm_readers_errors.specs.WasmSpec.Syntax.{Sub}
use Rattle.wasm_readers_errors.specs.WasmSpec.SupertypeOrder.{supertype, supertype_of, ancestor_at, IsDepth}
use Rattle.wasm_readers_types.specs.WasmReadersValues.declared.indices.CoreTypeId.{CoreTypeId}
use Rattle.wasm_readers_types.specs.declared.types.SubType.{SubType}
use Rattle.wasm_validator_type_ancestors.specs.WasmValidatorTypeGroups.Groups.{all_in}
use Rattle.wasm_validator_type_list.specs.GroupOrder.{AreListable}
use Rattle.wasm_validator_type_list.specs.Lookups.{IsSupertypeAt}
use Rattle.wasm_validator_type_list.specs.DeclarationsById.{sub_by_ids, subs_by_ids, declares}
use Rattle.wasm_validator_type_list.specs.Depths.{depth_of, with_depth, HasDepth, AreDepths}
use Rattle.wasm_validator_type_ancestors.proofs.WasmValidatorTypeGroups.FlatGroups.{all_in-push}
use Rattle.wasm_validator_type_ancestors.proofs.WasmValidatorTypeGroups.Places.{get-left}
use Rattle.wasm_validator_type_list.proofs.IdDeclarations.{supertype_read, descends}
use Rattle.wasm_validator_type_list.proofs.Chains.{not_behind}
use Rattle.wasm_validator_type_list.proofs.IdsAndTypes.{length-subs}

-- what is found through an option, where each way finds the same
through_same : {X : Type 0} (f g : ℕ → Option X) (o : Option ℕ) → ((y : ℕ) → o ≡ Some y → f y ≡ g y) → option_and_then f o ≡ option_and_then g o
through_same f g None h = refl
through_same f g (Some y) h = h y refl

-- ids below a bound declare the same, and what they extend comes before them
module _ (D E : ℕ → Option (Sub ℕ)) (bound : ℕ) (down : (x y : ℕ) → supertype_of D x ≡ Some y → y < x) (same : (id : ℕ) → id < bound → E id ≡ D id) where
  ancestors_stay : (n id : ℕ) → id < bound → ancestor_at E n id ≡ ancestor_at D n id
  ancestors_stay zero id l = refl
  ancestors_stay (suc n) id l =
      ap (λ s. option_and_then (ancestor_at E n) (option_and_then supertype s)) (same id l)
      ∙ through_same (ancestor_at E n) (ancestor_at D n) (supertype_of D id) (λ y e. let k : y < id = down id y e in ancestors_stay n y (omega (arith, k, l)))

  depth_stays : (n id : ℕ) → id < bound → IsDepth D id n → IsDepth E id n
  depth_stays n id l h =
      let k : h.top ≤ id = not_behind D down n id h.top h.leads in
      let here : h.top < bound = omega (arith, k, l) in
      record { top = h.top; leads = ancestors_stay n id l ∙ h.leads; is_top = ap (option_and_then supertype) (same h.top here) ∙ h.is_top }

module _ {A : Type 0} where
  pub subs-push : (gs : List (List (SubType A))) (g : List (SubType A)) (start : ℕ) → subs_by_ids start (gs ++ g ∷ []) ≡ subs_by_ids start gs ++ subs_by_ids (start + length (all_in gs)) (g ∷ [])
  subs-push [] g start = let n : start ≡ start + 0 = omega arith in ap (λ s. subs_by_ids s (g ∷ [])) n
  subs-push (h ∷ hs) g start =
      let n : start + length h + length (all_in hs) ≡ start + length (all_in (h ∷ hs)) = omega (arith, length-append h (all_in hs)) in
      ap (λ l. map (sub_by_ids start) h ++ l) (subs-push hs g (start + length h) ∙ ap (λ s. subs_by_ids (start + length h) hs ++ subs_by_ids s (g ∷ [])) n)
      ∙ sym (append_assoc (map (sub_by_ids start) h) (subs_by_ids (start + length h) hs) (subs_by_ids (start + length (all_in (h ∷ hs))) (g ∷ [])))

  -- ids declare what they did
  declares-stays : (gs : List (List (SubType A))) (g : List (SubType A)) (id : ℕ) → id < length (all_in gs) → declares (gs ++ g ∷ []) id ≡ declares gs id
  unfolding declares
  declares-stays gs g id l =
      ap (λ ss. slice_get ss id) (subs-push gs g 0) ∙ get-left (subs_by_ids 0 gs) (subs_by_ids (0 + length (all_in gs)) (g ∷ [])) id (omega (arith, l, length-subs gs 0))

  -- and have the depths that they had
  pub depths-push : (gs : List (List (SubType A))) (g : List (SubType A)) (depths : List (ℕ × ℕ)) → AreListable gs → AreDepths gs depths → AreDepths (gs ++ g ∷ []) depths
  depths-push gs g depths listable h id n e =
      let d = h id n e in
      record {
        there = omega (arith, d.there, ap length (all_in-push gs g), length-append (all_in gs) g);
        depth = depth_stays (declares gs) (declares (gs ++ g ∷ [])) (length (all_in gs)) (descends gs listable) (declares-stays gs g) n id d.there d.depth;
      }

  -- a depth more is kept
  put-right : (gs : List (List (SubType A))) (id n j d : ℕ) (b : Bool) (o : Option ℕ) → (b ≡ true → id ≡ j) → HasDepth gs id n → (o ≡ Some d → HasDepth gs j d) → cond b (Some n) o ≡ Some d → HasDepth gs j d
  put-right gs id n j d true o same h k e = subst (λ x. HasDepth gs x d) (same refl) (subst (HasDepth gs id) (same_Some n d e) h)
  put-right gs id n j d false o same h k e = k e

  pub depth-put : (gs : List (List (SubType A))) (depths : List (ℕ × ℕ)) (id n : ℕ) → AreDepths gs depths → HasDepth gs id n → AreDepths gs (with_depth depths id n)
  depth-put gs depths id n h t j d e =
      put-right gs id n j d (eq_by_cmp nat_cmp j id) (depth_of depths j) (λ b. sym ((Decides-eqb j id).0 (sym (unsigned_tied j id) ∙ b))) t (h j d) (sym (find-put nat_cmp nat_cmp_total j id n depths) ∙ e)

-- what is then found
pub found-put : (depths : List (ℕ × ℕ)) (id n : ℕ) → depth_of (with_depth depths id n) id ≡ Some n
found-put depths id n = find-put nat_cmp nat_cmp_total id id n depths ∙ ap (λ b. cond b (Some n) (depth_of depths id)) (unsigned_tied id id ∙ (Decides-eqb id id).1 refl)

-- a type that extends nothing has no proper ancestors
pub depth-none : {A : Type 0} (gs : List (List (SubType A))) (id : ℕ) (o : Option CoreTypeId) → IsSupertypeAt gs id o → o ≡ None → IsDepth (declares gs) id 0
depth-none gs id o h e = record { top = id; leads = refl; is_top = supertype_read gs id o h ∙ ap (option_map (λ (i : CoreTypeId). i.index)) e }
