-- Ids that a list doesn't have declare nothing, and nothing leads to them.
use Rattle.std.proofs.Common.{◌≡◌, sym, ap, ◌⊎◌, inl, inr, ℕ, zero, suc, ◌<◌, ◌≤◌, eqb, Bool, false, true≢false, List, length, Some, arith}
use Rattle.std.specs.Bool.{Decides}
use Rattle.std.proofs.lemmas.Bool.Decides.{Decides-eqb, same_from_decides}
use Rattle.std.proofs.lemmas.Option.{same_Some, slice_get_within, option_and_then_some}
use Rattle.wasm_readers_errors.specs.WasmSpec.Syntax.{Sub}
use Rattle.wasm_readers_errors.specs.WasmSpec.SupertypeOrder.{supertype, supertype_of, ancestor_at, IsAncestor}
use Rattle.wasm_readers_types.specs.declared.types.SubType.{SubType}
use Rattle.wasm_validator_type_ancestors.specs.WasmValidatorTypeGroups.Groups.{all_in}
use Rattle.wasm_validator_type_list.specs.GroupOrder.{AreListable}
use Rattle.wasm_validator_type_list.specs.DeclarationsById.{subs_by_ids, declares}
use Rattle.wasm_validator_type_list.specs.Worlds.{ids_world}
use Rattle.wasm_validator_type_list.proofs.IdDeclarations.{descends}
use Rattle.wasm_validator_type_list.proofs.Chains.{not_behind}
use Rattle.wasm_validator_type_list.proofs.IdsAndTypes.{length-subs}
use Rattle.wasm_validator_type_list.proofs.Worlds.{ids_are_a_world}

module _ {A : Type 0} (gs : List (List (SubType A))) where
  -- what declares something is there
  pub declared_within : (a : ℕ) (s : Sub ℕ) → declares gs a ≡ Some s → a < length (all_in gs)
  unfolding declares
  declared_within a s e = let l = slice_get_within (subs_by_ids 0 gs) a s e in omega (arith, l, length-subs gs 0)

  module _ (h : AreListable gs) where
    -- and so is each other that it leads to
    pub leads_within : (k a b : ℕ) → ancestor_at (declares gs) k a ≡ Some b → (a ≡ b) ⊎ ((a < length (all_in gs)) × (b < length (all_in gs)))
    leads_within zero a b e = inl (same_Some a b e)
    leads_within (suc k) a b e = option_and_then_some (ancestor_at (declares gs) k) (supertype_of (declares gs) a) b e (λ y f g.
        let l : y < a = descends gs h a y f in
        let m : b ≤ y = not_behind (declares gs) (descends gs h) k y b g in
        let n : a < length (all_in gs) = option_and_then_some supertype (declares gs a) y f (λ s p q. declared_within a s p) in
        inr (n, omega (arith, l, m, n)))

    unknown_same : (a b : ℕ) → (length (all_in gs) ≤ a) ⊎ (length (all_in gs) ≤ b) → (a ≡ b) ⊎ ((a < length (all_in gs)) × (b < length (all_in gs))) → a ≡ b
    unknown_same a b u (inl e) = e
    unknown_same a b (inl u) (inr w) = absurd (omega (arith, u, w))
    unknown_same a b (inr u) (inr w) = absurd (omega (arith, u, w))

    -- an id that isn't there is its own ancestor alone
    pub unknown_decides : (a b : ℕ) → (length (all_in gs) ≤ a) ⊎ (length (all_in gs) ≤ b) → Decides (eqb a b) (IsAncestor (declares gs) a b)
    unknown_decides a b u =
        let d = Decides-eqb a b in
        ((λ e. record { steps = 0; leads = ap Some (d.0 e) }), (λ p. d.1 (unknown_same a b u (leads_within p.steps a b p.leads))))

    pub known_apart : (a b : ℕ) → a < length (all_in gs) → length (all_in gs) ≤ b → Decides false (IsAncestor (declares gs) a b)
    known_apart a b l u =
        ((λ e. absurd (true≢false (sym e))), (λ p. let e : a ≡ b = unknown_same a b (inr u) (leads_within p.steps a b p.leads) in absurd (omega (arith, l, u, e))))

    -- a right test is that of the list's world
    pub test_of_world : (a b : ℕ) (r : Bool) → Decides r (IsAncestor (declares gs) a b) → r ≡ (ids_world gs).below a b
    test_of_world a b r d = same_from_decides r ((ids_world gs).below a b) d ((ids_are_a_world gs h).below a b)
