-- Chains of supertypes: walks along them, and how many proper ancestors there are.
use Rattle.std.proofs.Common.{◌≡◌, refl, sym, ap, subst, ◌∙◌, inl, inr, ⊎_elim, ℕ, zero, suc, ◌+◌, ◌-◌, ◌<◌, ◌≤◌, Bool, true, false, true≢false, Option, Some, None, arith}
use Rattle.std.specs.Option.{option_and_then}
use Rattle.std.specs.Bool.{Decides}
use Rattle.std.proofs.lemmas.Bool.{cases_lt}
use Rattle.std.proofs.lemmas.Option.{none-some, same_Some}
use Rattle.wasm_validator_type_groups.specs.WasmSpec.Syntax.{Sub}
use Rattle.wasm_validator_type_groups.specs.WasmSpec.SupertypeOrder.{supertype_of, ancestor_at, IsAncestor, IsDepth, Links}
use Rattle.wasm_validator_type_groups.proofs.WasmSpec.Depths.{depths_are_small}
use Rattle.wasm_validator_type_groups.proofs.WasmSpec.Matching.{ancestor_at-add}
use Rattle.wasm_validator_type_ancestors.specs.ReadCounts.{Counts}

-- so many links from a lead here, and none before is b
pub record IsWalk (D : ℕ → Option (Sub ℕ)) (a b links here : ℕ) : Type 0 where
  pub leads : ancestor_at D links a ≡ Some here
  pub apart : (m x : ℕ) → m < links → ancestor_at D m a ≡ Some x → x ≡ b → ⊥

module _ (D : ℕ → Option (Sub ℕ)) where
  -- one link more, at the end
  one_link : (x : ℕ) (o : Option ℕ) → supertype_of D x ≡ o → ancestor_at D 1 x ≡ o
  one_link x None f = ap (option_and_then (ancestor_at D 0)) f
  one_link x (Some y) f = ap (option_and_then (ancestor_at D 0)) f

  next_ancestor : (n a x : ℕ) (o : Option ℕ) → ancestor_at D n a ≡ Some x → supertype_of D x ≡ o → ancestor_at D (n + 1) a ≡ o
  next_ancestor n a x o e f = ancestor_at-add D n 1 a ∙ ap (option_and_then (ancestor_at D 1)) e ∙ one_link x o f

  -- further links, from what so many lead to
  further_ancestor : (n m a : ℕ) (o : Option ℕ) → n ≤ m → ancestor_at D n a ≡ o → ancestor_at D m a ≡ option_and_then (ancestor_at D (m - n)) o
  further_ancestor n m a o l e =
      let s : m ≡ n + (m - n) = omega (arith, l) in
      ap (λ k. ancestor_at D k a) s ∙ ancestor_at-add D n (m - n) a ∙ ap (option_and_then (ancestor_at D (m - n))) e

  -- a walk goes on
  pub walk-step : (a b n here next : ℕ) → IsWalk D a b n here → (here ≡ b → ⊥) → supertype_of D here ≡ Some next → IsWalk D a b (n + 1) next
  walk-step a b n here next w other e = record {
    leads = next_ancestor n a here (Some next) w.leads e;
    apart = λ m x k f g. ⊎_elim
        (λ (less : m < n). w.apart m x less f g)
        (λ (more : n ≤ m).
        let s : n ≡ m = omega (arith, k, more) in
        other (same_Some here x (sym w.leads ∙ ap (λ j. ancestor_at D j a) s ∙ f) ∙ g))
        (cases_lt m n);
  }

  -- b is an ancestor of a where it is one of what the walk ends at
  ancestor_from : (a b n here : ℕ) → IsWalk D a b n here → IsAncestor D here b → IsAncestor D a b
  ancestor_from a b n here w p = record { steps = n + p.steps; leads = ancestor_at-add D n p.steps a ∙ ap (option_and_then (ancestor_at D p.steps)) w.leads ∙ p.leads }

  ancestor_to : (a b n here : ℕ) → IsWalk D a b n here → IsAncestor D a b → IsAncestor D here b
  ancestor_to a b n here w p = ⊎_elim
      (λ (less : p.steps < n). absurd (w.apart p.steps b less p.leads refl))
      (λ (more : n ≤ p.steps). record { steps = p.steps - n; leads = sym (further_ancestor n p.steps a (Some here) more w.leads) ∙ p.leads })
      (cases_lt p.steps n)

  pub walk-decides : (a b n here : ℕ) (r : Bool) → IsWalk D a b n here → Decides r (IsAncestor D here b) → Decides r (IsAncestor D a b)
  walk-decides a b n here r w d = ((λ e. ancestor_from a b n here w (d.0 e)), (λ p. d.1 (ancestor_to a b n here w p)))

  -- no more links than there are
  past_none : (m n a here : ℕ) → m ≤ n → ancestor_at D m a ≡ None → ancestor_at D n a ≡ Some here → ⊥
  past_none m n a here l e f = none-some here (sym (further_ancestor m n a None l e) ∙ f)

  walk-few : (a b n here m : ℕ) → IsWalk D a b n here → Links D a b m → n ≤ m
  walk-few a b n here m w (inl e) = ⊎_elim
      (λ (less : m < n). absurd (w.apart m b less e refl))
      (λ (more : n ≤ m). more)
      (cases_lt m n)
  walk-few a b n here m w (inr h) = ⊎_elim
      (λ (less : m < n). absurd (past_none (m + 1) n a here (omega (arith, less)) (next_ancestor m a h.1.top None h.1.leads h.1.is_top) w.leads))
      (λ (more : n ≤ m). more)
      (cases_lt m n)

  -- the links that are left
  depth_left : (a n here m : ℕ) → ancestor_at D n a ≡ Some here → n ≤ m → IsDepth D a m → IsDepth D here (m - n)
  depth_left a n here m e l d = record { top = d.top; leads = sym (further_ancestor n m a (Some here) l e) ∙ d.leads; is_top = d.is_top }

  links_left : (a b n here m : ℕ) → IsWalk D a b n here → n ≤ m → Links D a b m → Links D here b (m - n)
  links_left a b n here m w l (inl e) = inl (sym (further_ancestor n m a (Some here) l w.leads) ∙ e)
  links_left a b n here m w l (inr h) = inr ((λ p. h.0 (ancestor_from a b n here w p)), depth_left a n here m w.leads l h.1)

  -- what is counted along a walk and behind it
  read_behind : (a b k here mid new m n : ℕ) → IsWalk D a b k here → Counts D here b mid new → IsDepth D a m → IsDepth D b n → n < m → mid < new + k
  read_behind a b zero here mid new m n w c h g l =
      let r : mid < new = c.read m n (subst (λ x. IsDepth D x m) (same_Some a here w.leads) h) g l in
      omega (arith, r)
  read_behind a b (suc k) here mid new m n w c h g l = omega (arith, c.grows)

  pub walk-counts : (a b old mid new here : ℕ) → IsWalk D a b (mid - old) here → old ≤ mid → Counts D here b mid new → Counts D a b old new
  walk-counts a b old mid new here w l c = record {
    grows = omega (arith, l, c.grows);
    few = λ m h.
        let k : mid - old ≤ m = walk-few a b (mid - old) here m w h in
        let f : new ≤ mid + (m - (mid - old)) = c.few (m - (mid - old)) (links_left a b (mid - old) here m w k h) in
        omega (arith, k, f, l);
    read = λ m n h g d.
        let r : mid < new + (mid - old) = read_behind a b (mid - old) here mid new m n w c h g d in
        omega (arith, r, l, c.grows);
  }

  -- a depth through an ancestor
  pub depth_through : (a b s m n : ℕ) → IsDepth D a m → IsDepth D b n → ancestor_at D s a ≡ Some b → m ≡ s + n
  depth_through a b s m n h g e =
      depths_are_small.one_depth D a m (s + n) h (record { top = g.top; leads = ancestor_at-add D s n a ∙ ap (option_and_then (ancestor_at D n)) e ∙ g.leads; is_top = g.is_top })

  pub itself_is_found : (a b : ℕ) → a ≡ b → Decides true (IsAncestor D a b)
  itself_is_found a b e = ((λ _. record { steps = 0; leads = ap Some e }), (λ _. refl))

  -- nothing is counted at b, nor where there are no more proper ancestors than b's
  pub counts-here : (a b n : ℕ) → a ≡ b → Counts D a b n n
  counts-here a b n e = record {
    grows = omega arith;
    few = λ m h. omega arith;
    read = λ m k h g l. let same : m ≡ k = depths_are_small.one_depth D b m k (subst (λ x. IsDepth D x m) e h) g in absurd (omega (arith, same, l));
  }

  module _ (a b m n : ℕ) (h : IsDepth D a m) (g : IsDepth D b n) where
    no_steps : (s : ℕ) → ancestor_at D s a ≡ Some b → s ≡ 0 → a ≡ b
    no_steps s e z = same_Some a b (sym (ap (λ k. ancestor_at D k a) z) ∙ e)

    pub not_above : m ≤ n → (a ≡ b → ⊥) → Decides false (IsAncestor D a b)
    not_above l other = (
      (λ f. absurd (true≢false (sym f))),
      (λ p. let k : m ≡ p.steps + n = depth_through a b p.steps m n h g p.leads in absurd (other (no_steps p.steps p.leads (omega (arith, k, l))))),
    )

    pub counts-not_above : (old : ℕ) → m ≤ n → Counts D a b old old
    counts-not_above old l = record {
      grows = omega arith;
      few = λ k x. omega arith;
      read = λ i j x y d.
          let i_is : i ≡ m = depths_are_small.one_depth D a i m x h in
          let j_is : j ≡ n = depths_are_small.one_depth D b j n y g in
          absurd (omega (arith, i_is, j_is, d, l));
    }

    -- the ancestor that has as many proper ancestors as b is b, if b is an ancestor
    pub listed-decides : (x : ℕ) (r : Bool) → n < m → ancestor_at D (m - n) a ≡ Some x → Decides r (x ≡ b) → Decides r (IsAncestor D a b)
    listed-decides x r l e d = (
      (λ f. record { steps = m - n; leads = e ∙ ap Some (d.0 f) }),
      (λ p.
          let k : m ≡ p.steps + n = depth_through a b p.steps m n h g p.leads in
          let s : m - n ≡ p.steps = omega (arith, k) in
          d.1 (same_Some x b (sym e ∙ ap (λ j. ancestor_at D j a) s ∙ p.leads))),
    )

    some_links : (k : ℕ) → (a ≡ b → ⊥) → n < m → Links D a b k → 0 < k
    some_links k other l (inl e) = ⊎_elim (λ (some : 0 < k). some) (λ (none : k ≤ 0). absurd (other (no_steps k e (omega (arith, none))))) (cases_lt 0 k)
    some_links k other l (inr x) = let same : k ≡ m = depths_are_small.one_depth D a k m x.1 h in omega (arith, same, l)

    pub counts-listed : (old new : ℕ) → (a ≡ b → ⊥) → n < m → new ≡ old + 1 → Counts D a b old new
    counts-listed old new other l c = record {
      grows = omega (arith, c);
      few = λ k x. let some : 0 < k = some_links k other l x in omega (arith, some, c);
      read = λ i j x y d. omega (arith, c);
    }
