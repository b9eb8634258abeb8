-- Items that are read one by one and added, as items that are all read and then added.
use Rattle.std.proofs.Common.{◌≡◌, refl, sym, ap, subst, ◌∙◌, ℕ, zero, suc, Bool, true, false, cond, List, [], ◌∷◌, map, length, Option, Some, None, arith}
use Rattle.std.specs.Option.{option_map, option_and_then}
use Rattle.wasm_spec.specs.Values.{items_at}
use Rattle.wasm_spec_rules.specs.Sections.{each}
use Rattle.wasm_validator_sections.specs.Sections.{read_each}

module _ {S V : Type 0} (encoded : List ℕ → Option (V × List ℕ)) (add : S → V → Option S) where
  -- the first item, and those behind it
  first_then : (s : S) (v : V) (o : Option (List V)) (rest : S → Option S) → ((t : S) → rest t ≡ option_and_then (λ xs. each add t xs) o)
      → (a : Option S) → add s v ≡ a → option_and_then rest a ≡ option_and_then (λ xs. each add s xs) (option_map (λ xs. v ∷ xs) o)
  first_then s v None rest h None e = refl
  first_then s v None rest h (Some t) e = h t
  first_then s v (Some xs) rest h None e = sym (ap (option_and_then (λ t. each add t xs)) e)
  first_then s v (Some xs) rest h (Some t) e = h t ∙ sym (ap (option_and_then (λ t. each add t xs)) e)

  at_end : (b : Bool) (s : S) → cond b (Some s) None ≡ option_and_then (λ xs. each add s xs) (cond b (Some []) None)
  at_end true s = refl
  at_end false s = refl

  one_read : (n : ℕ) (s : S) (o : Option (V × List ℕ)) → ((bytes : List ℕ) (t : S) → read_each encoded add n bytes t ≡ option_and_then (λ xs. each add t xs) (items_at encoded n bytes))
      → option_and_then (λ x. option_and_then (λ t. read_each encoded add n x.1 t) (add s x.0)) o
      ≡ option_and_then (λ xs. each add s xs) (option_and_then (λ x. option_map (λ xs. x.0 ∷ xs) (items_at encoded n x.1)) o)
  one_read n s None h = refl
  one_read n s (Some x) h = first_then s x.0 (items_at encoded n x.1) (λ t. read_each encoded add n x.1 t) (λ t. h x.1 t) (add s x.0) refl

  pub read_then_added : (n : ℕ) (bytes : List ℕ) (s : S) → read_each encoded add n bytes s ≡ option_and_then (λ xs. each add s xs) (items_at encoded n bytes)
  read_then_added zero bytes s = at_end _ s
  read_then_added (suc n) bytes s = one_read n s (encoded bytes) (λ more t. read_then_added n more t)

-- items that are read as renamed
module _ {V W : Type 0} (f : V → W) (reads : List ℕ → Option (V × List ℕ)) (renamed : List ℕ → Option (W × List ℕ)) (renames : (bytes : List ℕ) → renamed bytes ≡ option_map (λ x. (f x.0, x.1)) (reads bytes)) where
  end_renamed : (b : Bool) → cond b (Some []) None ≡ option_map (map f) (cond b (Some []) None)
  end_renamed true = refl
  end_renamed false = refl

  push_renamed : (v : V) (o : Option (List V)) → option_map (λ ys. f v ∷ ys) (option_map (map f) o) ≡ option_map (map f) (option_map (λ xs. v ∷ xs) o)
  push_renamed v None = refl
  push_renamed v (Some xs) = refl

  next_renamed : (n : ℕ) (o : Option (V × List ℕ)) → ((bytes : List ℕ) → items_at renamed n bytes ≡ option_map (map f) (items_at reads n bytes))
      → option_and_then (λ (x : W × List ℕ). option_map (λ xs. x.0 ∷ xs) (items_at renamed n x.1)) (option_map (λ (x : V × List ℕ). (f x.0, x.1)) o)
      ≡ option_map (map f) (option_and_then (λ (x : V × List ℕ). option_map (λ xs. x.0 ∷ xs) (items_at reads n x.1)) o)
  next_renamed n None h = refl
  next_renamed n (Some x) h = ap (option_map (λ ys. f x.0 ∷ ys)) (h x.1) ∙ push_renamed x.0 (items_at reads n x.1)

  pub items_renamed : (n : ℕ) (bytes : List ℕ) → items_at renamed n bytes ≡ option_map (map f) (items_at reads n bytes)
  items_renamed zero bytes = end_renamed _
  items_renamed (suc n) bytes = ap (option_and_then (λ (x : W × List ℕ). option_map (λ xs. x.0 ∷ xs) (items_at renamed n x.1))) (renames bytes) ∙ next_renamed n (reads bytes) (λ more. items_renamed n more)

-- there are as many as the count says
module _ {V : Type 0} (reads : List ℕ → Option (V × List ℕ)) where
  abbrev AreMany : ℕ → Option (List V) → Type 0
  AreMany n None = Unit {0}
  AreMany n (Some xs) = length xs ≡ n

  end_many : (b : Bool) → AreMany 0 (cond b (Some []) None)
  end_many true = refl
  end_many false = tt

  push_many : (n : ℕ) (v : V) (o : Option (List V)) → AreMany n o → AreMany (suc n) (option_map (λ xs. v ∷ xs) o)
  push_many n v None h = tt
  push_many n v (Some xs) h = omega (arith, h)

  next_many : (n : ℕ) (o : Option (V × List ℕ)) → ((bytes : List ℕ) → AreMany n (items_at reads n bytes)) → AreMany (suc n) (option_and_then (λ x. option_map (λ xs. x.0 ∷ xs) (items_at reads n x.1)) o)
  next_many n None h = tt
  next_many n (Some x) h = push_many n x.0 (items_at reads n x.1) (h x.1)

  are_many : (n : ℕ) (bytes : List ℕ) → AreMany n (items_at reads n bytes)
  are_many zero bytes = end_many _
  are_many (suc n) bytes = next_many n (reads bytes) (λ more. are_many n more)

  pub as_many_as_counted : (n : ℕ) (bytes : List ℕ) (xs : List V) → items_at reads n bytes ≡ Some xs → length xs ≡ n
  as_many_as_counted n bytes xs e = subst (AreMany n) e (are_many n bytes)
