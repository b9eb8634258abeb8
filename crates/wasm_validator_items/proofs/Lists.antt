-- Lists whose items are checked as they are read are read and then checked.
use Rattle.std.proofs.Common.{◌≡◌, refl, sym, ap, ◌∙◌, ℕ, zero, suc, nat_le, Bool, true, false, ◌&&◌, if◌then◌else◌, List, [], ◌∷◌, length, Option, Some, None, option_map}
use Rattle.std.specs.List.{list_all}
use Rattle.std.specs.Option.{option_and_then}
use Rattle.std.proofs.lemmas.Option.{same_Some}
use Rattle.wasm_spec.specs.Values.{u32_at, many_at, list_at}
use Rattle.wasm_spec_rules.proofs.Tests.{then_some, map_some}
use Rattle.wasm_validator_segments.specs.Lists.{behind_many, behind_list}
use Rattle.wasm_validator_items.proofs.Attempts.{behind_where, always_none, then_mapped, then_then, then_same}
use Rattle.wasm_spec_rules.specs.Limits.{most_items}

-- lists of as many items as their count says
many_are : {V : Type 0} (reads : List ℕ → Option (V × List ℕ)) (n : ℕ) (bytes : List ℕ) (x : List V × List ℕ) → many_at reads n bytes ≡ Some x → length x.0 ≡ n
many_are {V = V} reads zero bytes x e = ap (λ (y : List V × List ℕ). length y.0) (sym (same_Some ([], bytes) x e))
many_are {V = V} reads (suc n) bytes x e =
    let a = then_some (λ (y : V × List ℕ). option_map (λ xs. (y.0 ∷ xs.0, xs.1)) (many_at reads n y.1)) (reads bytes) x e in
    let b = map_some (λ (xs : List V × List ℕ). (a.0.0 ∷ xs.0, xs.1)) (many_at reads n a.0.1) x a.2 in
    ap (λ (y : List V × List ℕ). length y.0) (sym b.2) ∙ ap suc (many_are reads n a.0.1 b.0 b.1)

module _ {V : Type 0} (behind : List ℕ → Option (List ℕ)) (reads : List ℕ → Option (V × List ℕ)) (test : V → Bool)
    (one : (bytes : List ℕ) → behind bytes ≡ behind_where test (reads bytes)) where
  -- so many items
  abbrev all_pass : List V → Bool
  all_pass xs = list_all test xs

  abbrev ManyPass : ℕ → Type 0
  ManyPass n = (bytes : List ℕ) → behind_many behind n bytes ≡ behind_where all_pass (many_at reads n bytes)

  in_front : (n : ℕ) → ManyPass n → (b : Bool) (more : List ℕ)
      → option_and_then (behind_many behind n) (if b then Some more else None) ≡ option_and_then (λ xs. if b && list_all test xs.0 then Some xs.1 else None) (many_at reads n more)
  in_front n many true more = many more
  in_front n many false more = sym (always_none (λ (xs : List V × List ℕ). if false then Some xs.1 else None) (λ xs. refl) (many_at reads n more))

  behind_first : (n : ℕ) → ManyPass n → (o : Option (V × List ℕ))
      → option_and_then (behind_many behind n) (behind_where test o) ≡ behind_where all_pass (option_and_then (λ x. option_map (λ xs. (x.0 ∷ xs.0, xs.1)) (many_at reads n x.1)) o)
  behind_first n many None = refl
  behind_first n many (Some x) =
      in_front n many (test x.0) x.1 ∙ sym (then_mapped (λ (xs : List V × List ℕ). if all_pass xs.0 then Some xs.1 else None) (λ (xs : List V × List ℕ). (x.0 ∷ xs.0, xs.1)) (many_at reads n x.1))

  many_pass : (n : ℕ) → ManyPass n
  many_pass zero bytes = refl
  many_pass (suc n) bytes = ap (option_and_then (behind_many behind n)) (one bytes) ∙ behind_first n (many_pass n) (reads bytes)

  -- within the limit
  abbrev few_pass : List V → Bool
  few_pass xs = list_all test xs && nat_le (length xs) most_items

  both : (few all : Bool) (more : List ℕ) → (if few then (if all then Some more else None) else None) ≡ (if all && few then Some more else None)
  both true true more = refl
  both true false more = refl
  both false true more = refl
  both false false more = refl

  abbrev none : Option (List ℕ)
  none = None

  nothing : (few : Bool) → (if few then none else none) ≡ none
  nothing true = refl
  nothing false = refl

  counted : (n : ℕ) (bytes : List ℕ) (o : Option (List V × List ℕ)) → many_at reads n bytes ≡ o → (if nat_le n most_items then behind_where all_pass o else None) ≡ behind_where few_pass o
  counted n bytes None e = nothing (nat_le n most_items)
  counted n bytes (Some xs) e =
      ap (λ (m : ℕ). if nat_le m most_items then (if all_pass xs.0 then Some xs.1 else None) else None) (sym (many_are reads n bytes xs e)) ∙ both (nat_le (length xs.0) most_items) (all_pass xs.0) xs.1

  few : (n : ℕ) (bytes : List ℕ) → (if nat_le n most_items then behind_many behind n bytes else None) ≡ behind_where few_pass (many_at reads n bytes)
  few n bytes = ap (λ (o : Option (List ℕ)). if nat_le n most_items then o else None) (many_pass n bytes) ∙ counted n bytes (many_at reads n bytes) refl

  pub list_is : (bytes : List ℕ) → behind_list behind bytes ≡ behind_where few_pass (list_at reads bytes)
  list_is bytes =
      then_same (λ (n : ℕ × List ℕ). if nat_le n.0 most_items then behind_many behind n.0 n.1 else None) (λ n. behind_where few_pass (many_at reads n.0 n.1)) (λ n. few n.0 n.1) (u32_at bytes)
      ∙ sym (then_then (λ (xs : List V × List ℕ). if few_pass xs.0 then Some xs.1 else None) (λ (n : ℕ × List ℕ). many_at reads n.0 n.1) (u32_at bytes))
