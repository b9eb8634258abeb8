-- The entry of one sub type more, behind others of its group, and those of a whole group.
use Rattle.std.proofs.Common.{◌≡◌, sym, ap, subst, ◌∙◌, ℕ, ◌+◌, ◌<◌, List, [], ◌∷◌, ◌++◌, length, take, get_or, Option, append_assoc}
use Rattle.std.proofs.lemmas.List.{length-map, map_more}
use Rattle.wasm_validator_type_groups.specs.WasmReadersTypes.declared.types.SubType.{SubType}
use Rattle.wasm_validator_type_ancestors.specs.declared.entries.Entry.{Entry}
use Rattle.wasm_validator_type_ancestors.specs.Supers.{extended, extended_in}
use Rattle.wasm_validator_type_ancestors.specs.Entries.{super_in, supers_of, AreEntries, IsNext, IsKept}
use Rattle.wasm_validator_type_ancestors.proofs.Growth.{entries-kept, supers-kept, entries-push, supers-push}

module _ (es more all : List Entry) (xs ys : List ℕ) (o : Option ℕ) (e : Entry) (is : all ≡ more ++ e ∷ []) (kept : IsKept xs ys) (stand : AreEntries (es ++ more) xs) (next : IsNext (es ++ more) ys o e) where
  behind : es ++ all ≡ (es ++ more) ++ e ∷ []
  behind = ap (λ l. es ++ l) is ∙ sym (append_assoc es more (e ∷ []))

  pub stand-more : AreEntries (es ++ all) ys
  stand-more = subst (λ fs. AreEntries fs ys) (sym behind) (entries-push (es ++ more) ys o e (entries-kept (es ++ more) xs ys kept stand) next)

  pub says-more : (front back new : List (Option ℕ)) → supers_of xs (es ++ more) ≡ front ++ back → new ≡ back ++ o ∷ [] → supers_of ys (es ++ all) ≡ front ++ new
  says-more front back new says n =
      ap (supers_of ys) behind ∙ supers-push (es ++ more) ys o e next
      ∙ ap (λ l. l ++ o ∷ []) (supers-kept (es ++ more) xs ys kept stand ∙ says)
      ∙ append_assoc front back (o ∷ []) ∙ ap (λ l. front ++ l) (sym n)

pub extended-more : {A : Type 0} (start : ℕ) (group : List (SubType A)) (i : ℕ) (ty : SubType A) → i < length group → ty ≡ get_or group i ty
    → extended_in start (take (i + 1) group) ≡ extended_in start (take i group) ++ extended start ty ∷ []
extended-more start group i ty l is = map_more (extended start) group i ty l ∙ ap (λ t. extended_in start (take i group) ++ extended start t ∷ []) (sym is)

-- what a list then tells, with a whole group
pub as-many : (es : List Entry) (xs : List ℕ) (supers : List (Option ℕ)) (n : ℕ) → supers_of xs es ≡ supers → length supers ≡ n → length es ≡ n
as-many es xs supers n view l = sym (length-map es (super_in xs)) ∙ ap length view ∙ l

pub says-all : {A : Type 0} (es more all : List Entry) (xs ys : List ℕ) (supers : List (Option ℕ)) (given group : List (SubType A)) (n : ℕ) → all ≡ es ++ more
    → supers_of ys (es ++ more) ≡ supers_of xs es ++ extended_in (length es) given → supers_of xs es ≡ supers → length es ≡ n → given ≡ group → supers_of ys all ≡ supers ++ extended_in n group
says-all es more all xs ys supers given group n is says view l same = ap (supers_of ys) is ∙ says ∙ (λ i. view i ++ extended_in (l i) (same i))
