-- Entries that get their places one after another.
use Rattle.std.proofs.Common.{◌≡◌, refl, sym, ap, ◌∙◌, ℕ, ◌+◌, ◌<◌, ◌≤◌, List, [], ◌∷◌, ◌++◌, length, take, drop, set, get_or, Option, Some, None, arith, length-set}
use Rattle.std.proofs.lemmas.List.{take_more, take_more_set, drop-set-lt, drop_more, take_all, take-append-drop, length-take-le, get_or-take}
use Rattle.wasm_spec_steps.specs.WasmSpecRules.Attempts.{◌>>=◌}
use Rattle.wasm_spec_side_tables.specs.declared.entry.Entry.{Entry}
use Rattle.wasm_spec_side_tables.specs.declared.entry.Place.{Place}
use Rattle.wasm_spec_side_tables.specs.OnePassTables.{resolved, resolved_each}
use Rattle.wasm_spec_side_tables.proofs.CountedLists.{put_in}
use Rattle.wasm_spec_side_tables.proofs.Entries.{resolved-append}

-- the first entries have their places, and the others are as they were
pub record Resolves (ps : List Place) (i : ℕ) (old new : List Entry) : Type 0 where
  pub front : resolved_each ps (take i old) ≡ Some (take i new)
  pub rest : drop i new ≡ drop i old
  pub count : length new ≡ length old

pub resolves_none : (ps : List Place) (es : List Entry) → Resolves ps 0 es es
resolves_none ps [] = record { front = refl; rest = refl; count = refl }
resolves_none ps (e ∷ es) = record { front = refl; rest = refl; count = refl }

cons-head : (x y : Entry) (xs ys : List Entry) → x ∷ xs ≡ y ∷ ys → x ≡ y
cons-head x y xs ys e = cc

cons-tail : (x y : Entry) (xs ys : List Entry) → x ∷ xs ≡ y ∷ ys → xs ≡ ys
cons-tail x y xs ys e = cc

pub resolves_more : (ps : List Place) (i : ℕ) (old new : List Entry) (e x : Entry) → Resolves ps i old new → i < length new → e ≡ get_or new i e → resolved ps e ≡ Some x → Resolves ps (i + 1) old (set new i x)
resolves_more ps i old new e x r h g p =
    let count = r.count in
    let there : get_or new i e ∷ drop (i + 1) new ≡ get_or old i e ∷ drop (i + 1) old = sym (drop_more new i e h) ∙ r.rest ∙ drop_more old i e (omega arith) in
    let same : e ≡ get_or old i e = g ∙ cons-head _ _ _ _ there in
    record {
      front =
          ap (resolved_each ps) (take_more old i e (omega arith) ∙ ap (λ (y : Entry). take i old ++ y ∷ []) (sym same))
          ∙ resolved-append ps (take i old) (e ∷ [])
          ∙ ap (λ o. o >>= λ xs. ((resolved ps e >>= λ y. Some (y ∷ [])) >>= λ ys. Some (xs ++ ys))) r.front
          ∙ ap (λ o. (o >>= λ y. Some (y ∷ [])) >>= λ ys. Some (take i new ++ ys)) p
          ∙ ap (λ (zs : List Entry). Some zs) (sym (take_more_set new i x h));
      rest = drop-set-lt (i + 1) new i x (omega arith) ∙ cons-tail _ _ _ _ there;
      count = length-set new i x ∙ count;
    }

pub resolves_all : (ps : List Place) (i : ℕ) (old new : List Entry) → Resolves ps i old new → length new ≤ i → resolved_each ps old ≡ Some new
resolves_all ps i old new r h =
    let count = r.count in
    ap (resolved_each ps) (sym (take_all i old (omega arith))) ∙ r.front ∙ ap (λ (zs : List Entry). Some zs) (take_all i new h)

-- an entry that names no place
abbrev in_front : List Place → List Entry → Option Entry → Option (List Entry)
in_front ps es o = o >>= λ x. resolved_each ps es >>= λ xs. Some (x ∷ xs)

none_behind : (ps : List Place) (es : List Entry) (o : Option Entry) → resolved_each ps es ≡ None → in_front ps es o ≡ None
none_behind ps es None h = refl
none_behind ps es (Some x) h = ap (λ (m : Option (List Entry)). m >>= λ xs. Some (x ∷ xs)) h

none_within : (ps : List Place) (xs : List Entry) (e : Entry) (ys : List Entry) → resolved ps e ≡ None → resolved_each ps (xs ++ e ∷ ys) ≡ None
none_within ps [] e ys h = ap (λ (o : Option Entry). in_front ps ys o) h
none_within ps (x ∷ xs) e ys h = none_behind ps (xs ++ e ∷ ys) (resolved ps x) (none_within ps xs e ys h)

pub resolves_not : (ps : List Place) (i : ℕ) (old new : List Entry) (e : Entry) → Resolves ps i old new → i < length new → e ≡ get_or new i e → resolved ps e ≡ None → resolved_each ps old ≡ None
resolves_not ps i old new e r h g p =
    let count = r.count in
    let there : get_or new i e ∷ drop (i + 1) new ≡ get_or old i e ∷ drop (i + 1) old = sym (drop_more new i e h) ∙ r.rest ∙ drop_more old i e (omega arith) in
    let here : e ≡ get_or old i e = g ∙ cons-head _ _ _ _ there in
    let split : old ≡ take i old ++ e ∷ drop (i + 1) old =
    sym (take-append-drop i old) ∙ ap (λ (zs : List Entry). take i old ++ zs) (drop_more old i e (omega arith)) ∙ ap (λ (y : Entry). take i old ++ y ∷ drop (i + 1) old) (sym here) in
    ap (resolved_each ps) split ∙ none_within ps (take i old) e (drop (i + 1) old) p

-- the same, of so many entries at the front
get_front : (n i : ℕ) (es : List Entry) (e : Entry) → i < n → e ≡ get_or es i e → e ≡ get_or (take n es) i e
get_front n i es e h g = g ∙ sym (get_or-take n es i e h)

pub front_more :
    (ps : List Place) (n i : ℕ) (old new : List Entry) (e x : Entry)
    → Resolves ps i (take n old) (take n new) → n ≤ length new → i < n → e ≡ get_or new i e → resolved ps e ≡ Some x → Resolves ps (i + 1) (take n old) (take n (set new i x))
front_more ps n i old new e x r l h g p =
    rw (put_in new n i x h) (resolves_more ps i (take n old) (take n new) e x r (rw (length-take-le n new l) h) (get_front n i new e h g) p)

pub front_not :
    (ps : List Place) (n i : ℕ) (old new : List Entry) (e : Entry)
    → Resolves ps i (take n old) (take n new) → n ≤ length new → i < n → e ≡ get_or new i e → resolved ps e ≡ None → resolved_each ps (take n old) ≡ None
front_not ps n i old new e r l h g p = resolves_not ps i (take n old) (take n new) e r (rw (length-take-le n new l) h) (get_front n i new e h g) p

pub front_all : (ps : List Place) (n i : ℕ) (old new : List Entry) → Resolves ps i (take n old) (take n new) → n ≤ length new → n ≤ i → resolved_each ps (take n old) ≡ Some (take n new)
front_all ps n i old new r l h = resolves_all ps i (take n old) (take n new) r (rw (length-take-le n new l) h)

pub ruleset resolving = (resolves_none, front_all)
