-- The loop over the items of a section, one step at a time.
use Rattle.std.proofs.Common.{◌≡◌, refl, sym, ap, subst, ◌∙◌, inl, inr, ℕ, zero, suc, ◌+◌, ◌-◌, ◌<◌, ◌⊎◌, ◌==◌, Bool, true, false, if◌then◌else◌, List, [], ◌∷◌, length, leb, eqb, nat_le, Option, Some, None, arith}
use Rattle.std.specs.Prelude.{IfErr, OnOk, ⊤}
use Rattle.std.specs.List.{flat_map}
use Rattle.std.specs.Option.{option_map, option_and_then}
use Rattle.std.specs.Result.{IsErrAnd}
use Rattle.std.proofs.lemmas.Option.{none-some, same_Some}
use Rattle.std.specs.declared.result.Result.{Result}
use Rattle.std.specs.declared.result.Result.TheVariants as results
use Rattle.wasm_spec.specs.Values.{items_at}
use Rattle.wasm_spec_rules.proofs.Tests.{then_some, guarded}
use Rattle.wasm_validator_core.specs.LimitRefusals.{beyond_limit}
use Rattle.wasm_readers_errors.specs.declared.error.Counted.{Counted}
use Rattle.wasm_readers_errors.specs.declared.error.Refusal.{Refusal}
use Rattle.wasm_validator_items.specs.Machine.{items_from}
use Rattle.wasm_validator_items.specs.Sections.{read_one, read_each, read_section}
use Rattle.wasm_validator_core.specs.Answers.{Adds, AddsWhere, IsNowhere}
use Rattle.wasm_validator_core.specs.Errors.{IsAt}
use Rattle.wasm_validator_core.specs.AddedItemRefusals.{Tells}
use Rattle.wasm_validator_core.specs.declared.error.Error.{Error}
use Rattle.wasm_validator_core.specs.declared.error.Error.TheVariants.{Refused, DuplicateExport, InFunction, OutOfMemory}
use Rattle.wasm_validator_segments.specs.WasmValidatorReferences.References.{mark, marked, names_in, names_at, names_if, names_or_none}
use Rattle.wasm_validator_items.proofs.NamedFunctions.{all_read}
use Rattle.wasm_validator_items.proofs.StepsInTurn.{each_is_added}
use Rattle.wasm_validator_segments.proofs.WasmValidatorReferences.FunctionNotes.{noting_more}
use Rattle.wasm_validator_items.specs.SectionRefusals.{IsNone, Either, Read, Added, OfContent, TellsFormat, TellsAt, TellsEach, TellsCount}
use Rattle.wasm_validator_items.specs.ItemSteps.{steps_of, naming_step, tells_read, TellsSteps}

-- one that is accepted wherever it leads
pub adds_anyway : {T A S : Type 0} (r : Result T (Error A)) (o : Option S) (t : S) → AddsWhere (λ x. ⊤) r o t → Adds r o t
adds_anyway (results.Ok x) o t h = h
adds_anyway (results.Err (Refused r)) None t h = refl
adds_anyway (results.Err (Refused r)) (Some s) t h = absurd (h s refl tt)
adds_anyway (results.Err (DuplicateExport name offset)) None t h = refl
adds_anyway (results.Err (DuplicateExport name offset)) (Some s) t h = absurd (h s refl tt)
adds_anyway (results.Err (InFunction index r)) o t h = h
adds_anyway (results.Err OutOfMemory) o t h = tt

by_count : (b : Bool) (O P Q : Type 0) → (P → Q) → Either b P O → Either b Q O
by_count true O P Q f h = f h
by_count false O P Q f h = h

-- What is accepted leads back to what was: an item that is added to what isn't accepted leads to nothing that is.
module _ {S : Type 0} (step : S → List ℕ → Option (S × List ℕ)) (P : S → Type 0) (back : (s t : S) (bytes more : List ℕ) → step s bytes ≡ Some (t, more) → P t → P s) where
  run_back : (n : ℕ) (bytes : List ℕ) (s q : S) → items_from step n bytes s ≡ Some q → P q → P s
  run_back zero bytes s q e h = let g = guarded (eqb (length bytes) 0) (Some s) q e in subst P (sym (same_Some s q g.1)) h
  run_back (suc n) bytes s q e h =
      let a = then_some (λ (x : S × List ℕ). items_from step n x.1 x.0) (step s bytes) q e in
      back s a.0.0 bytes a.0.1 a.1 (run_back n a.0.1 a.0.0 q a.2 h)

  -- where the next step leads nowhere, so do all
  pub nowhere_here : (left : ℕ) (bytes : List ℕ) (s : S) (all : Option S) → 0 < left → items_from step left bytes s ≡ all → IsNowhere (λ (x : S × List ℕ). P x.0) (step s bytes) → IsNowhere P all
  nowhere_here zero bytes s all some so none = absurd (omega arith)
  nowhere_here (suc n) bytes s all some so none = λ q e h.
      let a = then_some (λ (x : S × List ℕ). items_from step n x.1 x.0) (step s bytes) q (so ∙ e) in
      none a.0 a.1 (run_back n a.0.1 a.0.0 q a.2 h)

pub none_nowhere : {S : Type 0} (P : S → Type 0) (o : Option S) → o ≡ None → IsNowhere P o
none_nowhere P o n = λ s e p. none-some s (sym n ∙ e)

-- of a section whose count keeps to its limit
pub within_nowhere : {S : Type 0} (P : S → Type 0) (b : Bool) (o : Option S) → IsNowhere P o → IsNowhere P (if b then o else None)
within_nowhere P true o h = h
within_nowhere P false o h = λ s e p. none-some s e

-- an error of a step that is handed on, where a step that leads nowhere is one of a whole that does
module _ (T U : Type 0) {A S X : Type 0} (P : S → Type 0) (Q : X → Type 0) (whole : Option S) (there : S) (part : Option X) (x : X) (up : IsNowhere Q part → IsNowhere P whole) where
  handed : (e : Error A) → AddsWhere {T = U} Q (results.Err e) part x → AddsWhere {T = T} P (results.Err e) whole there
  handed (Refused r) a = up a
  handed (DuplicateExport name offset) a = up a
  handed (InFunction index r) a = a
  handed OutOfMemory a = tt

  pub where_handed : (r : Result T (Error A)) (e : Error A) → IsErrAnd r (λ w. w ≡ e) → AddsWhere {T = U} Q (results.Err e) part x → AddsWhere P r whole there
  where_handed (results.Ok t) e h a = absurd h
  where_handed (results.Err w) e h a = handed w (subst (λ v. AddsWhere {T = U} Q (results.Err v) part x) (sym h) a)

-- what is told of steps that are refused
module _ {A S : Type 0} (step : S → List ℕ → Option (S × List ℕ)) (tells : ℕ → S → List ℕ → Error A → Type 0) (stop : ℕ) where
  abbrev Steps : Error A → ℕ → List ℕ → S → Type 0
  Steps e n bytes s = TellsSteps step tells stop e n bytes s

  -- what is told of those that are left is told of all
  pub record ToldOfAll (left : ℕ) (rest : List ℕ) (here : S) (count : ℕ) (bytes : List ℕ) (before : S) : Type 0 where
    pub all : (e : Error A) → TellsSteps step tells stop e left rest here → TellsSteps step tells stop e count bytes before

  behind : (e : Error A) (left : ℕ) (rest more : List ℕ) (s t : S) → 0 < left → step s rest ≡ Some (t, more) → Steps e (left - 1) more t → Steps e left rest s
  behind e zero rest more s t some is h = absurd (omega arith)
  behind e (suc n) rest more s t some is h =
      let back : suc n - 1 ≡ n = omega arith in
      inr (subst (Added (λ (x : S × List ℕ). Steps e n x.1 x.0)) (sym is) (subst (λ (k : ℕ). Steps e k more t) back h))

  -- a step further
  pub told_onward : (left : ℕ) (rest more : List ℕ) (s t : S) (count : ℕ) (bytes : List ℕ) (before : S) → 0 < left → step s rest ≡ Some (t, more) → ToldOfAll left rest s count bytes before → ToldOfAll (left - 1) more t count bytes before
  told_onward left rest more s t count bytes before some is h = record { all = λ e w. h.all e (behind e left rest more s t some is w) }

  at_step : (e : Error A) (left : ℕ) (rest : List ℕ) (s : S) → 0 < left → tells stop s rest e → Steps e left rest s
  at_step e zero rest s some h = absurd (omega arith)
  at_step e (suc n) rest s some h = inl h

  at_end : (e : Error A) (left : ℕ) (rest : List ℕ) (s : S) → left ≡ 0 → TellsFormat (stop - length rest) stop e → Steps e left rest s
  at_end e zero rest s z h = h
  at_end e (suc n) rest s z h = absurd (omega arith)

  -- of a section whose count keeps to its limit
  module _ (what : Counted) (there most start count : ℕ) (bytes : List ℕ) (before : S) (few : leb (there + count) most ≡ true) (left : ℕ) (rest : List ℕ) (s : S) (up : ToldOfAll left rest s count bytes before) where
    abbrev Section : Error A → Type 0
    Section e = TellsCount what there most start count e (Steps e count bytes before)

    within : (e : Error A) → Steps e left rest s → Section e
    within e h = subst (λ b. Either b (Steps e count bytes before) (e ≡ Refused (beyond_limit what most (there + count) start))) (sym few) (up.all e h)

    -- a step is refused
    pub step_told : 0 < left → (e : Error A) → OfContent (tells stop s rest) e → OfContent Section e
    step_told some (Refused r) h = within (Refused r) (at_step (Refused r) left rest s some h)
    step_told some (DuplicateExport name offset) h = within (DuplicateExport name offset) (at_step (DuplicateExport name offset) left rest s some h)
    step_told some (InFunction index r) h = within (InFunction index r) (at_step (InFunction index r) left rest s some h)
    step_told some OutOfMemory h = tt

    -- bytes are left behind the last item
    pub left_told : left ≡ 0 → (r : Refusal) → TellsFormat {A = A} (stop - length rest) stop (Refused r) → Section (Refused r)
    left_told z r h = within (Refused r) (at_end (Refused r) left rest s z h)

-- what is told of items that are read and then added, as of a section of them
module _ {A S V : Type 0} (encoded : List ℕ → Option (V × List ℕ)) (add : S → V → Option S) (nowhere : Option S → Type 0) (tells : ℕ → S → V → Error A → Type 0) (stop : ℕ) (e : Error A) where
  abbrev Items : ℕ → List ℕ → S → Type 0
  Items n bytes s = TellsEach encoded add nowhere tells stop e n bytes s

  abbrev Taken : ℕ → Type 0
  Taken n = (bytes : List ℕ) (s : S) → TellsSteps (read_one encoded add) (tells_read encoded add nowhere tells) stop e n bytes s → Items n bytes s

  item_added : (n : ℕ) → Taken n → (more : List ℕ) (o : Option S) → Added (λ (x : S × List ℕ). TellsSteps (read_one encoded add) (tells_read encoded add nowhere tells) stop e n x.1 x.0) (option_map (λ t. (t, more)) o)
      → Added (λ t. Items n more t) o
  item_added n taken more None h = h
  item_added n taken more (Some t) h = taken more t h

  item_taken : (n : ℕ) → Taken n → (bytes : List ℕ) (s : S) (o : Option (V × List ℕ))
      → Read (TellsFormat (stop - length bytes) stop e) (λ x. nowhere (add s x.0) × tells (stop - length bytes) s x.0 e) o
      ⊎ Added (λ (x : S × List ℕ). TellsSteps (read_one encoded add) (tells_read encoded add nowhere tells) stop e n x.1 x.0) (option_and_then (λ x. option_map (λ t. (t, x.1)) (add s x.0)) o)
      → Read (TellsFormat (stop - length bytes) stop e) (λ x. (nowhere (add s x.0) × tells (stop - length bytes) s x.0 e) ⊎ Added (λ t. Items n x.1 t) (add s x.0)) o
  item_taken n taken bytes s None (inl h) = h
  item_taken n taken bytes s None (inr h) = absurd h
  item_taken n taken bytes s (Some x) (inl h) = inl h
  item_taken n taken bytes s (Some x) (inr h) = inr (item_added n taken x.1 (add s x.0) h)

  pub items_told : (n : ℕ) (bytes : List ℕ) (s : S) → TellsSteps (read_one encoded add) (tells_read encoded add nowhere tells) stop e n bytes s → Items n bytes s
  items_told zero bytes s h = h
  items_told (suc n) bytes s h = item_taken n (λ b t g. items_told n b t g) bytes s (encoded bytes) h

-- and where functions are noted besides
module _ {A S : Type 0} (step : S → List ℕ → Option (S × List ℕ)) (names : List ℕ → List ℕ) (tells : ℕ → S → List ℕ → Error A → Type 0) (stop : ℕ) (e : Error A) where
  abbrev tells_named : ℕ → S × List Bool → List ℕ → Error A → Type 0
  tells_named at p bytes w = tells at p.0 bytes w

  abbrev Named : ℕ → Type 0
  Named n = (bytes : List ℕ) (p : S × List Bool) → TellsSteps (naming_step step names) tells_named stop e n bytes p → TellsSteps step tells stop e n bytes p.0

  named_added : (n : ℕ) → Named n → (bytes : List ℕ) (flags : List Bool) (o : Option (S × List ℕ))
      → Added (λ (x : (S × List Bool) × List ℕ). TellsSteps (naming_step step names) tells_named stop e n x.1 x.0) (option_map (λ x. ((x.0, marked (names bytes) flags), x.1)) o)
      → Added (λ (x : S × List ℕ). TellsSteps step tells stop e n x.1 x.0) o
  named_added n named bytes flags None h = h
  named_added n named bytes flags (Some x) h = named x.1 (x.0, marked (names bytes) flags) h

  named_step : (n : ℕ) → Named n → (bytes : List ℕ) (p : S × List Bool)
      → tells stop p.0 bytes e ⊎ Added (λ (x : (S × List Bool) × List ℕ). TellsSteps (naming_step step names) tells_named stop e n x.1 x.0) (naming_step step names p bytes)
      → tells stop p.0 bytes e ⊎ Added (λ (x : S × List ℕ). TellsSteps step tells stop e n x.1 x.0) (step p.0 bytes)
  named_step n named bytes p (inl h) = inl h
  named_step n named bytes p (inr h) = inr (named_added n named bytes p.1 (step p.0 bytes) h)

  pub named_told : (n : ℕ) (bytes : List ℕ) (p : S × List Bool) → TellsSteps (naming_step step names) tells_named stop e n bytes p → TellsSteps step tells stop e n bytes p.0
  named_told zero bytes p h = h
  named_told (suc n) bytes p h = named_step n (λ b q g. named_told n b q g) bytes p h

-- a section tells what its items do
pub count_told : {A : Type 0} (what : Counted) (there most start count : ℕ) (e : Error A) (P Q : Type 0) → (P → Q) → TellsCount what there most start count e P → TellsCount what there most start count e Q
count_told what there most start count e P Q f h = by_count (nat_le (there + count) most) (e ≡ Refused (beyond_limit what most (there + count) start)) P Q f h

-- what is told of the content says another thing besides
pub content_told : {T A : Type 0} (P Q : Error A → Type 0) → ((e : Error A) → P e → Q e) → (r : Result T (Error A)) → IfErr r (OfContent P) → IfErr r (OfContent Q)
content_told P Q f (results.Ok x) h = tt
content_told P Q f (results.Err (Refused r)) h = f (Refused r) h
content_told P Q f (results.Err (DuplicateExport name offset)) h = f (DuplicateExport name offset) h
content_told P Q f (results.Err (InFunction index r)) h = f (InFunction index r) h
content_told P Q f (results.Err OutOfMemory) h = tt

module _ {T A : Type 0} (r : Result T (Error A)) (what : Counted) (there most start stop count : ℕ) (bytes : List ℕ) where
  -- of a section of such items
  pub section_told : {S V : Type 0} (encoded : List ℕ → Option (V × List ℕ)) (add : S → V → Option S) (nowhere : Option S → Type 0) (tells : ℕ → S → V → Error A → Type 0) (s : S)
      → IfErr r (OfContent (λ e. TellsCount what there most start count e (TellsSteps (read_one encoded add) (tells_read encoded add nowhere tells) stop e count bytes s)))
      → IfErr r (OfContent (λ e. TellsCount what there most start count e (TellsEach encoded add nowhere tells stop e count bytes s)))
  section_told encoded add nowhere tells s h =
      content_told (λ e. TellsCount what there most start count e (TellsSteps (read_one encoded add) (tells_read encoded add nowhere tells) stop e count bytes s))
      (λ e. TellsCount what there most start count e (TellsEach encoded add nowhere tells stop e count bytes s))
      (λ e. count_told what there most start count e (TellsSteps (read_one encoded add) (tells_read encoded add nowhere tells) stop e count bytes s) (TellsEach encoded add nowhere tells stop e count bytes s)
      (items_told encoded add nowhere tells stop e count bytes s)) r h

  -- where functions are noted besides
  pub named_section_told : {S : Type 0} (step : S → List ℕ → Option (S × List ℕ)) (names : List ℕ → List ℕ) (tells : ℕ → S → List ℕ → Error A → Type 0) (p : S × List Bool)
      → IfErr r (OfContent (λ e. TellsCount what there most start count e (TellsSteps (naming_step step names) (λ at q bs w. tells at q.0 bs w) stop e count bytes p)))
      → IfErr r (OfContent (λ e. TellsCount what there most start count e (TellsSteps step tells stop e count bytes p.0)))
  named_section_told step names tells p h =
      content_told (λ e. TellsCount what there most start count e (TellsSteps (naming_step step names) (λ at q bs w. tells at q.0 bs w) stop e count bytes p))
      (λ e. TellsCount what there most start count e (TellsSteps step tells stop e count bytes p.0))
      (λ e. count_told what there most start count e (TellsSteps (naming_step step names) (λ at q bs w. tells at q.0 bs w) stop e count bytes p) (TellsSteps step tells stop e count bytes p.0)
      (named_told step names tells stop e count bytes p)) r h

  -- and where only the count is told of
  pub count_alone_told : (P : Error A → Type 0) → IfErr r (OfContent (λ e. TellsCount what there most start count e (P e))) → IfErr r (OfContent (λ e. TellsCount what there most start count e ⊤))
  count_alone_told P h =
      content_told (λ e. TellsCount what there most start count e (P e)) (λ e. TellsCount what there most start count e ⊤) (λ e. count_told what there most start count e (P e) ⊤ (λ x. tt)) r h

-- what a section adds
module _ {S V : Type 0} (reads : List ℕ → Option (V × List ℕ)) (adds : S → V → Option S) (there most count : ℕ) (bytes : List ℕ) where
  pub steps_are_items : (s : S) → steps_of (read_one reads adds) there most count bytes s ≡ read_section reads adds there most count bytes s
  steps_are_items s = ap (λ (o : Option S). if nat_le (there + count) most then o else None) (each_is_added (read_one reads adds) reads adds (λ u b. refl) count bytes s)

  pub adds_items : {T A : Type 0} (r : Result T (Error A)) (s t : S) → AddsWhere (λ x. ⊤) r (steps_of (read_one reads adds) there most count bytes s) t → Adds r (read_section reads adds there most count bytes s) t
  adds_items r s t h = adds_anyway r (read_section reads adds there most count bytes s) t (subst (λ o. AddsWhere (λ x. ⊤) r o t) (steps_are_items s) h)

  -- and where functions are noted besides
  module _ (names : V → List ℕ) where
    abbrev one : S × List Bool → List ℕ → Option ((S × List Bool) × List ℕ)
    one = naming_step (read_one reads adds) (names_at reads names)

    abbrev with_names : ℕ → List ℕ → List Bool → S → S × List Bool
    with_names n bs flags t = (t, marked (names_in reads names n bs) flags)

    none_left : (b : Bool) (p : S × List Bool) → (if b then Some p else None) ≡ option_map (λ (t : S). (t, marked (names_or_none names (if b then Some [] else None)) p.1)) (if b then Some p.0 else None)
    none_left true p = refl
    none_left false p = refl

    abbrev Noted : ℕ → Type 0
    Noted n = (bs : List ℕ) (s : S) (flags : List Bool) → items_from one n bs (s, flags) ≡ option_map (with_names n bs flags) (read_each reads adds n bs s)

    rest_noted : (n : ℕ) (x : V × List ℕ) (flags : List Bool) (o : Option S) → ((t : S) → o ≡ Some t → (xs : List V) × (items_at reads n x.1 ≡ Some xs))
        → option_map (with_names n x.1 (marked (names x.0) flags)) o ≡ option_map (λ (t : S). (t, marked (names_or_none names (option_map (λ xs. x.0 ∷ xs) (items_at reads n x.1))) flags)) o
    rest_noted n x flags None all = refl
    rest_noted n x flags (Some t) all =
        let xs = all t refl in
        ap (λ (o : Option (List V)). Some (t, marked (names_or_none names o) (marked (names x.0) flags))) xs.1
        ∙ ap (λ (bs : List Bool). Some (t, bs)) (sym (noting_more mark (names x.0) (flat_map names xs.0) flags))
        ∙ sym (ap (λ (o : Option (List V)). Some (t, marked (names_or_none names (option_map (λ ys. x.0 ∷ ys) o)) flags)) xs.1)

    item_noted : (n : ℕ) → Noted n → (x : V × List ℕ) (flags : List Bool) (o : Option S)
        → option_and_then (λ (y : (S × List Bool) × List ℕ). items_from one n y.1 y.0) (option_map (λ (y : S × List ℕ). ((y.0, marked (names x.0) flags), y.1)) (option_map (λ t. (t, x.1)) o))
        ≡ option_map (λ (t : S). (t, marked (names_or_none names (option_map (λ xs. x.0 ∷ xs) (items_at reads n x.1))) flags)) (option_and_then (λ t. read_each reads adds n x.1 t) o)
    item_noted n noted x flags None = refl
    item_noted n noted x flags (Some t) = noted x.1 t (marked (names x.0) flags) ∙ rest_noted n x flags (read_each reads adds n x.1 t) (λ u e. all_read reads adds n x.1 t u e)

    next_noted : (n : ℕ) → Noted n → (s : S) (flags : List Bool) (o : Option (V × List ℕ))
        → option_and_then (λ (y : (S × List Bool) × List ℕ). items_from one n y.1 y.0) (option_map (λ (y : S × List ℕ). ((y.0, marked (names_if names o) flags), y.1)) (option_and_then (λ x. option_map (λ t. (t, x.1)) (adds s x.0)) o))
        ≡ option_map (λ (t : S). (t, marked (names_or_none names (option_and_then (λ x. option_map (λ xs. x.0 ∷ xs) (items_at reads n x.1)) o)) flags)) (option_and_then (λ x. option_and_then (λ t. read_each reads adds n x.1 t) (adds s x.0)) o)
    next_noted n noted s flags None = refl
    next_noted n noted s flags (Some x) = item_noted n noted x flags (adds s x.0)

    all_noted : (n : ℕ) (bs : List ℕ) (s : S) (flags : List Bool) → items_from one n bs (s, flags) ≡ option_map (with_names n bs flags) (read_each reads adds n bs s)
    all_noted zero bs s flags = none_left (length bs == 0) (s, flags)
    all_noted (suc n) bs s flags = next_noted n (λ b t f. all_noted n b t f) s flags (reads bs)

    by_limit : (b : Bool) (f : S → S × List Bool) (o : Option S) → (if b then option_map f o else None) ≡ option_map f (if b then o else None)
    by_limit true f o = refl
    by_limit false f o = refl

    steps_note : (s : S) (flags : List Bool) → steps_of one there most count bytes (s, flags) ≡ option_map (with_names count bytes flags) (read_section reads adds there most count bytes s)
    steps_note s flags =
        ap (λ (o : Option (S × List Bool)). if nat_le (there + count) most then o else None) (all_noted count bytes s flags)
        ∙ by_limit (nat_le (there + count) most) (with_names count bytes flags) (read_each reads adds count bytes s)

    -- the lists, and the flags
    abbrev Apart : {T A : Type 0} → Result T (Error A) → Option S → List Bool → S × List Bool → Type 0
    Apart r o flags p = Adds r o p.0 × OnOk r (p.1 ≡ marked (names_in reads names count bytes) flags)

    apart : {T A : Type 0} (r : Result T (Error A)) (o : Option S) (flags : List Bool) (p : S × List Bool) → Adds r (option_map (with_names count bytes flags) o) p → Apart r o flags p
    apart (results.Ok x) None flags p h = absurd cc
    apart (results.Ok x) (Some t) flags p h = let same = same_Some (with_names count bytes flags t) p h in (ap (λ (q : S × List Bool). Some q.0) same, sym (ap (λ (q : S × List Bool). q.1) same))
    apart (results.Err (Refused r)) None flags p h = (refl, tt)
    apart (results.Err (Refused r)) (Some t) flags p h = absurd cc
    apart (results.Err (DuplicateExport name offset)) None flags p h = (refl, tt)
    apart (results.Err (DuplicateExport name offset)) (Some t) flags p h = absurd cc
    apart (results.Err (InFunction index r)) o flags p h = absurd h
    apart (results.Err OutOfMemory) o flags p h = (tt, tt)

    pub adds_and_notes : {T A : Type 0} (r : Result T (Error A)) (s : S) (flags : List Bool) (p : S × List Bool) → AddsWhere (λ x. ⊤) r (steps_of one there most count bytes (s, flags)) p
        → Adds r (read_section reads adds there most count bytes s) p.0 × OnOk r (p.1 ≡ marked (names_in reads names count bytes) flags)
    adds_and_notes r s flags p h =
        apart r (read_section reads adds there most count bytes s) flags p
        (subst (λ o. Adds r o p) (steps_note s flags) (adds_anyway r (steps_of one there most count bytes (s, flags)) p h))

-- an item that is read, and this is added, in a part of the input that ends at this offset
module _ {A S V : Type 0} (encoded : List ℕ → Option (V × List ℕ)) (add : S → V → Option S) (nowhere : Option S → Type 0) (tells : ℕ → S → V → Error A → Type 0) (P : S → Type 0) (stop : ℕ) (s : S) (bytes : List ℕ) where
  abbrev step : Option (S × List ℕ)
  step = read_one encoded add s bytes

  abbrev Told : Error A → Type 0
  Told e = tells_read encoded add nowhere tells stop s bytes e

  -- it is read, and this is added
  module _ (v : V) (more : List ℕ) (read : encoded bytes ≡ Some (v, more)) where
    abbrev there : S → S × List ℕ
    there t = (t, more)

    item_read : step ≡ option_map there (add s v)
    item_read = ap (option_and_then (λ (x : V × List ℕ). option_map {U = S × List ℕ} (λ t. (t, x.1)) (add s x.0))) read

    nowhere_added : (o : Option S) → IsNowhere P o → IsNowhere (λ (x : S × List ℕ). P x.0) (option_map there o)
    nowhere_added None n = λ x e p. none-some x e
    nowhere_added (Some t) n = λ x e p. n t refl (subst (λ (y : S × List ℕ). P y.0) (sym (same_Some (there t) x e)) p)

    where_added : {T : Type 0} (r : Result T (Error A)) (o : Option S) (t : S) → AddsWhere P r o t → AddsWhere (λ x. P x.0) r (option_map there o) (there t)
    where_added (results.Ok x) o t h = ap (option_map there) h
    where_added (results.Err (Refused r)) o t h = nowhere_added o h
    where_added (results.Err (DuplicateExport name offset)) o t h = nowhere_added o h
    where_added (results.Err (InFunction index r)) o t h = h
    where_added (results.Err OutOfMemory) o t h = tt

    pub adds_where : {T : Type 0} (r : Result T (Error A)) (t : S) → AddsWhere P r (add s v) t → AddsWhere (λ x. P x.0) r step (t, more)
    adds_where r t h = subst (λ o. AddsWhere (λ (x : S × List ℕ). P x.0) r o (there t)) (sym item_read) (where_added r (add s v) t h)

    at_item : (e : Error A) (place : ℕ) → place ≡ stop - length bytes → nowhere (add s v) × tells place s v e → Told e
    at_item e place at h =
        subst (Read (TellsFormat (stop - length bytes) stop e) (λ x. nowhere (add s x.0) × tells (stop - length bytes) s x.0 e)) (sym read)
        (h.0, subst (λ k. tells k s v e) at h.1)

    pub added_told : {T : Type 0} (r : Result T (Error A)) (place : ℕ) → place ≡ stop - length bytes → IfErr r (OfContent (λ e. nowhere (add s v) × tells place s v e)) → IfErr r (OfContent Told)
    added_told (results.Ok x) place at h = tt
    added_told (results.Err (Refused r)) place at h = at_item (Refused r) place at h
    added_told (results.Err (DuplicateExport name offset)) place at h = at_item (DuplicateExport name offset) place at h
    added_told (results.Err (InFunction index r)) place at h = at_item (InFunction index r) place at h
    added_told (results.Err OutOfMemory) place at h = tt

-- what a call tells that adds an item
pub told_at : {T A S : Type 0} (r : Result T (Error A)) (o : Option S) (new : S) (place : ℕ) (told : Option Refusal) → Adds r o new → Tells r told → IfErr r (IsAt place) → IfErr r (OfContent (λ w. IsNone o × TellsAt place told w))
told_at (results.Ok x) o new place told adds tells at = tt
told_at (results.Err (Refused r)) o new place told adds tells at = (adds, (tells, at))
told_at (results.Err (DuplicateExport name offset)) o new place told adds tells at = absurd tells
told_at (results.Err (InFunction index r)) o new place told adds tells at = absurd tells
told_at (results.Err OutOfMemory) o new place told adds tells at = tt
