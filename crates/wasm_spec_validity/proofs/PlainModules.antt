-- Where there are no constant expressions and no bodies, none has to be typed.
use Rattle.std.proofs.Common.{◌≡◌, refl, sym, ap, ◌∙◌, ℕ, Bool, List, [], ◌∷◌, ◌++◌, map, length, slice_get, Option, Some, None, IfSome}
use Rattle.std.specs.List.{All, flat_map}
use Rattle.std.proofs.lemmas.List.Elements.{All-nil, All-cons}
use Rattle.std.proofs.lemmas.Option.{none-some}
use Rattle.wasm_spec.specs.BinarySections.{TableEntry, GlobalEntry, Element, ElementItems, functions, expressions, SegmentMode, passive, active, declarative}
use Rattle.wasm_spec.specs.Features.{Features}
use Rattle.wasm_spec_steps.specs.WasmSpecRules.Contexts.{Context}
use Rattle.wasm_spec_steps.specs.WasmSpecRules.Parts.{Parts, Expression, mode_expressions, items_expressions, table_expressions, expressions_of}
use Rattle.wasm_spec_steps.specs.WasmSpecRules.IndexSpaces.{index_spaces}
use Rattle.wasm_spec_validity.specs.Laws.{PlainModulesAreValid}
use Rattle.wasm_spec_validity.specs.Typing.{IsConstant, IsTypedTable, IsTypedElementMode, AreTypedItems, IsTypedElement, IsTypedDataMode, IsTypedData, HasTypedConstants, HasTypedBodies}
use Rattle.wasm_spec_validity.specs.Modules.{context_of, imported_globals, number_at}
use Rattle.wasm_spec_validity.proofs.FirstAppearances.{types_are_numbered}

not_empty : {X : Type 0} (x : X) (xs : List X) → x ∷ xs ≡ [] → ⊥
not_empty x xs e = cc

both_empty : {X : Type 0} (xs ys : List X) → xs ++ ys ≡ [] → (xs ≡ []) × (ys ≡ [])
both_empty [] ys e = (refl, e)
both_empty (x ∷ xs) ys e = absurd (not_empty x (xs ++ ys) e)

-- where nothing comes of a list, nothing comes of any of it
all_empty : {X Y : Type 0} (P : X → Type 0) (f : X → List Y) (xs : List X) → ((x : X) → f x ≡ [] → P x) → flat_map f xs ≡ [] → All P xs
all_empty P f [] h e = All-nil P
all_empty P f (x ∷ xs) h e = let p = both_empty (f x) (flat_map f xs) e in All-cons P x xs (h x p.0) (all_empty P f xs h p.1)

none_mapped : {X Y : Type 0} (f : X → Y) (xs : List X) (i : ℕ) (x : X) → map f xs ≡ [] → slice_get xs i ≡ Some x → ⊥
none_mapped f [] i x e s = none-some x s
none_mapped f (y ∷ ys) i x e s = not_empty (f y) (map f ys) e

module _ {R : Type 0} (same : R → R → Bool) (F : Features) (C : Context R) (imported : ℕ) (at : ℕ → R) where
  no_init : (P : Expression → Type 0) (o : Option Expression) → table_expressions o ≡ [] → IfSome o P
  no_init P None e = tt
  no_init P (Some x) e = absurd (not_empty x [] e)

  no_offset : (m : SegmentMode Expression) → mode_expressions m ≡ [] → IsTypedElementMode same F C imported at m
  no_offset passive e = tt
  no_offset declarative e = tt
  no_offset (active x o) e = absurd (not_empty o [] e)

  no_items : (i : ElementItems Expression ℕ) → items_expressions i ≡ [] → AreTypedItems same F C imported at i
  no_items (functions xs) e = tt
  no_items (expressions r []) e = All-nil (IsConstant same F C imported (length C.globals) _)
  no_items (expressions r (x ∷ xs)) e = absurd (not_empty x xs e)

  no_place : (m : SegmentMode Expression) → mode_expressions m ≡ [] → IsTypedDataMode same F C imported at m
  no_place passive e = tt
  no_place declarative e = tt
  no_place (active x o) e = absurd (not_empty o [] e)

  no_constants : (parts : Parts) → expressions_of parts ≡ [] → HasTypedConstants same F C imported at parts
  no_constants parts e =
      let tables = both_empty (flat_map (λ (t : TableEntry Expression ℕ). table_expressions t.init) parts.tables) _ e in
      let globals = both_empty (map (λ (g : GlobalEntry Expression ℕ). g.init) parts.globals) _ tables.1 in
      let segments = both_empty (flat_map (λ (x : Element Expression ℕ). mode_expressions x.mode ++ items_expressions x.items) parts.elements) _ globals.1 in
      record {
        globals = λ i g s. absurd (none_mapped (λ (g : GlobalEntry Expression ℕ). g.init) parts.globals i g globals.0 s);
        tables = all_empty (IsTypedTable same F C imported at) (λ t. table_expressions t.init) parts.tables (λ t h. no_init _ t.init h) tables.0;
        elements =
            all_empty (IsTypedElement same F C imported at) (λ x. mode_expressions x.mode ++ items_expressions x.items) parts.elements
            (λ x h. let p = both_empty (mode_expressions x.mode) (items_expressions x.items) h in (no_offset x.mode p.0, no_items x.items p.1)) segments.0;
        segments = all_empty (IsTypedData same F C imported at) (λ d. mode_expressions d.mode) parts.segments (λ d h. no_place d.mode h) segments.1;
      }

no_bodies : {R : Type 0} (same : R → R → Bool) (F : Features) (C : Context R) (parts : Parts) → parts.bodies ≡ [] → HasTypedBodies same F C parts
no_bodies same F C parts e i x bytes s b = let n : None ≡ Some bytes = sym (ap (λ (bs : List (List ℕ)). slice_get bs i) e) ∙ b in absurd (none-some bytes n)

pub plain_modules_are_valid : PlainModulesAreValid
plain_modules_are_valid F bytes w no_expressions no_bodies_there =
    let C = index_spaces w.types.types w.parts in
    let n = types_are_numbered C.types in
    record {
      well_formed = w;
      typed = record {
        numbering = n;
        constants = no_constants _ F (context_of C n w.parts) (imported_globals w.parts) (number_at n) w.parts no_expressions;
        bodies = no_bodies _ F (context_of C n w.parts) w.parts no_bodies_there;
      };
    }
