-- Two functions that are shown under one id have one type.
use Rattle.std.proofs.Common.{◌≡◌, refl, sym, ap, subst, ◌∙◌, ℕ, zero, suc, ◌<◌, true≢false, List, [], ◌∷◌, length, slice_get, slice_index, Option, Some, None, All, arith}
use Rattle.std.specs.Prelude.{is_some}
use Rattle.std.specs.Option.{option_and_then}
use Rattle.std.specs.List.{AllZip}
use Rattle.std.specs.declared.result.Result.{Result}
use Rattle.std.specs.declared.result.Result.TheVariants.{Ok}
use Rattle.std.proofs.lemmas.List.Elements.{All-append}
use Rattle.std.proofs.lemmas.Option.{slice_get_within, get_or_from_slice_get}
use Rattle.wasm_readers_errors.specs.WasmReadersFeatures.declared.features.TheConstants.WasmFeatures.{STANDARD}
use Rattle.wasm_spec.specs.Syntax.{Sub}
use Rattle.wasm_spec.specs.Features.{Features, canonical}
use Rattle.wasm_spec.specs.Trees.{DefType, declared}
use Rattle.wasm_spec_rules.specs.FeatureFlags.{features_of}
use Rattle.wasm_spec_rules.specs.IndexSpaces.{index_spaces, imported, functions_in, signature, IsFunctionType}
use Rattle.wasm_validator.specs.WasmValidatorCanonical.Sections.{StandsFor}
use Rattle.wasm_validator.proofs.WasmLawsCore.AllLists.{function_of_extern, all_imported}
use Rattle.wasm_validator.specs.WasmValidatorTypes.ShownModules.{shown_of}
use Rattle.wasm_validator.specs.WasmValidatorTypes.declared.shown.Types as shown
use Rattle.wasm_validator.specs.WasmValidatorCore.declared.error.Error.{Error}
use Rattle.wasm_validator.specs.Headline.{Headline, IsAnswered, IsShown, IsTypeOf}
use Rattle.examples.specs.Links.{HasFunction, MayLink, HaveOneId}

abbrev F : Features
F = features_of STANDARD

there : {X : Type 0} (xs : List X) (i : ℕ) → i < length xs → (x : X) × (slice_get xs i ≡ Some x)
there [] i l = absurd (omega (arith, l))
there (x ∷ xs) zero l = (x, refl)
there (x ∷ xs) (suc i) l = there xs i (omega (arith, l))

each_at : {X : Type 0} (P : X → Type 0) (xs : List X) (i : ℕ) (x : X) → All P xs → slice_get xs i ≡ Some x → P x
each_at P xs i x a e = subst P (get_or_from_slice_get xs i x x e) (a i x (slice_get_within xs i x e))

as_long : {X Y : Type 0} (P : X → Y → Type 0) (xs : List X) (ys : List Y) → AllZip P xs ys → length xs ≡ length ys
as_long P [] [] a = refl
as_long P [] (y ∷ ys) a = absurd a
as_long P (x ∷ xs) [] a = absurd a
as_long P (x ∷ xs) (y ∷ ys) a = ap suc (as_long P xs ys a.1)

-- a type index that names a function type names a type
typed : (types : List DefType) (x : ℕ) (o : Option DefType) → slice_get types x ≡ o → IsFunctionType types x → (d : DefType) × (slice_get types x ≡ Some d)
typed types x (Some d) e h = (d, e)
typed types x None e h = absurd (true≢false (sym h ∙ ap (λ (o : Option DefType). is_some (option_and_then (λ (s : Sub DefType). signature s.comp) (option_and_then declared o))) e))

-- the function of a module that is shown, with its type and the id of that
record Found {A : Type 0} (modules : List (List ℕ)) (answers : List (Result (shown.Types A) (Error A))) (k : ℕ) (bytes : List ℕ) (t : shown.Types A) (x : ℕ) : Type 0 where
  type : DefType
  has : HasFunction F bytes x type
  index : ℕ
  is : IsTypeOf F modules answers k t index (slice_index (shown_of t).spaces.types (slice_index (shown_of t).spaces.functions x)) type

module _ {A : Type 0} (modules : List (List ℕ)) (answers : List (Result (shown.Types A) (Error A))) where
  found : (k : ℕ) (bytes : List ℕ) (t : shown.Types A) (x : ℕ) → IsAnswered F modules answers k bytes (Ok t) → IsShown F modules answers bytes t → x < length (shown_of t).spaces.functions → Found modules answers k bytes t x
  found k bytes t x a s l =
      let m = s.module_valid.well_formed in
      let types = m.types.types in
      let C = index_spaces types m.parts in
      let f = there (shown_of t).spaces.functions x l in
      let here : slice_get C.functions x ≡ Some f.0 = ap (λ xs. slice_get xs x) (sym s.shows.functions) ∙ f.1 in
      let all = All-append (IsFunctionType types) (imported functions_in m.parts.imports) m.parts.functions (all_imported F types functions_in (function_of_extern F types) m.parts.imports m.rules.imports) m.rules.functions in
      let d = typed types f.0 (slice_get types f.0) refl (each_at (IsFunctionType types) C.functions x f.0 all here) in
      let long = as_long (StandsFor (canonical F) _) (shown_of t).spaces.types types s.shows.types in
      let within = slice_get_within types f.0 d.0 d.1 in
      let id = there (shown_of t).spaces.types f.0 (omega (arith, long, within)) in
      let number : slice_index (shown_of t).spaces.functions x ≡ f.0 = get_or_from_slice_get (shown_of t).spaces.functions x f.0 0 f.1 in
      let its_id : slice_index (shown_of t).spaces.types (slice_index (shown_of t).spaces.functions x) ≡ id.0 =
      ap (slice_index (shown_of t).spaces.types) number ∙ get_or_from_slice_get (shown_of t).spaces.types f.0 id.0 0 id.1 in
      record {
        type = d.0;
        has = record { module_valid = s.module_valid; index = f.0; function = here; type = d.1 };
        index = f.0;
        is = record { bytes = bytes; accepted = a; shown = s; its_id = id.1 ∙ ap Some (sym its_id); its_type = d.1 };
      }

  pub linked : Headline F modules answers [] → (t u : shown.Types A) (given wanted : ℕ) → slice_get answers 0 ≡ Some (Ok t) → slice_get answers 1 ≡ Some (Ok u) → HaveOneId (shown_of t) given (shown_of u) wanted → MayLink modules given wanted
  linked h t u given wanted x y one =
      let few = h.at_most in
      let two = slice_get_within answers 1 (Ok u) y in
      let b = there modules 0 (omega (arith, few, two)) in
      let c = there modules 1 (omega (arith, few, two)) in
      let first : IsAnswered F modules answers 0 b.0 (Ok t) = record { given = b.1; answered = x } in
      let second : IsAnswered F modules answers 1 c.0 (Ok u) = record { given = c.1; answered = y } in
      let p = found 0 b.0 t given first (h.accepted 0 b.0 t first) one.is_given in
      let q = found 1 c.0 u wanted second (h.accepted 1 c.0 u second) one.is_wanted in
      let same : p.type ≡ q.type = (h.one_id refl 0 1 t u p.index q.index _ _ p.type q.type p.is q.is).0 one.one_id in
      record { exporter = b.0; importer = c.0; first = b.1; second = c.1; type = p.type; gives = p.has; takes = subst (λ (d : DefType). HasFunction F c.0 wanted d) (sym same) q.has }
