-- What adding exports says of them.
use Rattle.std.proofs.Common.{◌≡◌, refl, sym, ap, subst, ◌∙◌, inr, ℕ, ◌+◌, ◌<◌, Bool, true, false, not, cond, ltb, List, [], ◌∷◌, ◌++◌, map, Option, Some, None, All, arith, append_assoc, append-nil}
use Rattle.std.specs.Bool.{Decides}
use Rattle.std.specs.List.{flat_map}
use Rattle.std.specs.Option.{option_map, option_and_then}
use Rattle.std.specs.Cmp.Lexicographic.{nat_list_eq_equiv}
use Rattle.std.proofs.lemmas.Bool.Decides.{Decides-ltb}
use Rattle.std.proofs.lemmas.List.Elements.{All-nil, All-cons, All-head, All-tail}
use Rattle.std.proofs.lemmas.Map.Keys.{IsDistinct-push}
use Rattle.wasm_spec.specs.Syntax.{Extern}
use Rattle.wasm_spec.specs.BinaryModules.{Export}
use Rattle.wasm_spec.specs.Features.{Features, canonical}
use Rattle.wasm_spec.specs.CrateLimits.{IsShortName}
use Rattle.wasm_spec.specs.Trees.{DefType}
use Rattle.wasm_spec_rules.specs.Parts.{Parts}
use Rattle.wasm_spec_rules.specs.Sections.{each}
use Rattle.wasm_spec_rules.specs.IndexSpaces.{IndexSpaces, index_spaces}
use Rattle.wasm_spec_rules.specs.LinkRules.{exported, export_name, extern_size, size_if, import_size, export_size, effective_size, sum, IsMovableExtern, IsValidExport, HasDistinctNames}
use Rattle.wasm_spec_rules.specs.Limits.{size_limit}
use Rattle.wasm_spec_rules.proofs.Verdicts.{Verdict, then_verdict, if_verdict, verdict_as, verdict_to, verdict_of, always}
use Rattle.wasm_validator_core.specs.WasmValidatorChecks.Items.{is_movable}
use Rattle.wasm_validator_core.specs.WasmValidatorChecks.Laws.{Stand}
use Rattle.wasm_validator_types.specs.Entities.{Entity}
use Rattle.wasm_validator_types.specs.Spaces.{Spaces, is_exported}
use Rattle.wasm_validator_core.specs.Items.{grown, entity_size, is_short, export_movable, add_exporting, add_export}
use Rattle.wasm_laws_core.specs.Exports.{AreApart, HasSpaces, FitExports, with_exports, ExportsAreAddedBehind}
use Rattle.wasm_laws_core.specs.ModuleParts.{exported_as, export_row, exported_row, spaces_of}
use Rattle.wasm_laws_core.specs.Lists.{add_exports}
use Rattle.wasm_laws_core.specs.Laws.{ExportsAreAdded}
use Rattle.wasm_laws_core.proofs.Steps.{if_map, passed, law_of_verdict, name_decided}
use Rattle.wasm_laws_core.proofs.Sizes.{IsTyped}
use Rattle.wasm_laws_core.proofs.ExportNames.{row_names, no_names, apart, taken_names, names_append, names_between}
use Rattle.wasm_laws_core.proofs.ExportedEntities.{rows_behind, state, entity_for, entity_if, entity_is, movable_decided, exported_size_is, exported_typed}

is_false : (b : Bool) → Decides (not b) (b ≡ false)
is_false true = ((λ h. absurd (let z : false ≡ true = h in cc)), (λ h. absurd (let z : true ≡ false = h in cc)))
is_false false = ((λ h. refl), (λ h. refl))

turned : {X : Type 0} (b : Bool) (o : Option X) → cond b None o ≡ cond (not b) o None
turned true o = refl
turned false o = refl

-- the effective size with so many more types
grows : {X : Type 0} (f : ℕ → X) (size more : ℕ) → Verdict (size + more < size_limit) (option_map f (grown size more)) (f (size + more))
grows f size more =
    let total = size + more in
    verdict_of _ _ (f total) (if_map f (ltb total size_limit) total)
    (passed (ltb total size_limit) (f total) (Decides-ltb total size_limit))

module _ (F : Features) (us : List DefType) (C : IndexSpaces) (s : Spaces) (stand : Stand (canonical F) us s.types C.types) (same : HasSpaces C s) where
  abbrev type_ids : List ℕ
  type_ids = s.types

  abbrev exactly : List Bool
  exactly = s.imported_functions

  abbrev row : Export → List (List ℕ × Entity)
  row e = exported_row F type_ids C exactly e

  abbrev at_state : List (List ℕ × Entity) → ℕ → Spaces
  at_state rows m = state F C s same rows m

  abbrev entity_of : ℕ → Extern ℕ → Entity
  entity_of k item = entity_for F C s same k item

  -- an item that may be exported, under a name that isn't taken, where there is room for it
  item_verdict : (rows : List (List ℕ × Entity)) (m : ℕ) (name : List ℕ) (k : ℕ) (item : Extern ℕ) → IsTyped C.types item
      → Verdict (IsMovableExtern F item × (is_exported rows name ≡ false) × (m + extern_size C.types item < size_limit))
      (export_movable F us (at_state rows m) name (entity_of k item))
      (at_state (rows ++ (name, entity_of k item) ∷ []) (m + extern_size C.types item))
  item_verdict rows m name k item typed =
      let entity = entity_of k item in
      let made : ℕ → Spaces = λ size. at_state (rows ++ (name, entity) ∷ []) size in
      let more = extern_size C.types item in
      let next = made (m + more) in
      let named : ℕ → Option Spaces = λ n. option_map made (grown m n) in
      verdict_of
      _
      _
      next
      (ap (λ o. cond (is_movable F entity) o None) (turned (is_exported rows name) (named (entity_size us entity))
      ∙ ap (λ n. cond (not (is_exported rows name)) (named n) None) (exported_size_is (canonical F) us type_ids C.types stand F exactly k item typed)))
      (verdict_as
      _
      _
      (λ h. (h.0, h.1.0, h.1.1))
      (λ h. (h.0, (h.1, h.2)))
      (if_verdict (is_movable F entity) (cond (not (is_exported rows name)) (named more) None) next (movable_decided F type_ids exactly k item)
      (λ g. if_verdict (not (is_exported rows name)) (named more) next (is_false (is_exported rows name)) (λ n. grows made m more))))

  -- an export that names an item
  same_item : (e : Export) (item : Extern ℕ) → exported C e ≡ Some item → (v : IsValidExport F C e) → IsMovableExtern F item
  same_item e item g v = let same : v.item ≡ item = let both : Some v.item ≡ Some item = sym v.exports ∙ g in cc in subst (IsMovableExtern F) same v.movable

  export_case : (rows : List (List ℕ × Entity)) (m : ℕ) (e : Export) → IsShortName F e.name → (o : Option (Extern ℕ)) → exported C e ≡ o
      → Verdict (IsValidExport F C e × (is_exported rows e.name ≡ false) × (m + export_size C e < size_limit))
      (option_and_then (export_movable F us (at_state rows m) e.name) (entity_if F C s same e.index o))
      (at_state (rows ++ row e) (m + export_size C e))
  export_case rows m e named None g = inr ((λ h. let v = h.0 in let both : None ≡ Some v.item = sym g ∙ v.exports in absurd cc), refl)
  export_case rows m e named (Some item) g =
      let size : export_size C e ≡ extern_size C.types item = ap (size_if C.types) g in
      let shown : row e ≡ (e.name, entity_of e.index item) ∷ [] = ap (λ o. export_row type_ids e.name (exported_as F exactly e.index o)) g in
      verdict_to
      _
      _
      (at_state (rows ++ row e) (m + export_size C e))
      (λ i. at_state (rows ++ sym shown i) (m + sym size i))
      (verdict_as
      _
      _
      (λ h. (record { item = item; exports = g; movable = h.0; name = named }, h.1, subst (λ n. m + n < size_limit) (sym size) h.2))
      (λ h. (same_item e item g h.0, h.1, subst (λ n. m + n < size_limit) size h.2))
      (item_verdict rows m e.name e.index item (exported_typed C same.function_types same.tag_types e item g)))

  one_export : (rows : List (List ℕ × Entity)) (m : ℕ) (e : Export)
      → Verdict (IsValidExport F C e × (is_exported rows e.name ≡ false) × (m + export_size C e < size_limit)) (add_export F us (at_state rows m) e) (at_state (rows ++ row e) (m + export_size C e))
  one_export rows m e =
      let next = at_state (rows ++ row e) (m + export_size C e) in
      let exporting : IsShortName F e.name → Verdict (IsValidExport F C e × (is_exported rows e.name ≡ false) × (m + export_size C e < size_limit)) (add_exporting F us (at_state rows m) e) next = λ named.
      verdict_of
      _
      _
      next
      (ap (option_and_then (export_movable F us (at_state rows m) e.name)) (entity_is F C s same rows m e))
      (export_case rows m e named (exported C e) refl) in
      verdict_as
      _
      next
      (λ h. h.1)
      (λ h. (h.0.name, h))
      (if_verdict (is_short F e.name) (add_exporting F us (at_state rows m) e) next (name_decided F e.name) exporting)

  -- each export is valid, under a name that isn't taken, and there is room for it
  abbrev Fit : List (List ℕ × Entity) → ℕ → List Export → Type 0
  Fit rows m [] = Unit {0}
  Fit rows m (e ∷ es) = (IsValidExport F C e × (is_exported rows e.name ≡ false) × (m + export_size C e < size_limit)) × Fit (rows ++ row e) (m + export_size C e) es

  plus_zero : (n : ℕ) → n ≡ n + 0
  plus_zero n = omega arith

  plus_assoc : (a b c : ℕ) → (a + b) + c ≡ a + (b + c)
  plus_assoc a b c = omega arith

  exports_verdict : (es : List Export) (rows : List (List ℕ × Entity)) (m : ℕ)
      → Verdict (Fit rows m es) (each (add_export F us) (at_state rows m) es) (at_state (rows ++ flat_map row es) (m + sum (map (export_size C) es)))
  exports_verdict [] rows m = verdict_to _ _ (at_state (rows ++ []) (m + 0)) (λ i. at_state (sym (append-nil rows) i) (plus_zero m i)) (always (at_state rows m) tt)
  exports_verdict (e ∷ es) rows m =
      let more = rows ++ row e in
      let size = m + export_size C e in
      let both = then_verdict (add_export F us (at_state rows m) e) (at_state more size) (λ t. each (add_export F us) t es) (at_state (more ++ flat_map row es) (size + sum (map (export_size C) es))) (one_export rows m e) (λ h. exports_verdict es more size) in
      verdict_to
      _
      _
      (at_state (rows ++ (row e ++ flat_map row es)) (m + (export_size C e + sum (map (export_size C) es))))
      (λ i. at_state (append_assoc rows (row e) (flat_map row es) i) (plus_assoc m (export_size C e) (sum (map (export_size C) es)) i))
      both

  -- a valid export has one row, under its name
  name_of_row : (e : Export) → IsValidExport F C e → row_names (row e) ≡ e.name ∷ []
  name_of_row e v = ap (λ o. row_names (export_row type_ids e.name (exported_as F exactly e.index o))) v.exports

  -- what the machine's test of each says of all
  record AllFit (rows : List (List ℕ × Entity)) (m : ℕ) (es : List Export) : Type 0 where
    valid : All (IsValidExport F C) es
    names : AreApart (row_names rows ++ map export_name es)
    small : m + sum (map (export_size C) es) < size_limit

  exports_fit : (es : List Export) (rows : List (List ℕ × Entity)) (m : ℕ) → AllFit rows m es → Fit rows m es
  exports_fit [] rows m a = tt
  exports_fit (e ∷ es) rows m a =
      let small = a.small in
      let v = All-head (IsValidExport F C) e es a.valid in
      let free : is_exported rows e.name ≡ false = sym (taken_names rows e.name) ∙ apart (row_names rows) (map export_name es) e.name a.names in
      let rest = subst AreApart (sym (names_between rows (row e) e.name (map export_name es) (name_of_row e v))) a.names in (
        (v, free, omega (arith, small)),
        exports_fit es (rows ++ row e) (m + export_size C e) (record { valid = All-tail (IsValidExport F C) e es a.valid; names = rest; small = omega (arith, small) }),
      )

  fit_exports : (es : List Export) (rows : List (List ℕ × Entity)) (m : ℕ) → AreApart (row_names rows) → m < size_limit → Fit rows m es → AllFit rows m es
  fit_exports [] rows m d l f = record { valid = All-nil (IsValidExport F C); names = subst AreApart (sym (append-nil (row_names rows))) d; small = omega (arith, l) }
  fit_exports (e ∷ es) rows m d l f =
      let named : row_names (rows ++ row e) ≡ row_names rows ++ e.name ∷ [] = names_append rows (row e) ∙ ap (λ ns. row_names rows ++ ns) (name_of_row e f.0.0) in
      let pushed : AreApart (row_names (rows ++ row e)) = subst AreApart (sym named) (IsDistinct-push nat_list_eq_equiv (row_names rows) e.name d (taken_names rows e.name ∙ f.0.1)) in
      let rest = fit_exports es (rows ++ row e) (m + export_size C e) pushed f.0.2 f.1 in
      let small = rest.small in
      record {
        valid = All-cons (IsValidExport F C) e es f.0.0 rest.valid;
        names = subst AreApart (names_between rows (row e) e.name (map export_name es) (name_of_row e f.0.0)) rest.names;
        small = omega (arith, small);
      }

  -- exports behind those that are there
  all_verdict : (es : List Export) → Verdict (All (IsValidExport F C) es × FitExports C s es) (add_exports F us s es) (with_exports F C s es)
  all_verdict es =
      verdict_as
      _
      _
      (λ f. let a = fit_exports es s.exports s.size same.names same.size f in (a.valid, record { names = a.names; size = a.small }))
      (λ h. exports_fit es s.exports s.size (record { valid = h.0; names = h.1.names; small = h.1.size }))
      (exports_verdict es s.exports s.size)

pub exports_are_added_behind : ExportsAreAddedBehind
exports_are_added_behind F us C s stand same es t = law_of_verdict (add_exports F us s es) (with_exports F C s es) (all_verdict F us C s stand same es) t

-- behind a state of which nothing is exported
module _ (F : Features) (us : List DefType) (ids : List ℕ) (types : List DefType) (stand : Stand (canonical F) us ids types) (p : Parts) where
  abbrev spaces : IndexSpaces
  spaces = index_spaces types p

  abbrev before : Spaces
  before = spaces_of F types ids (record p { exports = [] })

  abbrev after : List Export → Spaces
  after es = spaces_of F types ids (record p { exports = es })

  -- the effective size, exports last
  size_apart : (es : List Export) → effective_size spaces p.imports [] + sum (map (export_size spaces) es) ≡ effective_size spaces p.imports es
  size_apart es = let a = sum (map (import_size types) p.imports) in let b = sum (map (export_size spaces) es) in regroup a b
    where
      regroup : (a b : ℕ) → (1 + (a + 0)) + b ≡ 1 + (a + b)
      regroup a b = omega arith

  after_is : (es : List Export) → with_exports F spaces before es ≡ after es
  after_is es = λ i. record before { exports = rows_behind F before.imported_functions p.functions ids spaces es i; size = size_apart es i }

  whole_verdict : p.exports ≡ [] → HasSpaces spaces before → (es : List Export)
      → Verdict (All (IsValidExport F spaces) es × HasDistinctNames es × (effective_size spaces p.imports es < size_limit)) (add_exports F us (spaces_of F types ids p) es) (after es)
  whole_verdict none same es =
      let size = size_apart es in
      verdict_of
      _
      _
      (after es)
      (λ i. add_exports F us (spaces_of F types ids (record p { exports = none i })) es)
      (verdict_to
      _
      _
      (after es)
      (after_is es)
      (verdict_as
      _
      _
      (λ h. (h.0, h.1.names, subst (λ n. n < size_limit) size h.1.size))
      (λ h. (h.0, record { names = h.1; size = subst (λ n. n < size_limit) (sym size) h.2 }))
      (all_verdict F us spaces before stand same es)))

pub exports_are_added : ExportsAreAdded
exports_are_added F us ids types stand p none functions tags room es t =
    let same : HasSpaces (index_spaces types p) (spaces_of F types ids (record p { exports = [] })) = record { functions = refl; tables = refl; memories = refl; globals = refl; tags = refl; function_types = functions; tag_types = tags; names = no_names; size = room } in
    law_of_verdict (add_exports F us (spaces_of F types ids p) es) (spaces_of F types ids (record p { exports = es }))
    (whole_verdict F us ids types stand p none same es) t
