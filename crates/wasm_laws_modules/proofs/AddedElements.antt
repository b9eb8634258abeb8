-- Element segments, added behind all that their items and offsets may name.
use Rattle.std.proofs.Common.{◌≡◌, refl, sym, ap, subst, ◌∙◌, ℕ, zero, suc, ◌≤◌, ◌<◌, nat_eq, nat_lt, nat_le, Bool, true, false, ◌&&◌, cond, List, [], ◌∷◌, ◌++◌, map, length, get_or, slice_get, Option, Some, None, IsTrue, IfSome}
use Rattle.std.specs.Prelude.{⊤}
use Rattle.std.specs.Bool.{Decides}
use Rattle.std.specs.List.{All, list_all}
use Rattle.std.proofs.lemmas.Bool.{leb-true, le-leb}
use Rattle.std.proofs.lemmas.Bool.Decides.{Decides-at, Decides-like, Decides-and, Decides-ltb, Decides-by_and}
use Rattle.std.proofs.lemmas.List.{length-map, map-append}
use Rattle.std.proofs.lemmas.List.Elements.{All-nil, All-cons, All-head, All-tail, All-append, All-map}
use Rattle.wasm_spec.specs.Syntax.{Heap, abstract_heap, concrete, exact, Ref, Table, Val, Extern, func_extern, func_exact_extern, table_extern, memory_extern, global_extern, tag_extern, reference, map_ref, map_table, map_global}
use Rattle.wasm_spec.specs.BinaryModules.{Import}
use Rattle.wasm_spec.specs.BinarySections.{TableEntry, Element, ElementItems, functions, expressions, SegmentMode, passive, active, declarative}
use Rattle.wasm_spec.specs.Features.{Features, canonical}
use Rattle.wasm_spec.specs.Matching.{MatchesRef}
use Rattle.wasm_spec.specs.MatchingTests.{matches_val}
use Rattle.wasm_spec.specs.References.{refs_heap}
use Rattle.wasm_spec.specs.Trees.{DefType, declared}
use Rattle.wasm_spec.specs.ValueTypes.{allows_ref}
use Rattle.wasm_spec.proofs.SyntaxMaps.{map_ref-map}
use Rattle.wasm_spec_rules.specs.Attempts.{passes}
use Rattle.wasm_spec_rules.specs.Parts.{Parts, Expression}
use Rattle.wasm_spec_rules.specs.IndexSpaces.{index_spaces, imported, tables_in, table_type, ref_over, IsRefInRange}
use Rattle.wasm_spec_rules.specs.ItemRules.{IsAllowedRef, IsValidTableEntry}
use Rattle.wasm_spec_rules.specs.LinkRules.{IsValidExtern, IsValidImport}
use Rattle.wasm_spec_rules.specs.SegmentRules.{items_type, items_count, AreValidItems, index_or_first, GoesToTable, IsValidElementMode, IsValidElement}
use Rattle.wasm_spec_rules.specs.Sections.{each}
use Rattle.wasm_spec_rules.specs.Limits.{most_items}
use Rattle.wasm_spec_rules.proofs.Verdicts.{Verdict, verdict_as, verdict_of}
use Rattle.wasm_spec_validity.specs.WasmSpecSteps.Meanings.{address}
use Rattle.wasm_readers_types.specs.WasmReadersValues.declared.indices.UnpackedIndex.{UnpackedIndex}
use Rattle.wasm_laws_core.specs.WasmValidatorCanonical.Groups.{nowhere}
use Rattle.wasm_laws_core.specs.WasmValidatorCanonical.Indices.{canonical_index}
use Rattle.wasm_laws_core.specs.WasmValidatorCanonical.Sections.{written}
use Rattle.wasm_laws_core.specs.WasmValidatorChecks.Items.{is_ref_in_range}
use Rattle.wasm_laws_core.proofs.WasmValidatorChecks.ListedArities.{length_kept}
use Rattle.wasm_validator_resources.specs.Answers.{world}
use Rattle.wasm_laws_core.specs.WasmValidatorTypes.Spaces.{Spaces}
use Rattle.wasm_laws_core.specs.ModuleParts.{listed, listed_table, listed_element, spaces_of}
use Rattle.wasm_laws_core.proofs.AddedItems.{for_each, each_changed}
use Rattle.wasm_laws_core.specs.ListedTypes.{types_declare}
use Rattle.wasm_spec_validity.specs.Typing.{IsConstant, IsTypedElementMode, AreTypedItems, IsTypedElement}
use Rattle.wasm_spec_validity.specs.Modules.{Numbering, number_at, context_of, imported_globals}
use Rattle.wasm_validator_items.specs.Entries.{listed_items_type, is_constant_of, is_offset, are_items, may_be_placed, add_element}
use Rattle.wasm_validator_items.specs.Machine as machine
use Rattle.wasm_validator_items.specs.Maps.{map_items, map_element}
use Rattle.wasm_laws_modules.specs.Contexts.{ShowsConstants, ConstantsAreOverNumbers, ReferencesMatchOverIds}
use Rattle.wasm_laws_modules.specs.Lists.{add_elements, up_to_exports}
use Rattle.wasm_laws_modules.proofs.ItemSequences.{decides_then, IsRight, are_right, right_behind, each_verdict, tested_verdict}
use Rattle.wasm_laws_modules.proofs.Constants.{Setting, spaces, GlobalsInRange, constant_decided, offset_decided}
use Rattle.wasm_laws_modules.proofs.AddedData.{all_visible}

-- the element types of valid tables are in range
module _ (F : Features) (types : List DefType) where
  abbrev IsInRange : Table ℕ → Type 0
  IsInRange t = IsRefInRange types t.element

  table_in_range : (x : Extern ℕ) → IsValidExtern F types x → All IsInRange (tables_in x)
  table_in_range (func_extern x) v = All-nil IsInRange
  table_in_range (func_exact_extern x) v = All-nil IsInRange
  table_in_range (table_extern t) v = All-cons IsInRange t [] v.element.in_range (All-nil IsInRange)
  table_in_range (memory_extern m) v = All-nil IsInRange
  table_in_range (global_extern g) v = All-nil IsInRange
  table_in_range (tag_extern x) v = All-nil IsInRange

  imported_in_range : (is : List (Import ℕ)) → All (IsValidImport F types) is → All IsInRange (imported tables_in is)
  imported_in_range [] v = All-nil IsInRange
  imported_in_range (i ∷ is) v =
      All-append IsInRange (tables_in i.ty) (imported tables_in is) (table_in_range i.ty (All-head (IsValidImport F types) i is v).item) (imported_in_range is (All-tail (IsValidImport F types) i is v))

  pub tables_in_range : (is : List (Import ℕ)) (ts : List (TableEntry Expression ℕ)) → All (IsValidImport F types) is → All (IsValidTableEntry F types) ts → All IsInRange (imported tables_in is ++ map table_type ts)
  tables_in_range is ts i t =
      All-append IsInRange (imported tables_in is) (map table_type ts) (imported_in_range is i)
      (All-map IsInRange table_type ts (for_each (IsValidTableEntry F types) (λ (x : TableEntry Expression ℕ). IsInRange x.ty) ts (λ x (v : IsValidTableEntry F types x). v.ty.element.in_range) t))

-- an item at an index that passes a test, by what it was before it was changed, and what another change makes of it
changed_decided : {X Y Z : Type 0} (h : X → Y) (f : X → Z) (test : Y → Bool) (G M : X → Type 0) (Q : Z → Type 0)
    → ((x : X) → G x → Decides (test (h x)) (M x × Q (f x))) → (xs : List X) → All G xs → (k : ℕ)
    → Decides (passes test (slice_get (map h xs) k)) (((x : X) × (slice_get xs k ≡ Some x) × M x) × IfSome (slice_get (map f xs) k) Q)
changed_decided h f test G M Q d [] g k = (λ e. absurd (let z : false ≡ true = e in cc), λ p. absurd (let z : None ≡ Some p.0.0 = p.0.1 in cc))
changed_decided {X} h f test G M Q d (x ∷ xs) g zero =
    let one = d x (All-head G x xs g) in
    (λ e. let both = one.0 e in ((x, refl, both.0), both.1), λ p. let same : p.0.0 ≡ x = (let z : Some x ≡ Some p.0.0 = p.0.1 in cc) in one.1 (subst M same p.0.2, p.1))
changed_decided h f test G M Q d (x ∷ xs) g (suc k) = changed_decided h f test G M Q d xs (All-tail G x xs g) k

-- a reference type that is written
abbrev ref_with : Bool → Heap ℕ → Ref ℕ
ref_with nullable h = record { nullable = nullable; heap = h }

module _ (F : Features) where
  allowed_written : (nullable : Bool) (h : Heap ℕ) → allows_ref F (map_ref written (ref_with nullable h)) ≡ allows_ref F (ref_with nullable h)
  allowed_written nullable (abstract_heap s a) = refl
  allowed_written nullable (concrete x) = refl
  allowed_written nullable (exact x) = refl

one_in_range : (n x : ℕ) → Decides (nat_lt x n && true) (All (λ y. y < n) (x ∷ []))
one_in_range n x =
    Decides-like (nat_lt x n && true) (λ (p : (x < n) × IsTrue true). All-cons (λ y. y < n) x [] p.0 (All-nil (λ y. y < n))) (λ a. (All-head (λ y. y < n) x [] a, refl))
    (Decides-and (nat_lt x n) true (Decides-ltb x n) (λ e. e, λ e. e))

heap_in_range : (n : ℕ) (nullable : Bool) (h : Heap ℕ) → Decides (is_ref_in_range n (map_ref written (ref_with nullable h))) (All (λ y. y < n) (refs_heap h))
heap_in_range n nullable (abstract_heap s a) = (λ _. All-nil (λ y. y < n), λ _. refl)
heap_in_range n nullable (concrete x) = one_in_range n x
heap_in_range n nullable (exact x) = one_in_range n x

few_decided : (n most : ℕ) → Decides (nat_le n most) (n ≤ most)
few_decided n most = (leb-true n most, le-leb n most)

module _ (F : Features) (us : List DefType) (ids : List ℕ) (types : List DefType) (w : Setting F us ids types) (parts : Parts)
    (constants : ConstantsAreOverNumbers) (matching : ReferencesMatchOverIds) (n : Numbering types) (in_range : GlobalsInRange types (index_spaces types parts).globals)
    (tables : All (IsInRange F types) (index_spaces types parts).tables) where
  -- the state where these are there
  abbrev with_elements : List (Element Expression ℕ) → Parts
  with_elements es = record (up_to_exports parts) { elements = es }

  abbrev at_elements : List (Element Expression ℕ) → Spaces
  at_elements es = spaces_of F types ids (with_elements es)

  abbrev add_one : Spaces → Element Expression ℕ → Option Spaces
  add_one st e = add_element F (types_declare us us) st (map_element written e)

  -- how many globals the module's context has
  abbrev count : ℕ
  count = length (context_of (spaces F us ids types w parts) n parts).globals

  abbrev IsConstantOf : Val ℕ → Expression → Type 0
  IsConstantOf v e = IsConstant nat_eq F (context_of (spaces F us ids types w parts) n parts) (imported_globals parts) count v e

  abbrev AreTyped : ElementItems Expression ℕ → Type 0
  AreTyped x = AreTypedItems nat_eq F (context_of (spaces F us ids types w parts) n parts) (imported_globals parts) (number_at n) x

  abbrev IsTypedMode : SegmentMode Expression → Type 0
  IsTypedMode m = IsTypedElementMode nat_eq F (context_of (spaces F us ids types w parts) n parts) (imported_globals parts) (number_at n) m

  abbrev IsTyped : Element Expression ℕ → Type 0
  IsTyped e = IsTypedElement nat_eq F (context_of (spaces F us ids types w parts) n parts) (imported_globals parts) (number_at n) e

  shown : (acc : List (Element Expression ℕ)) → ShowsConstants F us (at_elements acc) (spaces F us ids types w parts) parts count
  shown acc = all_visible F us ids types w parts (with_elements acc) count (length-map (index_spaces types parts).globals (map_global (number_at n))) refl refl refl in_range

  same_length : length ids ≡ length types
  same_length = sym (length-map ids (λ (id : ℕ). get_or us id nowhere)) ∙ length_kept (canonical F) us ids types w.stand

  ref_decided : (r : Ref ℕ) → Decides (allows_ref F (map_ref written r) && is_ref_in_range (length ids) (map_ref written r)) (IsAllowedRef F types r)
  ref_decided r =
      let allowed : Bool = allows_ref F r in
      let known : Bool = is_ref_in_range (length types) (map_ref written r) in
      Decides-at
      (allows_ref F (map_ref written r) && is_ref_in_range (length ids) (map_ref written r))
      (allowed && known)
      (λ i. allowed_written F r.nullable r.heap i && is_ref_in_range (same_length i) (map_ref written r))
      (Decides-like (allowed && known) (λ (p : IsTrue allowed × IsRefInRange types r). record { allowed = p.0; in_range = p.1 }) (λ (v : IsAllowedRef F types r). (v.allowed, v.in_range))
      (Decides-and allowed known (λ e. e, λ e. e) (heap_in_range (length types) r.nullable r.heap)))

  abbrev is_item : List (Element Expression ℕ) → Ref ℕ → Expression → Bool
  is_item acc r e = is_constant_of F (types_declare us us) (at_elements acc) (reference (map_ref (canonical_index ids) (map_ref written r))) e

  items_decided : (acc : List (Element Expression ℕ)) (x : ElementItems Expression ℕ)
      → Decides (are_items F (types_declare us us) (at_elements acc) (map_items written x)) ((AreValidItems F (index_spaces types parts) x × (items_count x ≤ most_items)) × AreTyped x)
  items_decided acc (functions xs) =
      let below : ℕ → Bool = λ x. nat_lt x (length (index_spaces types parts).functions) in
      let IsBelow : ℕ → Type 0 = λ x. x < length (index_spaces types parts).functions in
      Decides-like (list_all below xs && nat_le (length xs) most_items) (λ (p : All IsBelow xs × (length xs ≤ most_items)). (p, tt)) (λ p. p.0)
      (Decides-and (list_all below xs) (nat_le (length xs) most_items)
      (Decides-by_and below IsBelow (list_all below) (λ x. Decides-ltb x (length (index_spaces types parts).functions)) refl (λ _ _. refl) xs)
      (few_decided (length xs) most_items))
  items_decided acc (expressions r es) =
      let allowed : Bool = allows_ref F (map_ref written r) && is_ref_in_range (length ids) (map_ref written r) in
      let IsItem : Expression → Type 0 = IsConstantOf (reference (map_ref (number_at n) r)) in
      let constant : Bool = list_all (is_item acc r) es in
      Decides-like ((allowed && constant) && nat_le (length es) most_items) (λ (p : (IsAllowedRef F types r × All IsItem es) × (length es ≤ most_items)). ((p.0.0, p.1), p.0.1)) (λ p. ((p.0.0, p.1), p.0.1))
      (Decides-and (allowed && constant) (nat_le (length es) most_items)
      (decides_then allowed constant (ref_decided r)
      (λ (v : IsAllowedRef F types r). Decides-by_and (is_item acc r) IsItem (list_all (is_item acc r))
      (λ e. constant_decided F us ids types w parts constants n (at_elements acc) count (shown acc) (reference r) v.in_range e) refl (λ _ _. refl) es))
      (few_decided (length es) most_items))

  -- their type is in range
  items_in_range : (x : ElementItems Expression ℕ) → AreValidItems F (index_spaces types parts) x → IsRefInRange types (items_type x)
  items_in_range (functions xs) v = All-nil (λ y. y < length types)
  items_in_range (expressions r es) v = v.in_range

  listed_type : (x : ElementItems Expression ℕ) (acc : List (Element Expression ℕ)) → listed_items_type (at_elements acc) (map_items written x) ≡ map_ref (listed ids) (items_type x)
  listed_type (functions xs) acc = refl
  listed_type (expressions r es) acc = map_ref-map (canonical_index ids) written r

  abbrev holds : List (Element Expression ℕ) → Ref ℕ → Expression → Table UnpackedIndex → Bool
  holds acc r e t = matches_val (world (machine.context_of (types_declare us us) (at_elements acc))) (reference (map_ref (listed ids) r)) (reference t.element) && is_offset F (types_declare us us) (at_elements acc) t.is_64 e

  holds_decided : (acc : List (Element Expression ℕ)) (r : Ref ℕ) → IsRefInRange types r → (e : Expression) (t : Table ℕ) → IsRefInRange types t.element
      → Decides (holds acc r e (listed_table ids t)) (MatchesRef declared (ref_over types r) (ref_over types t.element) × IsConstantOf (address t.is_64) e)
  holds_decided acc r known e t there =
      Decides-and
      (matches_val (world (machine.context_of (types_declare us us) (at_elements acc))) (reference (map_ref (listed ids) r)) (reference (map_ref (listed ids) t.element)))
      (is_offset F (types_declare us us) (at_elements acc) t.is_64 e)
      (matching F us w.valid w.once (at_elements acc) types w.module_types w.stand w.own_ids r t.element known there)
      (offset_decided F us ids types w parts constants n (at_elements acc) count (shown acc) t.is_64 e)

  mode_decided : (acc : List (Element Expression ℕ)) (r : Ref ℕ) → IsRefInRange types r → (m : SegmentMode Expression)
      → Decides (may_be_placed F (types_declare us us) (at_elements acc) (map_ref (listed ids) r) m) (IsValidElementMode F (index_spaces types parts) r m × IsTypedMode m)
  mode_decided acc r known passive = (λ e. (e, tt), λ h. h.0)
  mode_decided acc r known declarative = (λ e. (e, tt), λ h. h.0)
  mode_decided acc r known (active x e) =
      let k : ℕ = index_or_first x in
      let all : List (Table ℕ) = (index_spaces types parts).tables in
      let Holds : Table ℕ → Type 0 = λ t. MatchesRef declared (ref_over types r) (ref_over types t.element) in
      let Offset : Table ℕ → Type 0 = λ t. IsConstantOf (address t.is_64) e in
      Decides-like
      (passes (holds acc r e) (slice_get (map (listed_table ids) all) k))
      (λ (p : ((t : Table ℕ) × (slice_get all k ≡ Some t) × Holds t) × IfSome (slice_get (map (map_table (number_at n)) all) k) Offset). (record { table = p.0.0; is_there = p.0.1; matches = p.0.2 }, p.1))
      (λ (p : GoesToTable (index_spaces types parts) k r × IfSome (slice_get (map (map_table (number_at n)) all) k) Offset). ((p.0.table, p.0.is_there, p.0.matches), p.1))
      (changed_decided (listed_table ids) (map_table (number_at n)) (holds acc r e) (IsInRange F types) Holds Offset (holds_decided acc r known e) all tables k)

  abbrev entry_test : List (Element Expression ℕ) → Element Expression ℕ → Bool
  entry_test acc e =
      are_items F (types_declare us us) (at_elements acc) (map_items written e.items)
      && may_be_placed F (types_declare us us) (at_elements acc) (listed_items_type (at_elements acc) (map_items written e.items)) e.mode

  abbrev IsRightElement : Element Expression ℕ → Type 0
  IsRightElement e = IsValidElement F (index_spaces types parts) e × IsTyped e

  abbrev AreRightItems : Element Expression ℕ → Type 0
  AreRightItems e = (AreValidItems F (index_spaces types parts) e.items × (items_count e.items ≤ most_items)) × AreTyped e.items

  abbrev IsRightMode : Element Expression ℕ → Type 0
  IsRightMode e = IsValidElementMode F (index_spaces types parts) (items_type e.items) e.mode × IsTypedMode e.mode

  entry_decided : (acc : List (Element Expression ℕ)) (e : Element Expression ℕ) → Decides (entry_test acc e) (IsRightElement e)
  entry_decided acc e =
      let items : Bool = are_items F (types_declare us us) (at_elements acc) (map_items written e.items) in
      let placed : Bool = may_be_placed F (types_declare us us) (at_elements acc) (listed_items_type (at_elements acc) (map_items written e.items)) e.mode in
      Decides-like (items && placed)
      (λ (p : AreRightItems e × IsRightMode e). (record { items = p.0.0.0; mode = p.1.0; few_items = p.0.0.1 }, (p.1.1, p.0.1)))
      (λ (p : IsRightElement e). (((p.0.items, p.0.few_items), p.1.1), (p.0.mode, p.1.0)))
      (decides_then items placed (items_decided acc e.items)
      (λ (v : AreRightItems e). Decides-at placed (may_be_placed F (types_declare us us) (at_elements acc) (map_ref (listed ids) (items_type e.items)) e.mode)
      (ap (λ (r : Ref UnpackedIndex). may_be_placed F (types_declare us us) (at_elements acc) r e.mode) (listed_type e.items acc))
      (mode_decided acc (items_type e.items) (items_in_range e.items v.0.0) e.mode)))

  one_more : (acc : List (Element Expression ℕ)) (e : Element Expression ℕ)
      → map (listed_element ids) acc ++ listed_items_type (at_elements acc) (map_items written e.items) ∷ [] ≡ map (listed_element ids) (acc ++ e ∷ [])
  one_more acc e = (λ i. map (listed_element ids) acc ++ listed_type e.items acc i ∷ []) ∙ sym (map-append (listed_element ids) acc (e ∷ []))

  element_step : (acc : List (Element Expression ℕ)) (e : Element Expression ℕ) → Verdict (IsRightElement e) (add_one (at_elements acc) e) (at_elements (acc ++ e ∷ []))
  element_step acc e =
      let next : Spaces = at_elements (acc ++ e ∷ []) in
      verdict_of
      (add_one (at_elements acc) e)
      (cond (entry_test acc e) (Some next) None)
      next
      (λ i. cond (entry_test acc e) (Some (record (at_elements acc) { elements = one_more acc e i })) None)
      (tested_verdict (entry_test acc e) next (entry_decided acc e))

  pub elements_verdict : Verdict (All IsRightElement parts.elements) (add_elements F us (at_elements []) parts.elements) (at_elements parts.elements)
  elements_verdict =
      verdict_of
      (add_elements F us (at_elements []) parts.elements)
      (each add_one (at_elements []) parts.elements)
      (at_elements parts.elements)
      (each_changed (add_element F (types_declare us us)) (map_element written) (at_elements []) parts.elements)
      (verdict_as
      (each add_one (at_elements []) parts.elements)
      (at_elements parts.elements)
      (are_right IsRightElement [] parts.elements)
      (right_behind IsRightElement [] parts.elements)
      (each_verdict (IsRight IsRightElement) (λ _ _. ⊤) add_one at_elements (λ acc e _ _. element_step acc e) (λ _ _ _ _ _. tt) parts.elements [] tt))
