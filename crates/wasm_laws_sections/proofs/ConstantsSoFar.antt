-- Constant expressions of items, typed over the ids of the list, are typed in the context of the module's lists so far.
use Rattle.std.proofs.Common.{◌≡◌, refl, sym, ap, subst, ◌∙◌, ℕ, zero, suc, ◌≤◌, ◌<◌, nat_eq, nat_lt, nat_le, Bool, true, false, ◌&&◌, List, [], ◌∷◌, map, length, take, slice_get, Option, Some, None, IsTrue, IfSome, arith}
use Rattle.std.specs.Prelude.{◌↔◌}
use Rattle.std.specs.Bool.{Decides}
use Rattle.std.specs.List.{All, list_all}
use Rattle.std.proofs.Math.Seq.{take-length}
use Rattle.std.proofs.lemmas.Bool.{leb-true, le-leb}
use Rattle.std.proofs.lemmas.Bool.Decides.{Decides-at, Decides-like, Decides-and, Decides-ltb, Decides-by_and}
use Rattle.std.proofs.lemmas.List.{length-map}
use Rattle.std.proofs.lemmas.List.Elements.{All-nil, All-cons, All-head, All-tail}
use Rattle.wasm_spec.specs.Syntax.{Heap, abstract_heap, concrete, exact, Ref, Table, Memory, Global, Sub, Val, i32, i64, reference, map_ref, map_val, map_table, map_global}
use Rattle.wasm_spec.specs.BinarySections.{TableEntry, GlobalEntry, Element, ElementItems, functions, expressions, Data, SegmentMode, passive, active, declarative}
use Rattle.wasm_spec.specs.Features.{Features}
use Rattle.wasm_spec.specs.Matching.{MatchesRef}
use Rattle.wasm_spec.specs.MatchingTests.{matches_val}
use Rattle.wasm_spec.specs.References.{refs_heap}
use Rattle.wasm_spec.specs.Trees.{declared}
use Rattle.wasm_spec.specs.ValueTypes.{allows_ref}
use Rattle.wasm_spec.proofs.SyntaxMaps.{map_val-map}
use Rattle.wasm_spec_rules.specs.Attempts.{passes}
use Rattle.wasm_spec_rules.specs.Contexts.{Context}
use Rattle.wasm_spec_rules.specs.IndexSpaces.{IndexSpaces, ref_over, IsRefInRange, IsValInRange}
use Rattle.wasm_spec_rules.specs.ItemRules.{IsAllowedRef, IsValidTableEntry, IsValidGlobal}
use Rattle.wasm_spec_rules.specs.Parts.{Parts, Expression}
use Rattle.wasm_spec_rules.specs.SegmentRules.{items_type, items_count, AreValidItems, index_or_first, GoesToTable, IsValidElementMode, IsValidDataMode}
use Rattle.wasm_spec_rules.specs.Limits.{most_items}
use Rattle.wasm_spec_validity.specs.WasmSpecSteps.Meanings.{address}
use Rattle.wasm_spec_validity.specs.Modules.{Numbering, number_at, context_of, imported_globals}
use Rattle.wasm_spec_validity.specs.Typing.{IsConstant, IsTypedElementMode, AreTypedItems, IsTypedDataMode}
use Rattle.wasm_readers_types.specs.WasmReadersValues.declared.indices.UnpackedIndex.{UnpackedIndex}
use Rattle.wasm_validator_resources.specs.Answers.{world}
use Rattle.wasm_validator_states.specs.WasmValidatorCanonical.Indices.{canonical_index}
use Rattle.wasm_validator_states.specs.WasmValidatorCanonical.Sections.{written}
use Rattle.wasm_validator_types.specs.Spaces.{Spaces}
use Rattle.wasm_validator_states.specs.WasmValidatorSections.WasmValidatorChecks.Items.{is_ref_in_range}
use Rattle.wasm_validator_states.specs.WasmValidatorSections.WasmValidatorCore.Answers.{TypesSoFar}
use Rattle.wasm_validator_states.specs.WasmValidatorSections.WasmLawsCore.ModuleParts.{listed, listed_table, listed_global}
use Rattle.wasm_validator_states.specs.WasmValidatorSections.WasmLawsCore.ListedTypes.{types_declare}
use Rattle.wasm_validator_states.specs.WasmValidatorSections.WasmLawsCore.WasmValidatorCoreResources.IndexContexts.{id_of}
use Rattle.wasm_validator_states.specs.WasmValidatorSections.WasmLawsCore.WasmValidatorCoreResources.ModuleContexts.{exact_flags, numbers_from}
use Rattle.wasm_validator_states.specs.WasmValidatorSections.WasmLawsModules.Contexts.{ShowsConstants}
use Rattle.wasm_validator_states.specs.WasmValidatorSections.WasmLawsModules.Maps.{map_items}
use Rattle.wasm_validator_states.specs.WasmValidatorSections.Entries.{is_constant_of, is_constant_or_none, is_offset, are_items, may_be_placed, may_be_stored}
use Rattle.wasm_validator_states.proofs.WasmValidatorSections.WasmLawsModules.ItemSequences.{decides_then}
use Rattle.wasm_validator_states.proofs.WasmValidatorSections.WasmLawsModules.ConstantsOverNumbers.{constants_are_over_numbers}
use Rattle.wasm_validator_states.proofs.WasmValidatorSections.WasmLawsModules.MatchingOverIds.{references_match_over_ids}
use Rattle.wasm_validator_states.specs.SectionLaws.{FitsTable, FitsGlobal, FitsElement, FitsData}
use Rattle.wasm_laws_sections.specs.StateInvariants.{HasTypes, Shows}
use Rattle.wasm_laws_sections.specs.AnyOrder.{IsRightTable, IsRightGlobal, IsRightElement, IsRightData}
use Rattle.wasm_laws_sections.proofs.HeldTypes.{stand, as_many, once, module_types, own_ids}

-- what the lists so far show of globals and functions
pub shows_constants : (F : Features) (us : TypesSoFar) (s : Spaces) (C : IndexSpaces) (parts : Parts) → Shows F us s C parts → (visible : ℕ) → visible ≡ length C.globals → ShowsConstants F us s C parts visible
shows_constants F us s C parts h visible same =
    let whole : take visible C.globals ≡ C.globals = ap (λ k. take k C.globals) same ∙ take-length C.globals in
    record {
      types = stand F us s.types C.types h.types;
      own_ids = own_ids F us s.types C.types h.types;
      functions = h.functions.same;
      imported_functions = h.imported.same;
      imported_first = h.imported.defined;
      globals = h.globals.same ∙ ap (map (listed_global s.types)) (sym whole);
      globals_in_range = subst (All (λ (g : Global ℕ). IsValInRange C.types g.content)) (sym whole) h.globals.in_range;
      imported_globals = h.imported.imported;
    }

-- the second of two things, where the first holds
both_then : {P A B : Type 0} → (P → A ↔ B) → (P × A) ↔ (P × B)
both_then f = (λ x. (x.0, (f x.0).0 x.1), λ x. (x.0, (f x.0).1 x.1))

-- expressions in a state that shows these constants
module _ (F : Features) (us : TypesSoFar) (ids : List ℕ) (C : IndexSpaces) (parts : Parts) (k : Numbering C.types) (t : HasTypes F us ids C.types) (s : Spaces) (visible : ℕ) (shows : ShowsConstants F us s C parts visible) where
  abbrev IsConstantOf : Val ℕ → Expression → Type 0
  IsConstantOf v e = IsConstant nat_eq F (context_of C k parts) (imported_globals parts) visible v e

  pub constant_at : (v : Val ℕ) → IsValInRange C.types v → (e : Expression) → (is_constant_of F (types_declare us us) s (map_val (listed s.types) v) e ≡ true) ↔ IsConstantOf (map_val (number_at k) v) e
  constant_at v in_range e = constants_are_over_numbers F us t.valid (once F us ids C.types t) s C parts visible (module_types F us ids C.types t) shows k v in_range e

  pub init_at : (r : Ref ℕ) → IsRefInRange C.types r → (o : Option Expression)
      → IsTrue (is_constant_or_none F (types_declare us us) s (reference (map_ref (listed s.types) r)) o) ↔ IfSome o (IsConstantOf (reference (map_ref (number_at k) r)))
  init_at r in_range None = (λ _. tt, λ _. refl)
  init_at r in_range (Some e) = constant_at (reference r) in_range e

  -- the same of a type that is written
  pub constant_decided : (v : Val ℕ) → IsValInRange C.types v → (e : Expression)
      → Decides (is_constant_of F (types_declare us us) s (map_val (canonical_index s.types) (map_val written v)) e) (IsConstantOf (map_val (number_at k) v) e)
  constant_decided v in_range e =
      Decides-at
      (is_constant_of F (types_declare us us) s (map_val (canonical_index s.types) (map_val written v)) e)
      (is_constant_of F (types_declare us us) s (map_val (listed s.types) v) e)
      (ap (λ (w : Val UnpackedIndex). is_constant_of F (types_declare us us) s w e) (map_val-map (canonical_index s.types) written v))
      (constant_at v in_range e)

  pub offset_decided : (is_64 : Bool) (e : Expression) → Decides (is_offset F (types_declare us us) s is_64 e) (IsConstantOf (address is_64) e)
  offset_decided true e = constant_decided i64 (All-nil (λ x. x < length C.types)) e
  offset_decided false e = constant_decided i32 (All-nil (λ x. x < length C.types)) e

-- a table, by the globals and functions so far
pub table_right : (F : Features) (us : TypesSoFar) (ids : List ℕ) (C : IndexSpaces) (parts : Parts) (k : Numbering C.types) → HasTypes F us ids C.types → (s : Spaces) → ShowsConstants F us s C parts (length C.globals)
    → (t : TableEntry Expression ℕ) → FitsTable F us C.types s t ↔ IsRightTable F C parts k t
table_right F us ids C parts k types s shows t = both_then (λ (v : IsValidTableEntry F C.types t). init_at F us ids C parts k types s (length C.globals) shows t.ty.element v.ty.element.in_range t.init)

-- an item at an index that passes a test
passes_decided : {X : Type 0} (test : X → Bool) (Q : X → Type 0) → ((x : X) → Decides (test x) (Q x)) → (xs : List X) (i : ℕ)
    → Decides (passes test (slice_get xs i)) ((i < length xs) × IfSome (slice_get xs i) Q)
passes_decided test Q d [] i = (λ e. absurd (let z : false ≡ true = e in cc), λ h. let below = h.0 in absurd (omega (arith, below)))
passes_decided test Q d (x ∷ xs) zero = (λ e. (omega arith, (d x).0 e), λ h. (d x).1 h.1)
passes_decided test Q d (x ∷ xs) (suc i) =
    let rest = passes_decided test Q d xs i in
    (λ e. let below = (rest.0 e).0 in (omega (arith, below), (rest.0 e).1), λ h. let below = h.0 in rest.1 (omega (arith, below), h.1))

-- the same by what it was before it was changed, and what another change makes of it
changed_decided : {X Y Z : Type 0} (h : X → Y) (f : X → Z) (test : Y → Bool) (G M : X → Type 0) (Q : Z → Type 0)
    → ((x : X) → G x → Decides (test (h x)) (M x × Q (f x))) → (xs : List X) → All G xs → (i : ℕ)
    → Decides (passes test (slice_get (map h xs) i)) (((x : X) × (slice_get xs i ≡ Some x) × M x) × IfSome (slice_get (map f xs) i) Q)
changed_decided h f test G M Q d [] g i = (λ e. absurd (let z : false ≡ true = e in cc), λ p. absurd (let z : None ≡ Some p.0.0 = p.0.1 in cc))
changed_decided {X} h f test G M Q d (x ∷ xs) g zero =
    let one = d x (All-head G x xs g) in
    (λ e. let both = one.0 e in ((x, refl, both.0), both.1), λ p. let same : p.0.0 ≡ x = (let z : Some x ≡ Some p.0.0 = p.0.1 in cc) in one.1 (subst M same p.0.2, p.1))
changed_decided h f test G M Q d (x ∷ xs) g (suc i) = changed_decided h f test G M Q d xs (All-tail G x xs g) i

-- a reference type that is written
abbrev ref_with : Bool → Heap ℕ → Ref ℕ
ref_with nullable h = record { nullable = nullable; heap = h }

allowed_written : (F : Features) (nullable : Bool) (h : Heap ℕ) → allows_ref F (map_ref written (ref_with nullable h)) ≡ allows_ref F (ref_with nullable h)
allowed_written F nullable (abstract_heap s a) = refl
allowed_written F nullable (concrete x) = refl
allowed_written F nullable (exact x) = refl

one_in_range : (n x : ℕ) → Decides (nat_lt x n && true) (All (λ y. y < n) (x ∷ []))
one_in_range n x =
    Decides-like (nat_lt x n && true) (λ (p : (x < n) × IsTrue true). All-cons (λ y. y < n) x [] p.0 (All-nil (λ y. y < n))) (λ a. (All-head (λ y. y < n) x [] a, refl))
    (Decides-and (nat_lt x n) true (Decides-ltb x n) (λ e. e, λ e. e))

heap_in_range : (n : ℕ) (nullable : Bool) (h : Heap ℕ) → Decides (is_ref_in_range n (map_ref written (ref_with nullable h))) (All (λ y. y < n) (refs_heap h))
heap_in_range n nullable (abstract_heap s a) = (λ _. All-nil (λ y. y < n), λ _. refl)
heap_in_range n nullable (concrete x) = one_in_range n x
heap_in_range n nullable (exact x) = one_in_range n x

few_decided : (n most : ℕ) → Decides (nat_le n most) (n ≤ most)
few_decided n most = (leb-true n most, le-leb n most)

-- the context of constant expressions in a module as far as it has been read
abbrev constants_context : List (UnpackedIndex × Sub UnpackedIndex) → Spaces → Context UnpackedIndex
constants_context declares s = record {
  types = map id_of s.types;
  declares = declares;
  functions = s.functions;
  exact = exact_flags s.functions s.imported_functions;
  tables = s.tables;
  memories = s.memories;
  globals = s.globals;
  tags = s.tags;
  elements = [];
  data_count = None;
  references = numbers_from 0 (length s.functions);
}

module _ (F : Features) (us : TypesSoFar) (C : IndexSpaces) (parts : Parts) (k : Numbering C.types) (s : Spaces) (h : Shows F us s C parts) where
  -- how many globals the context has
  abbrev count : ℕ
  count = length (context_of C k parts).globals

  shown : ShowsConstants F us s C parts count
  shown = shows_constants F us s C parts h count (length-map C.globals (map_global (number_at k)))

  abbrev IsConstantHere : Val ℕ → Expression → Type 0
  IsConstantHere v e = IsConstant nat_eq F (context_of C k parts) (imported_globals parts) count v e

  offset_here : (is_64 : Bool) (e : Expression) → Decides (is_offset F (types_declare us us) s is_64 e) (IsConstantHere (address is_64) e)
  offset_here is_64 e = offset_decided F us s.types C parts k h.types s count shown is_64 e

  -- a global, by those before it
  pub global_right : (g : GlobalEntry Expression ℕ) → FitsGlobal F us C.types s g ↔ IsRightGlobal F C parts k g
  global_right g = both_then (λ (v : IsValidGlobal F C.types g.ty). constant_at F us s.types C parts k h.types s (length C.globals) (shows_constants F us s C parts h (length C.globals) refl) g.ty.content v.content.in_range g.init)

  -- data
  abbrev IsTypedData : SegmentMode Expression → Type 0
  IsTypedData m = IsTypedDataMode nat_eq F (context_of C k parts) (imported_globals parts) (number_at k) m

  abbrev is_stored : Expression → Memory → Bool
  is_stored e m = is_offset F (types_declare us us) s m.is_64 e

  stored_decided : (m : SegmentMode Expression) → Decides (may_be_stored F (types_declare us us) s m) (IsValidDataMode F C m × IsTypedData m)
  stored_decided passive = (λ e. (e, tt), λ p. p.0)
  stored_decided declarative = (λ e. absurd (let z : false ≡ true = e in cc), λ p. absurd p.0)
  stored_decided (active x e) =
      Decides-at
      (passes (is_stored e) (slice_get s.memories (index_or_first x)))
      (passes (is_stored e) (slice_get C.memories (index_or_first x)))
      (ap (λ (ms : List Memory). passes (is_stored e) (slice_get ms (index_or_first x))) h.memories.same)
      (passes_decided (is_stored e) (λ (m : Memory). IsConstantHere (address m.is_64) e) (λ m. offset_here m.is_64 e) C.memories (index_or_first x))

  pub data_right : (d : Data Expression) → FitsData F us s d ↔ IsRightData F C parts k d
  data_right d = stored_decided d.mode

  -- items of segments
  abbrev AreTyped : ElementItems Expression ℕ → Type 0
  AreTyped x = AreTypedItems nat_eq F (context_of C k parts) (imported_globals parts) (number_at k) x

  abbrev IsTypedMode : SegmentMode Expression → Type 0
  IsTypedMode m = IsTypedElementMode nat_eq F (context_of C k parts) (imported_globals parts) (number_at k) m

  ref_decided : (r : Ref ℕ) → Decides (allows_ref F (map_ref written r) && is_ref_in_range (length s.types) (map_ref written r)) (IsAllowedRef F C.types r)
  ref_decided r =
      let allowed : Bool = allows_ref F r in
      let known : Bool = is_ref_in_range (length C.types) (map_ref written r) in
      Decides-at
      (allows_ref F (map_ref written r) && is_ref_in_range (length s.types) (map_ref written r))
      (allowed && known)
      (λ i. allowed_written F r.nullable r.heap i && is_ref_in_range (as_many F us s.types C.types h.types i) (map_ref written r))
      (Decides-like (allowed && known) (λ (p : IsTrue allowed × IsRefInRange C.types r). record { allowed = p.0; in_range = p.1 }) (λ (v : IsAllowedRef F C.types r). (v.allowed, v.in_range))
      (Decides-and allowed known (λ e. e, λ e. e) (heap_in_range (length C.types) r.nullable r.heap)))

  abbrev is_item : Ref ℕ → Expression → Bool
  is_item r e = is_constant_of F (types_declare us us) s (reference (map_ref (canonical_index s.types) (map_ref written r))) e

  abbrev are_below : List ℕ → List ℕ → Bool
  are_below fs xs = list_all (λ x. nat_lt x (length fs)) xs && nat_le (length xs) most_items

  items_decided : (x : ElementItems Expression ℕ) → Decides (are_items F (types_declare us us) s (map_items written x)) ((AreValidItems F C x × (items_count x ≤ most_items)) × AreTyped x)
  items_decided (functions xs) =
      let below : ℕ → Bool = λ x. nat_lt x (length C.functions) in
      let IsBelow : ℕ → Type 0 = λ x. x < length C.functions in
      Decides-at (are_below s.functions xs) (are_below C.functions xs) (ap (λ (fs : List ℕ). are_below fs xs) h.functions.same)
      (Decides-like (list_all below xs && nat_le (length xs) most_items) (λ (p : All IsBelow xs × (length xs ≤ most_items)). (p, tt)) (λ p. p.0)
      (Decides-and (list_all below xs) (nat_le (length xs) most_items)
      (Decides-by_and below IsBelow (list_all below) (λ x. Decides-ltb x (length C.functions)) refl (λ _ _. refl) xs)
      (few_decided (length xs) most_items)))
  items_decided (expressions r es) =
      let allowed : Bool = allows_ref F (map_ref written r) && is_ref_in_range (length s.types) (map_ref written r) in
      let IsItem : Expression → Type 0 = IsConstantHere (reference (map_ref (number_at k) r)) in
      let constant : Bool = list_all (is_item r) es in
      Decides-like ((allowed && constant) && nat_le (length es) most_items) (λ (p : (IsAllowedRef F C.types r × All IsItem es) × (length es ≤ most_items)). ((p.0.0, p.1), p.0.1)) (λ p. ((p.0.0, p.1), p.0.1))
      (Decides-and (allowed && constant) (nat_le (length es) most_items)
      (decides_then allowed constant (ref_decided r)
      (λ (v : IsAllowedRef F C.types r). Decides-by_and (is_item r) IsItem (list_all (is_item r))
      (λ e. constant_decided F us s.types C parts k h.types s count shown (reference r) v.in_range e) refl (λ _ _. refl) es))
      (few_decided (length es) most_items))

  items_in_range : (x : ElementItems Expression ℕ) → AreValidItems F C x → IsRefInRange C.types (items_type x)
  items_in_range (functions xs) v = All-nil (λ y. y < length C.types)
  items_in_range (expressions r es) v = v.in_range

  -- where they go
  abbrev holds : Ref ℕ → Expression → Table UnpackedIndex → Bool
  holds r e t = matches_val (world (constants_context (types_declare us us) s)) (reference (map_ref (listed s.types) r)) (reference t.element) && is_offset F (types_declare us us) s t.is_64 e

  holds_decided : (r : Ref ℕ) → IsRefInRange C.types r → (e : Expression) (t : Table ℕ) → IsRefInRange C.types t.element
      → Decides (holds r e (listed_table s.types t)) (MatchesRef declared (ref_over C.types r) (ref_over C.types t.element) × IsConstantHere (address t.is_64) e)
  holds_decided r known e t there =
      Decides-and
      (matches_val (world (constants_context (types_declare us us) s)) (reference (map_ref (listed s.types) r)) (reference (map_ref (listed s.types) t.element)))
      (is_offset F (types_declare us us) s t.is_64 e)
      (references_match_over_ids F us h.types.valid (once F us s.types C.types h.types) s C.types (module_types F us s.types C.types h.types) (stand F us s.types C.types h.types) (own_ids F us s.types C.types h.types) r t.element known there)
      (offset_here t.is_64 e)

  placed_decided : (r : Ref ℕ) → IsRefInRange C.types r → (m : SegmentMode Expression) → Decides (may_be_placed F (types_declare us us) s (map_ref (listed s.types) r) m) (IsValidElementMode F C r m × IsTypedMode m)
  placed_decided r known passive = (λ e. (e, tt), λ p. p.0)
  placed_decided r known declarative = (λ e. (e, tt), λ p. p.0)
  placed_decided r known (active x e) =
      let i : ℕ = index_or_first x in
      let Holds : Table ℕ → Type 0 = λ t. MatchesRef declared (ref_over C.types r) (ref_over C.types t.element) in
      let Offset : Table ℕ → Type 0 = λ t. IsConstantHere (address t.is_64) e in
      Decides-at
      (passes (holds r e) (slice_get s.tables i))
      (passes (holds r e) (slice_get (map (listed_table s.types) C.tables) i))
      (ap (λ (ts : List (Table UnpackedIndex)). passes (holds r e) (slice_get ts i)) h.tables.same)
      (Decides-like
      (passes (holds r e) (slice_get (map (listed_table s.types) C.tables) i))
      (λ (p : ((t : Table ℕ) × (slice_get C.tables i ≡ Some t) × Holds t) × IfSome (slice_get (map (map_table (number_at k)) C.tables) i) Offset). (record { table = p.0.0; is_there = p.0.1; matches = p.0.2 }, p.1))
      (λ (p : GoesToTable C i r × IfSome (slice_get (map (map_table (number_at k)) C.tables) i) Offset). ((p.0.table, p.0.is_there, p.0.matches), p.1))
      (changed_decided (listed_table s.types) (map_table (number_at k)) (holds r e) (λ (t : Table ℕ). IsRefInRange C.types t.element) Holds Offset (holds_decided r known e) C.tables h.tables.in_range i))

  pub element_right : (e : Element Expression ℕ) → FitsElement F us s e ↔ IsRightElement F C parts k e
  element_right e = (
    λ p.
        let a = (items_decided e.items).0 p.0 in
        let b = (placed_decided (items_type e.items) (items_in_range e.items a.0.0) e.mode).0 p.1 in
        (record { items = a.0.0; mode = b.0; few_items = a.0.1 }, (b.1, a.1)),
    λ q.
        ((items_decided e.items).1 ((q.0.items, q.0.few_items), q.1.1), (placed_decided (items_type e.items) (items_in_range e.items q.0.items) e.mode).1 (q.0.mode, q.1.0)),
  )
