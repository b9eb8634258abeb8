-- Each test of an item decides its rule.
use Rattle.std.proofs.Common.{◌≡◌, ◌≢◌, refl, ap, ◌∙◌, ℕ, zero, suc, ◌<◌, ◌≤◌, Bool, true, false, not, ◌&&◌, ◌||◌, nat_lt, nat_le, List, [], ◌∷◌, length, Option, Some, None, is_some, IsTrue, IfSome, All}
use Rattle.std.specs.Bool.{Decides}
use Rattle.std.specs.Option.{option_map}
use Rattle.std.proofs.lemmas.Bool.{leb-true, le-leb}
use Rattle.std.proofs.lemmas.Bool.Decides.{Decides-like, Decides-at, Decides-and, Decides-ltb}
use Rattle.std.proofs.lemmas.List.Elements.{All-nil, All-cons, All-head}
use Rattle.wasm_spec.specs.Syntax.{AbstractHeap, any_heap, eq_heap, i31_heap, struct_heap, array_heap, none_heap, func_heap, nofunc_heap, extern_heap, noextern_heap, exn_heap, noexn_heap, cont_heap, nocont_heap, Heap, abstract_heap, concrete, exact, Ref, Val, i32, i64, f32, f64, v128, reference, Table, Memory, Global, func_extern, func_exact_extern, table_extern, memory_extern, global_extern, tag_extern, map_ref, map_val, map_table, map_global}
use Rattle.wasm_spec.specs.BinarySections.{funcref}
use Rattle.wasm_spec.specs.Features.{Features}
use Rattle.wasm_spec.specs.Matching.{is_shared_heap, is_shared_val}
use Rattle.wasm_spec.specs.References.{refs_heap}
use Rattle.wasm_spec.specs.Trees.{DefType, declared}
use Rattle.wasm_spec.specs.ValueTypes.{implies, allows_ref, allows_val}
use Rattle.wasm_validator_resources.specs.WasmSpecRules.IndexSpaces.{IsFunctionType, signature_at, ref_over, val_over, IsRefInRange, IsValInRange}
use Rattle.wasm_validator_resources.specs.WasmSpecRules.ItemRules.{IsAllowedElement, IsAllowedVal, most_entries, most_pages, IsValidTable, IsValidTableEntry, IsValidMemory, IsValidTag, IsValidGlobal}
use Rattle.wasm_validator_canonical.specs.Arities.{arity}
use Rattle.wasm_validator_canonical.specs.Groups.{types_at}
use Rattle.wasm_validator_canonical.specs.Sections.{written}
use Rattle.wasm_validator_checks.specs.ModuleTypes.{arity_at}
use Rattle.wasm_validator_checks.specs.Items.{is_ref_in_range, is_val_in_range, is_func_heap, is_funcref, is_allowed_element, is_allowed_content, is_shared_ref_over, is_shared_val_over, are_ordered, are_at_most, is_allowed_page, log_of, most_of, allows_tag, is_function, is_valid_table, is_valid_memory, is_valid_tag, is_valid_global, is_movable_global}
use Rattle.wasm_validator_checks.specs.Laws.{Stand, FunctionsAreDecided, TablesAreDecided, DefinedTablesAreDecided, MemoriesAreDecided, TagsAreDecided, GlobalsAreDecided, ExternsAreDecided, AritiesAreKept}
use Rattle.wasm_validator_checks.proofs.ListedArities.{arity_kept, shared_kept, length_kept}

-- tests
itself : (b : Bool) → Decides b (IsTrue b)
itself b = (λ e. e, λ e. e)

where_true : (a b : Bool) → Decides (implies a b) (IsTrue a → IsTrue b)
where_true true b = (λ e _. e, λ f. f refl)
where_true false b = (λ _ e. absurd (let z : false ≡ true = e in cc), λ _. refl)

or_unless : {P : Type 0} (a b : Bool) → Decides a P → Decides (a || b) ((¬ P) → IsTrue b)
or_unless true b d = (λ _ n. absurd (n (d.0 refl)), λ _. refl)
or_unless false b d = (λ e _. e, λ f. f (λ p. let z : false ≡ true = d.1 p in cc))

at_most : (a b : ℕ) → Decides (nat_le a b) (a ≤ b)
at_most a b = (leb-true a b, le-leb a b)

-- limits
ordered : (minimum : ℕ) (maximum : Option ℕ) → Decides (are_ordered minimum maximum) (IfSome maximum (λ m. minimum ≤ m))
ordered minimum None = (λ _. tt, λ _. refl)
ordered minimum (Some m) = at_most minimum m

small : (most minimum : ℕ) (maximum : Option ℕ) → Decides (are_at_most most minimum maximum) ((minimum ≤ most) × IfSome maximum (λ m. m ≤ most))
small most minimum None = (λ e. (leb-true minimum most e, tt), λ p. le-leb minimum most p.0)
small most minimum (Some m) = Decides-and (nat_le minimum most) (nat_le m most) (at_most minimum most) (at_most m most)

-- references
abbrev heap_with : Bool → AbstractHeap → Heap ℕ
heap_with shared a = abstract_heap shared a

is_func : (shared : Bool) (a : AbstractHeap) → (not shared && is_func_heap a) ≡ true → heap_with shared a ≡ heap_with false func_heap
is_func false func_heap e = refl
is_func true a e = absurd cc
is_func false any_heap e = absurd cc
is_func false eq_heap e = absurd cc
is_func false i31_heap e = absurd cc
is_func false struct_heap e = absurd cc
is_func false array_heap e = absurd cc
is_func false none_heap e = absurd cc
is_func false nofunc_heap e = absurd cc
is_func false extern_heap e = absurd cc
is_func false noextern_heap e = absurd cc
is_func false exn_heap e = absurd cc
is_func false noexn_heap e = absurd cc
is_func false cont_heap e = absurd cc
is_func false nocont_heap e = absurd cc

abbrev ref_with : Bool → Heap ℕ → Ref ℕ
ref_with nullable h = record { nullable = nullable; heap = h }

only_funcref : (nullable : Bool) (h : Heap ℕ) → is_funcref (ref_with nullable h) ≡ true → ref_with nullable h ≡ funcref
only_funcref true (abstract_heap s a) e = ap (ref_with true) (is_func s a e)
only_funcref true (concrete x) e = absurd cc
only_funcref true (exact x) e = absurd cc
only_funcref false h e = absurd cc

funcref_decided : (r : Ref ℕ) → Decides (is_funcref r) (r ≡ funcref)
funcref_decided r = (only_funcref r.nullable r.heap, ap is_funcref)

one_in_range : (n x : ℕ) → Decides (nat_lt x n && true) (All (λ y. y < n) (x ∷ []))
one_in_range n x =
    Decides-like (nat_lt x n && true) (λ (p : (x < n) × IsTrue true). All-cons (λ y. y < n) x [] p.0 (All-nil (λ y. y < n))) (λ a. (All-head (λ y. y < n) x [] a, refl))
    (Decides-and (nat_lt x n) true (Decides-ltb x n) (itself true))

heap_in_range : (n : ℕ) (nullable : Bool) (h : Heap ℕ) → Decides (is_ref_in_range n (map_ref written (ref_with nullable h))) (All (λ y. y < n) (refs_heap h))
heap_in_range n nullable (abstract_heap s a) = (λ _. All-nil (λ y. y < n), λ _. refl)
heap_in_range n nullable (concrete x) = one_in_range n x
heap_in_range n nullable (exact x) = one_in_range n x

funcref_written : (nullable : Bool) (h : Heap ℕ) → is_funcref (map_ref written (ref_with nullable h)) ≡ is_funcref (ref_with nullable h)
funcref_written nullable (abstract_heap s a) = refl
funcref_written nullable (concrete x) = refl
funcref_written nullable (exact x) = refl

allowed_written : (F : Features) (nullable : Bool) (h : Heap ℕ) → allows_ref F (map_ref written (ref_with nullable h)) ≡ allows_ref F (ref_with nullable h)
allowed_written F nullable (abstract_heap s a) = refl
allowed_written F nullable (concrete x) = refl
allowed_written F nullable (exact x) = refl

module _ (F : Features) (c : Bool) (us : List DefType) (ids : List ℕ) (types : List DefType) (s : Stand c us ids types) where
  abbrev listed : List DefType
  listed = types_at us ids

  element_decided : (r : Ref ℕ) → Decides (is_allowed_element F (length listed) (map_ref written r)) (IsAllowedElement F types r)
  element_decided r =
      let allowed : Bool = allows_ref F r in
      let same : is_allowed_element F (length listed) (map_ref written r) ≡ ((is_funcref r || allowed) && is_ref_in_range (length types) (map_ref written r)) =
      λ i. (funcref_written r.nullable r.heap i || allowed_written F r.nullable r.heap i) && is_ref_in_range (length_kept c us ids types s i) (map_ref written r) in
      Decides-at (is_allowed_element F (length listed) (map_ref written r)) ((is_funcref r || allowed) && is_ref_in_range (length types) (map_ref written r)) same
      (Decides-like ((is_funcref r || allowed) && is_ref_in_range (length types) (map_ref written r))
      (λ (p : ((r ≢ funcref) → IsTrue allowed) × IsRefInRange types r). record { allowed = p.0; in_range = p.1 })
      (λ (v : IsAllowedElement F types r). (v.allowed, v.in_range))
      (Decides-and (is_funcref r || allowed) (is_ref_in_range (length types) (map_ref written r)) (or_unless (is_funcref r) allowed (funcref_decided r)) (heap_in_range (length types) r.nullable r.heap)))

  val_in_range : (v : Val ℕ) → Decides (is_val_in_range (length types) (map_val written v)) (IsValInRange types v)
  val_in_range i32 = (λ _. All-nil (λ y. y < length types), λ _. refl)
  val_in_range i64 = (λ _. All-nil (λ y. y < length types), λ _. refl)
  val_in_range f32 = (λ _. All-nil (λ y. y < length types), λ _. refl)
  val_in_range f64 = (λ _. All-nil (λ y. y < length types), λ _. refl)
  val_in_range v128 = (λ _. All-nil (λ y. y < length types), λ _. refl)
  val_in_range (reference r) = heap_in_range (length types) r.nullable r.heap

  val_allowed : (v : Val ℕ) → allows_val F (map_val written v) ≡ allows_val F v
  val_allowed i32 = refl
  val_allowed i64 = refl
  val_allowed f32 = refl
  val_allowed f64 = refl
  val_allowed v128 = refl
  val_allowed (reference r) = allowed_written F r.nullable r.heap

  content_decided : (v : Val ℕ) → Decides (is_allowed_content F (length listed) (map_val written v)) (IsAllowedVal F types v)
  content_decided v =
      let allowed : Bool = allows_val F v in
      let known = λ (n : ℕ). is_val_in_range n (map_val written v) in
      let same : is_allowed_content F (length listed) (map_val written v) ≡ (allowed && known (length types)) = λ i. val_allowed v i && known (length_kept c us ids types s i) in
      Decides-at (is_allowed_content F (length listed) (map_val written v)) (allowed && known (length types)) same
      (Decides-like (allowed && known (length types)) (λ (p : IsTrue allowed × IsValInRange types v). record { allowed = p.0; in_range = p.1 }) (λ (w : IsAllowedVal F types v). (w.allowed, w.in_range))
      (Decides-and allowed (known (length types)) (itself allowed) (val_in_range v)))

  heap_shared : (nullable : Bool) (h : Heap ℕ) → is_shared_ref_over listed (map_ref written (ref_with nullable h)) ≡ is_shared_heap declared (ref_over types (ref_with nullable h)).heap
  heap_shared nullable (abstract_heap t a) = refl
  heap_shared nullable (concrete x) = shared_kept c us ids types s x
  heap_shared nullable (exact x) = shared_kept c us ids types s x

  val_shared : (v : Val ℕ) → is_shared_val_over listed (map_val written v) ≡ is_shared_val declared (val_over types v)
  val_shared i32 = refl
  val_shared i64 = refl
  val_shared f32 = refl
  val_shared f64 = refl
  val_shared v128 = refl
  val_shared (reference r) = heap_shared r.nullable r.heap

  -- where it is shared, what it holds is shared
  shared_where : (shared a b : Bool) → a ≡ b → Decides (implies shared a) (IsTrue shared → IsTrue b)
  shared_where shared a b e = Decides-at (implies shared a) (implies shared b) (ap (implies shared) e) (where_true shared b)

  record TableParts (t : Table ℕ) : Type 0 where
    parts : ((((IsAllowedElement F types t.element × IfSome t.maximum (λ m. t.minimum ≤ m)) × (IsTrue t.is_64 → IsTrue F.memory64)) × (IsTrue t.shared → IsTrue F.shared_everything_threads))
        × ((t.minimum ≤ most_entries t) × IfSome t.maximum (λ m. m ≤ most_entries t)))
        × (IsTrue t.shared → IsTrue (is_shared_heap declared (ref_over types t.element).heap))

  from_table : (t : Table ℕ) → TableParts t → IsValidTable F types t
  from_table t q = let p = q.parts in record {
    element = p.0.0.0.0.0;
    minimum_at_most_maximum = p.0.0.0.0.1;
    of_64_bits_needs_memory64 = p.0.0.0.1;
    shared_needs_shared_everything_threads = p.0.0.1;
    shared_has_shared_elements = p.1;
    minimum_is_small = p.0.1.0;
    maximum_is_small = p.0.1.1;
  }

  table_decided : (t : Table ℕ) → Decides (is_valid_table F listed (map_table written t)) (IsValidTable F types t)
  table_decided t =
      let element : Bool = is_allowed_element F (length listed) (map_ref written t.element) in
      let ordering : Bool = are_ordered t.minimum t.maximum in
      let wide : Bool = implies t.is_64 F.memory64 in
      let sharing : Bool = implies t.shared F.shared_everything_threads in
      let sizes : Bool = are_at_most (most_entries t) t.minimum t.maximum in
      let elements : Bool = implies t.shared (is_shared_ref_over listed (map_ref written t.element)) in
      Decides-like (element && ordering && wide && sharing && sizes && elements)
      (λ p. from_table t (record { parts = p }))
      (λ (v : IsValidTable F types t). (((((v.element, v.minimum_at_most_maximum), v.of_64_bits_needs_memory64), v.shared_needs_shared_everything_threads), (v.minimum_is_small, v.maximum_is_small)), v.shared_has_shared_elements))
      (Decides-and (element && ordering && wide && sharing && sizes) elements
      (Decides-and (element && ordering && wide && sharing) sizes
      (Decides-and (element && ordering && wide) sharing
      (Decides-and (element && ordering) wide
      (Decides-and element ordering (element_decided t.element) (ordered t.minimum t.maximum))
      (where_true t.is_64 F.memory64))
      (where_true t.shared F.shared_everything_threads))
      (small (most_entries t) t.minimum t.maximum))
      (shared_where t.shared (is_shared_ref_over listed (map_ref written t.element)) (is_shared_heap declared (ref_over types t.element).heap) (heap_shared t.element.nullable t.element.heap)))

  global_decided : (g : Global ℕ) → Decides (is_valid_global F listed (map_global written g)) (IsValidGlobal F types g)
  global_decided g =
      let content : Bool = is_allowed_content F (length listed) (map_val written g.content) in
      let sharing : Bool = implies g.shared F.shared_everything_threads in
      let contents : Bool = implies g.shared (is_shared_val_over listed (map_val written g.content)) in
      Decides-like (content && sharing && contents)
      (λ (p : (IsAllowedVal F types g.content × (IsTrue g.shared → IsTrue F.shared_everything_threads)) × (IsTrue g.shared → IsTrue (is_shared_val declared (val_over types g.content)))).
      record { content = p.0.0; shared_needs_shared_everything_threads = p.0.1; shared_has_shared_content = p.1 })
      (λ (v : IsValidGlobal F types g). ((v.content, v.shared_needs_shared_everything_threads), v.shared_has_shared_content))
      (Decides-and (content && sharing) contents
      (Decides-and content sharing (content_decided g.content) (where_true g.shared F.shared_everything_threads))
      (shared_where g.shared (is_shared_val_over listed (map_val written g.content)) (is_shared_val declared (val_over types g.content)) (val_shared g.content)))

-- memories
page_decided : (F : Features) (p : Option ℕ) → Decides (is_allowed_page F p) ((IsTrue (is_some p) → IsTrue F.custom_page_sizes) × IfSome p (λ n. n ≤ 16))
page_decided F None = (λ _. (λ e. absurd (let z : false ≡ true = e in cc), tt), λ _. refl)
page_decided F (Some n) =
    Decides-like (F.custom_page_sizes && nat_le n 16)
    (λ (p : IsTrue F.custom_page_sizes × (n ≤ 16)). (λ _. p.0, p.1))
    (λ q. (q.0 refl, q.1))
    (Decides-and F.custom_page_sizes (nat_le n 16) (itself F.custom_page_sizes) (at_most n 16))

same_log : (p : Option ℕ) → log_of p ≡ elim p [ None ↦ 16 | Some n ↦ n ]
same_log None = refl
same_log (Some n) = refl

small_pages : (m : Memory) → Decides (are_at_most (most_of m.is_64 (log_of m.page_size_log2)) m.minimum m.maximum) ((m.minimum ≤ most_pages m) × IfSome m.maximum (λ n. n ≤ most_pages m))
small_pages m =
    Decides-at (are_at_most (most_of m.is_64 (log_of m.page_size_log2)) m.minimum m.maximum) (are_at_most (most_pages m) m.minimum m.maximum) (ap (λ log. are_at_most (most_of m.is_64 log) m.minimum m.maximum) (same_log m.page_size_log2))
    (small (most_pages m) m.minimum m.maximum)

record MemoryParts (F : Features) (m : Memory) : Type 0 where
  parts : ((((IfSome m.maximum (λ n. m.minimum ≤ n) × (IsTrue m.is_64 → IsTrue F.memory64)) × (IsTrue m.shared → IsTrue F.threads))
      × ((IsTrue (is_some m.page_size_log2) → IsTrue F.custom_page_sizes) × IfSome m.page_size_log2 (λ n. n ≤ 16)))
      × ((m.minimum ≤ most_pages m) × IfSome m.maximum (λ n. n ≤ most_pages m)))
      × (IsTrue m.shared → IsTrue (is_some m.maximum))

from_memory : (F : Features) (m : Memory) → MemoryParts F m → IsValidMemory F m
from_memory F m q = let p = q.parts in record {
  minimum_at_most_maximum = p.0.0.0.0.0;
  of_64_bits_needs_memory64 = p.0.0.0.0.1;
  shared_needs_threads = p.0.0.0.1;
  shared_has_maximum = p.1;
  page_size_needs_custom_page_sizes = p.0.0.1.0;
  page_is_of_at_most_65536_bytes = p.0.0.1.1;
  minimum_is_small = p.0.1.0;
  maximum_is_small = p.0.1.1;
}

pub memories_are_decided : MemoriesAreDecided
memories_are_decided F m =
    let ordering : Bool = are_ordered m.minimum m.maximum in
    let wide : Bool = implies m.is_64 F.memory64 in
    let sharing : Bool = implies m.shared F.threads in
    let page : Bool = is_allowed_page F m.page_size_log2 in
    let most = most_of m.is_64 (log_of m.page_size_log2) in
    let sizes : Bool = are_at_most most m.minimum m.maximum in
    let bounded : Bool = implies m.shared (is_some m.maximum) in
    Decides-like (ordering && wide && sharing && page && sizes && bounded)
    (λ p. from_memory F m (record { parts = p }))
    (λ (v : IsValidMemory F m).
    (((((v.minimum_at_most_maximum, v.of_64_bits_needs_memory64), v.shared_needs_threads), (v.page_size_needs_custom_page_sizes, v.page_is_of_at_most_65536_bytes)), (v.minimum_is_small, v.maximum_is_small)), v.shared_has_maximum))
    (Decides-and (ordering && wide && sharing && page && sizes) bounded
    (Decides-and (ordering && wide && sharing && page) sizes
    (Decides-and (ordering && wide && sharing) page
    (Decides-and (ordering && wide) sharing
    (Decides-and ordering wide (ordered m.minimum m.maximum) (where_true m.is_64 F.memory64))
    (where_true m.shared F.threads))
    (page_decided F m.page_size_log2))
    (small_pages m))
    (where_true m.shared (is_some m.maximum)))

-- function types
arity_of_signature : (types : List DefType) (x : ℕ) → arity_at types x ≡ option_map arity (signature_at types x)
arity_of_signature [] x = refl
arity_of_signature (d ∷ ds) zero = refl
arity_of_signature (d ∷ ds) (suc x) = arity_of_signature ds x

some_mapped : {X Y : Type 0} (f : X → Y) (o : Option X) → is_some (option_map f o) ≡ is_some o
some_mapped f None = refl
some_mapped f (Some x) = refl

pub arities_are_kept : AritiesAreKept
arities_are_kept c us ids types s x = arity_kept c us ids types s x

function_kept : (c : Bool) (us : List DefType) (ids : List ℕ) (types : List DefType) → Stand c us ids types → (x : ℕ) → is_function (types_at us ids) x ≡ is_some (signature_at types x)
function_kept c us ids types s x = ap is_some (arity_kept c us ids types s x) ∙ ap is_some (arity_of_signature types x) ∙ some_mapped arity (signature_at types x)

pub functions_are_decided : FunctionsAreDecided
functions_are_decided c us ids types s x = Decides-at (is_function (types_at us ids) x) (is_some (signature_at types x)) (function_kept c us ids types s x) (itself (is_some (signature_at types x)))

-- tags
results_decided : {X : Type 0} (F : Features) (o : Option (List X × List X))
    → Decides (allows_tag F (option_map (λ (t : List X × List X). (length t.0, length t.1)) o)) (IsTrue (is_some o) × IfSome o (λ t. IsTrue (nat_lt 0 (length t.1)) → IsTrue F.stack_switching))
results_decided F None = (λ e. absurd (let z : false ≡ true = e in cc), λ p. p.0)
results_decided F (Some t) =
    let d = where_true (nat_lt 0 (length t.1)) F.stack_switching in
    (λ e. (refl, d.0 e), λ p. d.1 p.1)

pub tags_are_decided : TagsAreDecided
tags_are_decided F c us ids types s x =
    let o = signature_at types x in
    let signed : Bool = allows_tag F (option_map arity o) in
    Decides-at (F.exceptions && allows_tag F (arity_at (types_at us ids) x)) (F.exceptions && signed) (ap (λ a. F.exceptions && allows_tag F a) (arity_kept c us ids types s x ∙ arity_of_signature types x))
    (Decides-like (F.exceptions && signed)
    (λ (p : IsTrue F.exceptions × (IsTrue (is_some o) × IfSome o (λ t. IsTrue (nat_lt 0 (length t.1)) → IsTrue F.stack_switching))).
    record { needs_exceptions = p.0; is_of_function_type = p.1.0; results_need_stack_switching = p.1.1 })
    (λ (v : IsValidTag F types x). (v.needs_exceptions, (v.is_of_function_type, v.results_need_stack_switching)))
    (Decides-and F.exceptions signed (itself F.exceptions) (results_decided F o)))

-- all kinds
pub tables_are_decided : TablesAreDecided
tables_are_decided F c us ids types s t = table_decided F c us ids types s t

null_without : {E : Type 0} (init : Option E) (nullable : Bool) → Decides (is_some init || nullable) (init ≡ None → IsTrue nullable)
null_without None nullable = (λ e _. e, λ f. f refl)
null_without (Some x) nullable = (λ _ e. absurd (let z : Some x ≡ None = e in cc), λ _. refl)

pub defined_tables_are_decided : DefinedTablesAreDecided
defined_tables_are_decided F c us ids types s t =
    let valid : Bool = is_valid_table F (types_at us ids) (map_table written t.ty) in
    let filled : Bool = is_some t.init || t.ty.element.nullable in
    let allowed : Bool = implies (is_some t.init) F.function_references in
    Decides-like (valid && filled && allowed)
    (λ (p : (IsValidTable F types t.ty × (t.init ≡ None → IsTrue t.ty.element.nullable)) × (IsTrue (is_some t.init) → IsTrue F.function_references)).
    record { ty = p.0.0; without_init_may_be_null = p.0.1; init_needs_function_references = p.1 })
    (λ (v : IsValidTableEntry F types t). ((v.ty, v.without_init_may_be_null), v.init_needs_function_references))
    (Decides-and (valid && filled) allowed
    (Decides-and valid filled (tables_are_decided F c us ids types s t.ty) (null_without t.init t.ty.element.nullable))
    (where_true (is_some t.init) F.function_references))

pub globals_are_decided : GlobalsAreDecided
globals_are_decided F c us ids types s g = global_decided F c us ids types s g

-- what is not a global may be imported where it is valid
and_true : {P : Type 0} (b : Bool) → Decides b P → Decides (b && true) P
and_true true d = d
and_true false d = d

pub externs_are_decided : ExternsAreDecided
externs_are_decided F c us ids types s (func_extern x) = and_true (is_function (types_at us ids) x) (functions_are_decided c us ids types s x)
externs_are_decided F c us ids types s (func_exact_extern x) =
    let f : Bool = is_function (types_at us ids) x in
    and_true (F.custom_descriptors && f)
    (Decides-like (F.custom_descriptors && f) (λ (p : IsTrue F.custom_descriptors × IsFunctionType types x). (p.1, p.0)) (λ p. (p.1, p.0))
    (Decides-and F.custom_descriptors f (itself F.custom_descriptors) (functions_are_decided c us ids types s x)))
externs_are_decided F c us ids types s (table_extern t) = and_true (is_valid_table F (types_at us ids) (map_table written t)) (tables_are_decided F c us ids types s t)
externs_are_decided F c us ids types s (memory_extern m) = and_true (is_valid_memory F m) (memories_are_decided F m)
externs_are_decided F c us ids types s (global_extern g) =
    Decides-and (is_valid_global F (types_at us ids) (map_global written g)) (is_movable_global F (map_global written g)) (globals_are_decided F c us ids types s g) (where_true g.mutable F.mutable_global)
externs_are_decided F c us ids types s (tag_extern x) = and_true (is_valid_tag F (types_at us ids) x) (tags_are_decided F c us ids types s x)
