-- Imports, added one after another, are accepted exactly where they are valid, and then the state shows them.
use Rattle.std.proofs.Common.{◌≡◌, refl, sym, ap, subst, ◌∙◌, ℕ, ◌+◌, ◌≤◌, ◌<◌, Bool, true, false, ◌&&◌, cond, ltb, List, [], ◌∷◌, ◌++◌, map, length, Some, None, arith, append_assoc, append-nil, length-append}
use Rattle.std.specs.Option.{option_map, option_and_then}
use Rattle.std.specs.Bool.{Decides}
use Rattle.std.proofs.lemmas.Bool.Decides.{Decides-ltb}
use Rattle.std.proofs.lemmas.Grind.{flat_map-append}
use Rattle.std.proofs.lemmas.List.{map-append, length-map}
use Rattle.std.proofs.lemmas.List.Elements.{All-nil, All-cons, All-append}
use Rattle.wasm_spec.specs.Syntax.{Extern, func_extern, func_exact_extern, table_extern, memory_extern, global_extern, tag_extern, map_extern}
use Rattle.wasm_spec.specs.BinaryModules.{Import, map_import}
use Rattle.wasm_spec.specs.Features.{Features, canonical}
use Rattle.wasm_spec.specs.Trees.{DefType}
use Rattle.wasm_spec.proofs.SyntaxMaps.{map_table-map, map_global-map}
use Rattle.wasm_spec_rules.specs.IndexSpaces.{imported, functions_in, tables_in, memories_in, globals_in, tags_in}
use Rattle.wasm_spec_rules.specs.Contexts.{exact_in}
use Rattle.wasm_spec_rules.specs.Limits.{most_tables, most_memories, size_limit}
use Rattle.wasm_spec_rules.specs.LinkRules.{IsValidExtern, IsValidImport, extern_size, import_size, sum}
use Rattle.wasm_spec_rules.proofs.Verdicts.{Verdict, then_verdict, if_verdict, verdict_as, verdict_to, verdict_of, always}
use Rattle.wasm_validator_core.specs.WasmValidatorCanonical.Groups.{types_at}
use Rattle.wasm_validator_core.specs.WasmValidatorCanonical.Indices.{canonical_index}
use Rattle.wasm_validator_core.specs.WasmValidatorCanonical.Sections.{written}
use Rattle.wasm_validator_core.specs.WasmValidatorChecks.Items.{is_importable}
use Rattle.wasm_validator_core.specs.WasmValidatorChecks.Laws.{Stand}
use Rattle.wasm_validator_core.proofs.WasmValidatorChecks.ItemTests.{externs_are_decided}
use Rattle.wasm_validator_types.specs.Spaces.{Spaces, with_import}
use Rattle.wasm_validator_types.specs.Entities.{Entity}
use Rattle.wasm_validator_core.specs.Items as machine
use Rattle.wasm_validator_core.specs.Items.{entity_size, grown, with_imported, with_named, is_short, add_importing, add_import}
use Rattle.wasm_laws_core.specs.ModuleParts.{entity_in, listed_table, listed_global, spaces_of}
use Rattle.wasm_laws_core.specs.Lists.{only_types, only_imports, add_imports}
use Rattle.wasm_laws_core.specs.Laws.{AreValidImports, ImportsAreAdded}
use Rattle.wasm_laws_core.specs.Imports.{RoomIn, FitsImport, with_kind, with_entry, OneImportIsAdded}
use Rattle.wasm_laws_core.proofs.Steps.{if_map, passed, law_of_verdict, names_decided}
use Rattle.wasm_laws_core.proofs.Fronts.{All-front, All-last}
use Rattle.wasm_laws_core.proofs.Sizes.{valid_typed, entity_size_is}
use Rattle.wasm_laws_core.proofs.ImportLimits.{has_room, room_decided}
use Rattle.wasm_laws_core.proofs.ImportRows.{rows-push}

plus_zero : (n : ℕ) → n + 0 ≡ n
plus_zero n = omega arith

zero_at_most : (n : ℕ) → 0 ≤ n
zero_at_most n = omega arith

-- what one more import adds to what all add
module _ {X : Type 0} (adds : Extern ℕ → List X) where
  pub one_more : (done : List (Import ℕ)) (i : Import ℕ) → imported adds (done ++ i ∷ []) ≡ imported adds done ++ adds i.ty
  one_more done i = flat_map-append (λ (j : Import ℕ). adds j.ty) done (i ∷ []) ∙ ap (λ xs. imported adds done ++ xs) (append-nil (adds i.ty))

  pub before_none : (done : List (Import ℕ)) (i : Import ℕ) → (imported adds done ++ []) ++ adds i.ty ≡ imported adds (done ++ i ∷ []) ++ []
  before_none done i = ap (λ xs. xs ++ adds i.ty) (append-nil (imported adds done)) ∙ sym (one_more done i) ∙ sym (append-nil (imported adds (done ++ i ∷ [])))

  pub mapped_before : {Y : Type 0} (f : X → Y) (done : List (Import ℕ)) (i : Import ℕ) → map f (imported adds done ++ []) ++ map f (adds i.ty) ≡ map f (imported adds (done ++ i ∷ []) ++ [])
  mapped_before f done i = sym (map-append f (imported adds done ++ []) (adds i.ty)) ∙ ap (map f) (before_none done i)

  pub count_more : (front back : List (Import ℕ)) → length (imported adds (front ++ back)) ≡ length (imported adds front) + length (imported adds back)
  count_more front back = ap length (flat_map-append (λ (j : Import ℕ). adds j.ty) front back) ∙ length-append (imported adds front) (imported adds back)

  pub count_one : (done : List (Import ℕ)) (i : Import ℕ) → length (imported adds (done ++ i ∷ [])) ≡ length (imported adds done) + length (adds i.ty)
  count_one done i = ap length (one_more done i) ∙ length-append (imported adds done) (adds i.ty)

pub sum-append : (xs ys : List ℕ) → sum (xs ++ ys) ≡ sum xs + sum ys
sum-append [] ys = omega arith
sum-append (x ∷ xs) ys = let h = sum-append xs ys in omega (arith, h)

-- an external type as the list of types has it
entity_is : (s : Spaces) (x : Extern ℕ) → machine.entity s (machine.listed s (map_extern written x)) ≡ entity_in s.types x
entity_is s (func_extern x) = refl
entity_is s (func_exact_extern x) = refl
entity_is s (table_extern t) = ap table_extern (map_table-map (canonical_index s.types) written t)
entity_is s (memory_extern m) = refl
entity_is s (global_extern g) = ap global_extern (map_global-map (canonical_index s.types) written g)
entity_is s (tag_extern x) = refl

module _ (F : Features) (s : Spaces) where
  abbrev room_in : Extern ℕ → Bool
  room_in x = has_room F (length s.functions) (length s.tables) (length s.memories) (length s.globals) (length s.tags) x

  -- the machine's step into an index space is its test of room
  imported_is : (x : Extern ℕ) → with_imported F s (machine.listed s (map_extern written x)) ≡ cond (room_in x) (Some (with_kind s x)) None
  imported_is (func_extern x) =
      if_map (machine.noted_function false) (room_in (func_extern x)) (record s { functions = s.functions ++ x ∷ [] })
      ∙ (λ i. cond (room_in (func_extern x)) (Some (record (with_kind s (func_extern x)) {
        tables = sym (append-nil s.tables) i;
        memories = sym (append-nil s.memories) i;
        globals = sym (append-nil s.globals) i;
        imported_globals = sym (plus_zero s.imported_globals) i;
        tags = sym (append-nil s.tags) i;
      })) None)
  imported_is (func_exact_extern x) =
      if_map (machine.noted_function true) (room_in (func_exact_extern x)) (record s { functions = s.functions ++ x ∷ [] })
      ∙ (λ i. cond (room_in (func_exact_extern x)) (Some (record (with_kind s (func_exact_extern x)) {
        tables = sym (append-nil s.tables) i;
        memories = sym (append-nil s.memories) i;
        globals = sym (append-nil s.globals) i;
        imported_globals = sym (plus_zero s.imported_globals) i;
        tags = sym (append-nil s.tags) i;
      })) None)
  imported_is (table_extern t) = λ i. cond (room_in (table_extern t)) (Some (record (with_kind s (table_extern t)) {
    functions = sym (append-nil s.functions) i;
    imported_functions = sym (append-nil s.imported_functions) i;
    tables = s.tables ++ map_table-map (canonical_index s.types) written t i ∷ [];
    memories = sym (append-nil s.memories) i;
    globals = sym (append-nil s.globals) i;
    imported_globals = sym (plus_zero s.imported_globals) i;
    tags = sym (append-nil s.tags) i;
  })) None
  imported_is (memory_extern m) = λ i. cond (room_in (memory_extern m)) (Some (record (with_kind s (memory_extern m)) {
    functions = sym (append-nil s.functions) i;
    imported_functions = sym (append-nil s.imported_functions) i;
    tables = sym (append-nil s.tables) i;
    globals = sym (append-nil s.globals) i;
    imported_globals = sym (plus_zero s.imported_globals) i;
    tags = sym (append-nil s.tags) i;
  })) None
  imported_is (global_extern g) = λ i. cond (room_in (global_extern g)) (Some (record (with_kind s (global_extern g)) {
    functions = sym (append-nil s.functions) i;
    imported_functions = sym (append-nil s.imported_functions) i;
    tables = sym (append-nil s.tables) i;
    memories = sym (append-nil s.memories) i;
    globals = s.globals ++ map_global-map (canonical_index s.types) written g i ∷ [];
    tags = sym (append-nil s.tags) i;
  })) None
  imported_is (tag_extern x) = λ i. cond (room_in (tag_extern x)) (Some (record (with_kind s (tag_extern x)) {
    functions = sym (append-nil s.functions) i;
    imported_functions = sym (append-nil s.imported_functions) i;
    tables = sym (append-nil s.tables) i;
    memories = sym (append-nil s.memories) i;
    globals = sym (append-nil s.globals) i;
    imported_globals = sym (plus_zero s.imported_globals) i;
  })) None

module _ (F : Features) (us : List DefType) (ids : List ℕ) (types : List DefType) (stand : Stand (canonical F) us ids types) where
  abbrev state : List (Import ℕ) → Spaces
  state done = spaces_of F types ids (only_imports done)

  abbrev type_of : Import ℕ → Extern ℕ
  type_of i = i.ty

  -- an import, with its names and size
  abbrev entered : Spaces → Import ℕ → Spaces
  entered s i = with_entry ids types s i

  size_more : (done : List (Import ℕ)) (i : Import ℕ) → sum (map (import_size types) (done ++ i ∷ [])) ≡ sum (map (import_size types) done) + extern_size types i.ty
  size_more done i =
      let h : sum (map (import_size types) done ++ extern_size types i.ty ∷ []) ≡ sum (map (import_size types) done) + (extern_size types i.ty + 0) = sum-append (map (import_size types) done) (extern_size types i.ty ∷ []) in
      ap sum (map-append (import_size types) done (i ∷ [])) ∙ h ∙ ap (λ n. sum (map (import_size types) done) + n) (plus_zero (extern_size types i.ty))

  size_moved : (a b c : ℕ) → c ≡ a + b → (1 + (a + 0)) + b ≡ 1 + (c + 0)
  size_moved a b c e = omega (arith, e)

  -- this is the state of the imports with one more
  entry_is : (done : List (Import ℕ)) (i : Import ℕ) → entered (state done) i ≡ state (done ++ i ∷ [])
  entry_is done i = λ j. record {
    types = ids;
    functions = before_none functions_in done i j;
    imported_functions = sym (one_more exact_in done i) j;
    tables = mapped_before tables_in (listed_table ids) done i j;
    memories = before_none memories_in done i j;
    globals = mapped_before globals_in (listed_global ids) done i j;
    imported_globals = sym (count_one globals_in done i) j;
    tags = before_none tags_in done i j;
    elements = [];
    imports = rows-push ids done i j;
    exports = [];
    size = size_moved (sum (map (import_size types) done)) (extern_size types i.ty) (sum (map (import_size types) (done ++ i ∷ []))) (size_more done i) j;
  }

  -- the names and the size of an import in its index space
  named_verdict : (s : Spaces) → s.types ≡ ids → (i : Import ℕ) → IsValidExtern F types i.ty
      → Verdict (s.size + extern_size types i.ty < size_limit) (with_named us (map_import written i) (machine.entity s (machine.listed s (map_extern written i.ty))) (with_kind s i.ty)) (entered s i)
  named_verdict s same i valid =
      let more : ℕ = extern_size types i.ty in
      let entry : Entity → ℕ → Spaces = λ e size. record (with_kind s i.ty) { imports = with_import s.imports i.module_name i.item_name e; size = size } in
      let is : machine.entity s (machine.listed s (map_extern written i.ty)) ≡ entity_in ids i.ty = entity_is s i.ty ∙ ap (λ js. entity_in js i.ty) same in
      verdict_of
      _
      _
      (entered s i)
      ((λ j. option_map (entry (is j)) (grown s.size (entity_size us (is j))))
      ∙ ap (λ n. option_map (entry (entity_in ids i.ty)) (grown s.size n)) (entity_size_is (canonical F) us ids types stand i.ty (valid_typed F types i.ty valid))
      ∙ if_map (entry (entity_in ids i.ty)) (ltb (s.size + more) size_limit) (s.size + more))
      (passed (ltb (s.size + more) size_limit) (entered s i) (Decides-ltb (s.size + more) size_limit))

  -- an import fits behind others
  abbrev Room : Spaces → Extern ℕ → Type 0
  Room s x = RoomIn F s x

  abbrev Fits : Spaces → Import ℕ → Type 0
  Fits s i = FitsImport F types s i

  step_verdict : (s : Spaces) → s.types ≡ ids → (i : Import ℕ) → Decides (room_in F s i.ty) (Room s i.ty) → Verdict (Fits s i) (add_import F us s (map_import written i)) (entered s i)
  step_verdict s same i room =
      let x = i.ty in
      let entity = machine.entity s (machine.listed s (map_extern written x)) in
      let decided : Decides (is_importable F (types_at us s.types) (map_extern written x)) (IsValidExtern F types x) =
      subst (λ js. Decides (is_importable F (types_at us js) (map_extern written x)) (IsValidExtern F types x)) (sym same) (externs_are_decided F (canonical F) us ids types stand x) in
      let placed : Verdict (Room s x) (with_imported F s (machine.listed s (map_extern written x))) (with_kind s x) =
      verdict_of _ _ (with_kind s x) (imported_is F s x) (passed (room_in F s x) (with_kind s x) room) in
      let importing : Verdict (IsValidExtern F types x × (Room s x × (s.size + extern_size types x < size_limit))) (add_importing F us s (map_import written i)) (entered s i) =
      if_verdict
      (is_importable F (types_at us s.types) (map_extern written x))
      (option_and_then (with_named us (map_import written i) entity) (with_imported F s (machine.listed s (map_extern written x))))
      (entered s i)
      decided
      (λ valid. then_verdict (with_imported F s (machine.listed s (map_extern written x))) (with_kind s x) (with_named us (map_import written i) entity) (entered s i) placed (λ r. named_verdict s same i valid)) in
      verdict_as
      _
      (entered s i)
      (λ h. (record { item = h.1.0; module_name = h.0.0; item_name = h.0.1 }, h.1.1))
      (λ h. ((h.0.module_name, h.0.item_name), (h.0.item, h.1)))
      (if_verdict (is_short F i.module_name && is_short F i.item_name) (add_importing F us s (map_import written i)) (entered s i) (names_decided F i.module_name i.item_name) (λ names. importing))

  abbrev Valid : List (Import ℕ) → Type 0
  Valid is = AreValidImports F types is

  abbrev size_of : List (Import ℕ) → ℕ
  size_of is = sum (map (import_size types) is)

  -- imports without those behind them
  front_valid : (front back : List (Import ℕ)) → Valid (front ++ back) → Valid front
  front_valid front back v =
      let size : 1 + (size_of (front ++ back) + 0) < size_limit = v.size in
      let sizes : size_of (front ++ back) ≡ size_of front + size_of back = ap sum (map-append (import_size types) front back) ∙ sum-append (map (import_size types) front) (map (import_size types) back) in
      let small : 1 + (size_of front + 0) < size_limit = omega (arith, size, sizes) in
      let functions = v.few_functions in
      let tables = v.few_tables in
      let memories = v.few_memories in
      let globals = v.few_globals in
      let tags = v.few_tags in
      let f = count_more functions_in front back in
      let t = count_more tables_in front back in
      let m = count_more memories_in front back in
      let g = count_more globals_in front back in
      let e = count_more tags_in front back in
      record {
        valid = All-front (IsValidImport F types) front back v.valid;
        size = small;
        few_functions = omega (arith, functions, f);
        few_tables = omega (arith, tables, t);
        few_memories = omega (arith, memories, m);
        few_globals = omega (arith, globals, g);
        few_tags = omega (arith, tags, e);
      }

  -- how many of each kind the state has
  count_in : {X : Type 0} (adds : Extern ℕ → List X) (is : List (Import ℕ)) → length (imported adds is ++ []) ≡ length (imported adds is)
  count_in adds is = ap length (append-nil (imported adds is))

  count_mapped : {X Y : Type 0} (f : X → Y) (adds : Extern ℕ → List X) (is : List (Import ℕ)) → length (map f (imported adds is ++ [])) ≡ length (imported adds is)
  count_mapped f adds is = length-map (imported adds is ++ []) f ∙ count_in adds is

  -- one more valid import fits
  valid_fits : (done : List (Import ℕ)) (i : Import ℕ) → Valid (done ++ i ∷ []) → Fits (state done) i
  valid_fits done i v =
      let size : 1 + (size_of (done ++ i ∷ []) + 0) < size_limit = v.size in
      let sizes = size_more done i in
      let small : (1 + (size_of done + 0)) + extern_size types i.ty < size_limit = omega (arith, size, sizes) in
      let functions = v.few_functions in
      let tables = v.few_tables in
      let memories = v.few_memories in
      let globals = v.few_globals in
      let tags = v.few_tags in
      let f = count_one functions_in done i in
      let t = count_one tables_in done i in
      let m = count_one memories_in done i in
      let g = count_one globals_in done i in
      let e = count_one tags_in done i in
      let fs = count_in functions_in done in
      let ts = count_mapped (listed_table ids) tables_in done in
      let ms = count_in memories_in done in
      let gs = count_mapped (listed_global ids) globals_in done in
      let es = count_in tags_in done in (
        All-last (IsValidImport F types) done i v.valid,
        (
          record {
            few_functions = omega (arith, functions, f, fs);
            few_tables = omega (arith, tables, t, ts);
            few_memories = omega (arith, memories, m, ms);
            few_globals = omega (arith, globals, g, gs);
            few_tags = omega (arith, tags, e, es);
          },
          small,
        ),
      )

  -- and one that fits is valid behind valid ones
  fitting_valid : (done : List (Import ℕ)) (i : Import ℕ) → Valid done → Fits (state done) i → Valid (done ++ i ∷ [])
  fitting_valid done i v h =
      let size : (1 + (size_of done + 0)) + extern_size types i.ty < size_limit = h.1.1 in
      let sizes = size_more done i in
      let small : 1 + (size_of (done ++ i ∷ []) + 0) < size_limit = omega (arith, size, sizes) in
      let room : Room (state done) i.ty = h.1.0 in
      let functions = room.few_functions in
      let tables = room.few_tables in
      let memories = room.few_memories in
      let globals = room.few_globals in
      let tags = room.few_tags in
      let f = count_one functions_in done i in
      let t = count_one tables_in done i in
      let m = count_one memories_in done i in
      let g = count_one globals_in done i in
      let e = count_one tags_in done i in
      let fs = count_in functions_in done in
      let ts = count_mapped (listed_table ids) tables_in done in
      let ms = count_in memories_in done in
      let gs = count_mapped (listed_global ids) globals_in done in
      let es = count_in tags_in done in
      record {
        valid = All-append (IsValidImport F types) done (i ∷ []) v.valid (All-cons (IsValidImport F types) i [] h.0 (All-nil (IsValidImport F types)));
        size = small;
        few_functions = omega (arith, functions, f, fs);
        few_tables = omega (arith, tables, t, ts);
        few_memories = omega (arith, memories, m, ms);
        few_globals = omega (arith, globals, g, gs);
        few_tags = omega (arith, tags, e, es);
      }

  room_behind : (done : List (Import ℕ)) (x : Extern ℕ) → Valid done → Decides (room_in F (state done) x) (Room (state done) x)
  room_behind done x v =
      let s = state done in
      let functions = v.few_functions in
      let tables = v.few_tables in
      let memories = v.few_memories in
      let globals = v.few_globals in
      let tags = v.few_tags in
      let fs = count_in functions_in done in
      let ts = count_mapped (listed_table ids) tables_in done in
      let ms = count_in memories_in done in
      let gs = count_mapped (listed_global ids) globals_in done in
      let es = count_in tags_in done in
      room_decided
      F
      (length s.functions)
      (length s.tables)
      (length s.memories)
      (length s.globals)
      (length s.tags)
      (omega (arith, functions, fs))
      (omega (arith, tables, ts))
      (omega (arith, memories, ms))
      (omega (arith, globals, gs))
      (omega (arith, tags, es))
      x

  one_added : (done : List (Import ℕ)) (i : Import ℕ) → Valid done → Verdict (Valid (done ++ i ∷ [])) (add_import F us (state done) (map_import written i)) (state (done ++ i ∷ []))
  one_added done i v =
      let o = add_import F us (state done) (map_import written i) in
      verdict_to o (entered (state done) i) (state (done ++ i ∷ [])) (entry_is done i)
      (verdict_as o (entered (state done) i) (fitting_valid done i v) (valid_fits done i) (step_verdict (state done) refl i (room_behind done i.ty v)))

  -- imports behind valid ones
  pub all_added : (is done : List (Import ℕ)) → Valid done → Verdict (Valid (done ++ is)) (add_imports F us (state done) is) (state (done ++ is))
  all_added [] done v =
      let same = sym (append-nil done) in
      verdict_to (Some (state done)) (state done) (state (done ++ [])) (ap state same) (always (state done) (subst (λ js. Valid js) same v))
  all_added (i ∷ is) done v =
      let next = done ++ i ∷ [] in
      let same : next ++ is ≡ done ++ i ∷ is = append_assoc done (i ∷ []) is in
      let o = add_imports F us (state done) (i ∷ is) in
      let both = then_verdict (add_import F us (state done) (map_import written i)) (state next) (λ s. add_imports F us s is) (state (next ++ is)) (one_added done i v) (all_added is next) in
      verdict_to o (state (next ++ is)) (state (done ++ i ∷ is)) (ap state same)
      (verdict_as o (state (next ++ is)) (λ p. subst (λ js. Valid js) same p.1) (λ w. let u = subst (λ js. Valid js) (sym same) w in (front_valid next is u, u)) both)

  none_valid : Valid []
  none_valid = record {
    valid = All-nil (IsValidImport F types);
    size = omega arith;
    few_functions = omega arith;
    few_tables = zero_at_most (most_tables F);
    few_memories = zero_at_most (most_memories F);
    few_globals = omega arith;
    few_tags = omega arith;
  }

pub imports_are_added : ImportsAreAdded
imports_are_added F us ids types stand is t =
    law_of_verdict (add_imports F us (only_types ids) is) (spaces_of F types ids (only_imports is))
    (all_added F us ids types stand is [] (none_valid F us ids types stand)) t

-- one behind any lists
pub one_import_is_added : OneImportIsAdded
one_import_is_added F us ids types stand s same few i t =
    let room = room_decided F (length s.functions) (length s.tables) (length s.memories) (length s.globals) (length s.tags) few.few_functions few.few_tables few.few_memories few.few_globals few.few_tags i.ty in
    law_of_verdict (add_import F us s (map_import written i)) (with_entry ids types s i) (step_verdict F us ids types stand s same i room) t
