-- The worked examples of modules.
use Rattle.std.proofs.Common.{◌≡◌, refl, sym, ap, ◌∙◌, arith, ℕ, zero, suc, ◌≤◌, ◌<◌, true, false, List, [], ◌∷◌, map, length, drop, slice_get, slice_index, Some, None}
use Rattle.std.proofs.lemmas.List.Elements.{All-nil, All-cons}
use Rattle.std.proofs.lemmas.Map.Keys.{IsDistinct-head}
use Rattle.std.specs.Option.{option_map, option_and_then}
use Rattle.std.specs.Cmp.Lexicographic.{nat_list_eq_equiv}
use Rattle.std.proofs.lemmas.Map.Made.{IsDistinct-from_count}
use Rattle.std.proofs.lemmas.Option.{same_Some}
use Rattle.std.specs.Str.{is_utf8}
use Rattle.std.proofs.lemmas.Str.{is_utf8-from_IsUtf8, IsUtf8-from_ascii}
use Rattle.wasm_readers_errors.specs.WasmSpec.Syntax.{Val, i32, Sub, map_sub, Table}
use Rattle.wasm_readers_errors.specs.WasmSpec.BinaryModules.{extern_at, import_at, entry_at}
use Rattle.wasm_readers_errors.specs.WasmSpec.BinarySections.{GlobalEntry}
use Rattle.wasm_readers_errors.specs.WasmSpec.Closing.{resolve}
use Rattle.wasm_readers_errors.specs.WasmSpec.GroupRules.{IsValidType}
use Rattle.wasm_readers_errors.specs.WasmSpec.Matching.{itself}
use Rattle.wasm_readers_errors.proofs.WasmSpec.ReferenceNumbers.{members-close}
use Rattle.wasm_readers_errors.specs.WasmSpec.Framing.{Piece, Version, Counted, DataCount, End, u16_at}
use Rattle.wasm_spec_rules.specs.Parts.{Parts, Expression}
use Rattle.wasm_spec_rules.specs.IndexSpaces.{IndexSpaces, IsFunctionType, signature, signature_at}
use Rattle.wasm_spec_rules.specs.ItemRules.{IsValidTableEntry, IsValidMemory, IsValidTag, IsValidGlobal}
use Rattle.wasm_spec_rules.specs.LinkRules.{IsValidImport, IsValidExport, IsValidStart}
use Rattle.wasm_spec_rules.specs.SegmentRules.{IsValidElement, IsValidData}
use Rattle.wasm_spec_rules.specs.Modules.{IsAllowedPiece}
use Rattle.wasm_readers_errors.specs.WasmSpec.Trees.{TypeUse, DefType, close, denote, declared}
use Rattle.wasm_spec_rules.specs.ModuleExamples.{TableOfOneOrTwo, NoTableOfTwoToOne, NoTableWithoutEntries, MemoryOfAllAddresses, NoMemoryPastAllAddresses, MemoryOfSmallPages, NoMemoryPastSmallPages, NoMemoryOfLargerPages, NoSharedGlobal, NoTagWithoutExceptions, NoMutableImport, MemoryIsExported, NoSecondMemory, NoNameTwice, SizeIsThree, NoPassiveElements, NoWrittenElements, OffsetsReference, NoPassiveData, NoTwoMemories, HeaderIsModule, NoVersionTwo, NoStartWithParameter, EntryOfOneTypeIsTwo, EntryWithTypesIsTwo, NoEntryIsTwo, EachKindIsExported, NoDeclaredElements, FunctionsGoToTable, NoNullGoesToTable, AllExpressionsReference, OwnFunctionsAreExact, ImportsStandFirst, SignatureCountsAsFive, FunctionsAreReferenced, NoSharedMemoryWithoutMaximum, NoMemoryOfTwoToOne, NoMemoryToPastAllAddresses, NoMemoryOf64BitsWithoutMemory64, NoInitWithoutFunctionReferences, NoTablePast32Bits, SectionsNeedFeatures, NoMillionAndOneEntries, first_version, taking_type}
use Rattle.wasm_spec_rules.specs.Limits.{most_imports, most_segments, most_body_bytes}

pub table_of_one_or_two : TableOfOneOrTwo
table_of_one_or_two = record {
  element = record { allowed = λ h. absurd (h refl); in_range = All-nil (λ x. x < 0) };
  minimum_at_most_maximum = omega arith;
  of_64_bits_needs_memory64 = λ h. absurd cc;
  shared_needs_shared_everything_threads = λ h. absurd cc;
  shared_has_shared_elements = λ h. absurd cc;
  minimum_is_small = omega arith;
  maximum_is_small = omega arith;
}

pub no_table_of_two_to_one : NoTableOfTwoToOne
no_table_of_two_to_one v = let h : 2 ≤ 1 = v.minimum_at_most_maximum in omega (arith, h)

pub no_table_without_entries : NoTableWithoutEntries
no_table_without_entries F v = let h : false ≡ true = v.without_init_may_be_null refl in cc

pub memory_of_all_addresses : MemoryOfAllAddresses
memory_of_all_addresses = record {
  minimum_at_most_maximum = tt;
  of_64_bits_needs_memory64 = λ h. absurd cc;
  shared_needs_threads = λ h. absurd cc;
  shared_has_maximum = λ h. absurd cc;
  page_size_needs_custom_page_sizes = λ h. absurd cc;
  page_is_of_at_most_65536_bytes = tt;
  minimum_is_small = omega arith;
  maximum_is_small = tt;
}

pub no_memory_past_all_addresses : NoMemoryPastAllAddresses
no_memory_past_all_addresses F v = let h : 65537 ≤ 65536 = v.minimum_is_small in omega (arith, h)

pub memory_of_small_pages : MemoryOfSmallPages
memory_of_small_pages = record {
  minimum_at_most_maximum = tt;
  of_64_bits_needs_memory64 = λ h. absurd cc;
  shared_needs_threads = λ h. absurd cc;
  shared_has_maximum = λ h. absurd cc;
  page_size_needs_custom_page_sizes = λ h. refl;
  page_is_of_at_most_65536_bytes = omega arith;
  minimum_is_small = omega arith;
  maximum_is_small = tt;
}

pub no_memory_past_small_pages : NoMemoryPastSmallPages
no_memory_past_small_pages F v = let h : 1048577 ≤ 1048576 = v.minimum_is_small in omega (arith, h)

pub no_memory_of_larger_pages : NoMemoryOfLargerPages
no_memory_of_larger_pages F v = let h : 17 ≤ 16 = v.page_is_of_at_most_65536_bytes in omega (arith, h)

pub no_shared_global : NoSharedGlobal
no_shared_global v = let h : false ≡ true = v.shared_needs_shared_everything_threads refl in cc

pub no_tag_without_exceptions : NoTagWithoutExceptions
no_tag_without_exceptions types x v = let h : false ≡ true = v.needs_exceptions in cc

pub no_mutable_import : NoMutableImport
no_mutable_import v = let h : false ≡ true = v.item.1 refl in cc

pub memory_is_exported : MemoryIsExported
memory_is_exported = record { item = _; exports = refl; movable = tt; name = λ h. absurd cc }

pub no_second_memory : NoSecondMemory
no_second_memory F v = let h : None ≡ Some v.item = v.exports in cc

pub no_name_twice : NoNameTwice
no_name_twice d = let h : true ≡ false = (IsDistinct-head _ (97 ∷ []) ((97 ∷ []) ∷ []) d).0 in cc

pub size_is_three : SizeIsThree
size_is_three = refl

pub no_written_elements : NoWrittenElements
no_written_elements C v = let h : false ≡ true = v.items.allowed in cc

pub offsets_reference : OffsetsReference
offsets_reference = refl

pub no_passive_elements : NoPassiveElements
no_passive_elements C v = let h : false ≡ true = v.mode in cc

pub each_kind_is_exported : EachKindIsExported
each_kind_is_exported = refl

pub no_declared_elements : NoDeclaredElements
no_declared_elements C v = let h : false ≡ true = v.mode in cc

pub functions_go_to_table : FunctionsGoToTable
functions_go_to_table = record { table = _; is_there = refl; matches = (λ n. refl, (refl, itself)) }

pub no_null_goes_to_table : NoNullGoesToTable
no_null_goes_to_table v =
    let same = same_Some _ v.table v.is_there in
    let h : v.table.element.nullable ≡ true = v.matches.0 refl in
    let never : false ≡ v.table.element.nullable = ap (λ (t : Table ℕ). t.element.nullable) same in
    let wrong : false ≡ true = never ∙ h in
    cc

pub all_expressions_reference : AllExpressionsReference
all_expressions_reference = refl

pub own_functions_are_exact : OwnFunctionsAreExact
own_functions_are_exact C = refl

pub no_passive_data : NoPassiveData
no_passive_data C v = let h : false ≡ true = v in cc

pub no_two_memories : NoTwoMemories
no_two_memories parts v = let h : 2 ≤ 1 = v.memories in omega (arith, h)

abbrev no_parts : Parts
no_parts = record { groups = []; imports = []; functions = []; tables = []; memories = []; tags = []; globals = []; exports = []; starts = []; elements = []; data_counts = []; bodies = []; segments = [] }

abbrev no_spaces : IndexSpaces
no_spaces = record { types = []; functions = []; tables = []; memories = []; globals = []; tags = [] }

-- no items, and no rules that they could break
pub header_is_module : HeaderIsModule
header_is_module expression_at = record {
  pieces = Version 1 0 ∷ End ∷ [];
  framed = record {
    numbered = 1 ∷ 0 ∷ 0 ∷ 0 ∷ [];
    number = 1;
    kinded = 0 ∷ 0 ∷ [];
    kind = 0;
    rest = [];
    sections = [];
    others = [];
    begins = refl;
    has_number = refl;
    has_kind = refl;
    known_kind = omega arith;
    frames = refl;
    in_order = tt;
    made = refl;
    all = refl;
    agree = refl;
  };
  first = refl;
  allowed = All-cons (IsAllowedPiece first_version) (Version 1 0) (End ∷ []) tt (All-cons (IsAllowedPiece first_version) End [] tt (All-nil (IsAllowedPiece first_version)));
  parts = no_parts;
  has_parts = record { groups = refl; imports = refl; functions = refl; tables = refl; memories = refl; globals = refl; exports = refl; starts = refl; elements = refl; bodies = refl; segments = refl; data_counts = refl; tags = refl };
  types = record { types = []; gives = refl; valid = All-nil (IsValidType first_version declared) };
  rules = record {
    imports = All-nil (IsValidImport first_version []);
    functions = All-nil (IsFunctionType []);
    tables = All-nil (IsValidTableEntry first_version []);
    memories = All-nil (IsValidMemory first_version);
    tags = All-nil (IsValidTag first_version []);
    globals = All-nil (λ (g : GlobalEntry Expression ℕ). IsValidGlobal first_version [] g.ty);
    exports = All-nil (IsValidExport first_version no_spaces);
    export_names = IsDistinct-from_count nat_list_eq_equiv [] refl;
    size = omega arith;
    starts = All-nil (IsValidStart no_spaces);
    elements = All-nil (IsValidElement first_version no_spaces);
    segments = All-nil (IsValidData first_version no_spaces);
    limits = record {
      groups = omega arith;
      types = omega arith;
      imports = omega arith;
      functions = omega arith;
      tables = omega arith;
      memories = omega arith;
      globals = omega arith;
      tags = omega arith;
      exports = omega arith;
      elements = omega arith;
      segments = omega arith;
      data_counts = All-nil (λ n. n ≤ most_segments);
      bodies = All-nil (λ (b : List ℕ). length b ≤ most_body_bytes);
    };
  };
}

number_of : (number kind : ℕ) → Some (Version number kind) ≡ Some (Version 1 0) → number ≡ 1
number_of number kind e = cc

read_number : (number : ℕ) (kinded : List ℕ) → u16_at (2 ∷ 0 ∷ 0 ∷ 0 ∷ []) ≡ Some (number, kinded) → number ≡ 2
read_number number kinded e =
    let read : ℕ × List ℕ = (2, 0 ∷ 0 ∷ []) in
    let given : ℕ × List ℕ = (number, kinded) in
    let pair : read ≡ given = same_Some read given e in
    λ i. (sym pair i).0

pub no_version_two : NoVersionTwo
no_version_two expression_at F v =
    let f = v.framed in
    let one : f.number ≡ 1 = number_of f.number f.kind (sym (ap (λ (ps : List Piece). slice_get ps 0) f.all) ∙ v.first) in
    let numbered : 2 ∷ 0 ∷ 0 ∷ 0 ∷ [] ≡ f.numbered = ap (drop 4) f.begins in
    let two : f.number ≡ 2 = read_number f.number f.kinded (ap u16_at numbered ∙ f.has_number) in
    omega (arith, one, two)

taking_signature : signature_at (record { tree = close (Some 0) (map (map_sub (resolve [])) taking_type.types); position = 0 } ∷ []) 0 ≡ Some (i32 ∷ [], [])
unfolding declared
taking_signature =
    let t = close (Some 0) (map (map_sub (resolve [])) taking_type.types) in
    ap (λ (g : List (Sub TypeUse)). option_and_then (λ (s : Sub DefType). signature s.comp) (option_map (map_sub (denote t)) (slice_get g 0))) (members-close (Some 0) (map (map_sub (resolve [])) taking_type.types))

parameters : (s t : List (Val DefType) × List (Val DefType)) → Some s ≡ Some t → s.0 ≡ t.0
parameters s t e = λ i. (same_Some s t e i).0

takes_some : (v : Val DefType) (vs : List (Val DefType)) → v ∷ vs ≡ [] → ⊥
takes_some v vs e = cc

pub no_start_with_parameter : NoStartWithParameter
no_start_with_parameter types e v =
    let ty : v.ty ≡ 0 = let h : Some 0 ≡ Some v.ty = v.is_there in sym cc in
    let same : record { tree = close (Some 0) (map (map_sub (resolve [])) taking_type.types); position = 0 } ∷ [] ≡ types = let h : Some (record { tree = close (Some 0) (map (map_sub (resolve [])) taking_type.types); position = 0 } ∷ []) ≡ Some types = e in cc in
    let has : signature_at types v.ty ≡ Some (i32 ∷ [], []) = (λ i. signature_at (sym same i) (ty i)) ∙ taking_signature in
    takes_some i32 [] (parameters (i32 ∷ [], []) ([], []) (sym has ∙ v.takes_and_gives_nothing))

-- the names in these entries are texts
below : (b : ℕ) → b < 128 → (i : ℕ) → slice_index (b ∷ []) i < 128
below b small zero = small
below b small (suc i) = omega arith

letter : (b : ℕ) → b < 128 → is_utf8 (b ∷ []) ≡ true
letter b small = is_utf8-from_IsUtf8 (b ∷ []) (IsUtf8-from_ascii (b ∷ []) (below b small))

nothing : is_utf8 [] ≡ true
nothing = is_utf8-from_IsUtf8 [] (IsUtf8-from_ascii [] (λ i. omega arith))

pub entry_of_one_type_is_two : EntryOfOneTypeIsTwo
unfolding entry_at extern_at
entry_of_one_type_is_two = rw (letter 0x6d (omega arith)) (rw nothing (rw (letter 0x61 (omega arith)) (rw (letter 0x62 (omega arith)) refl)))

pub entry_with_types_is_two : EntryWithTypesIsTwo
unfolding entry_at extern_at
entry_with_types_is_two = rw (letter 0x6d (omega arith)) (rw nothing (rw (letter 0x61 (omega arith)) (rw (letter 0x62 (omega arith)) refl)))

pub no_entry_is_two : NoEntryIsTwo
unfolding import_at extern_at
no_entry_is_two = (rw (letter 0x6d (omega arith)) (rw nothing refl), rw (letter 0x6d (omega arith)) (rw nothing refl))

pub imports_stand_first : ImportsStandFirst
imports_stand_first = refl

pub signature_counts_as_five : SignatureCountsAsFive
signature_counts_as_five = refl

pub functions_are_referenced : FunctionsAreReferenced
functions_are_referenced = refl

pub no_shared_memory_without_maximum : NoSharedMemoryWithoutMaximum
no_shared_memory_without_maximum F v = let h : false ≡ true = v.shared_has_maximum refl in cc

pub no_memory_of_two_to_one : NoMemoryOfTwoToOne
no_memory_of_two_to_one F v = let h : 2 ≤ 1 = v.minimum_at_most_maximum in omega (arith, h)

pub no_memory_to_past_all_addresses : NoMemoryToPastAllAddresses
no_memory_to_past_all_addresses F v = let h : 65537 ≤ 65536 = v.maximum_is_small in omega (arith, h)

pub no_memory_of_64_bits_without_memory64 : NoMemoryOf64BitsWithoutMemory64
no_memory_of_64_bits_without_memory64 v = let h : false ≡ true = v.of_64_bits_needs_memory64 refl in cc

pub no_init_without_function_references : NoInitWithoutFunctionReferences
no_init_without_function_references v = let h : false ≡ true = v.init_needs_function_references refl in cc

pub no_table_past_32_bits : NoTablePast32Bits
no_table_past_32_bits F v = let h : 4294967296 ≤ 4294967295 = v.minimum_is_small in omega (arith, h)

no_exceptions : IsAllowedPiece first_version (Counted 13 0 []) → ⊥
no_exceptions v = let h : false ≡ true = v.0 refl in cc

no_bulk_memory : IsAllowedPiece first_version (DataCount 0) → ⊥
no_bulk_memory v = let h : false ≡ true = v in cc

pub sections_need_features : SectionsNeedFeatures
sections_need_features = (no_exceptions, no_bulk_memory, λ F v. v)

pub no_million_and_one_entries : NoMillionAndOneEntries
no_million_and_one_entries F v = let h : 1000001 ≤ most_imports = v.1 refl in omega (arith, h)

pub ruleset examples = (table_of_one_or_two, no_table_of_two_to_one, no_table_without_entries, memory_of_all_addresses, no_memory_past_all_addresses, memory_of_small_pages, no_memory_past_small_pages, no_memory_of_larger_pages, no_shared_global, no_tag_without_exceptions, no_mutable_import, memory_is_exported, no_second_memory, no_name_twice, size_is_three, no_start_with_parameter, no_written_elements, offsets_reference, no_passive_elements, no_passive_data, no_two_memories, header_is_module, no_version_two, each_kind_is_exported, no_declared_elements, functions_go_to_table, no_null_goes_to_table, all_expressions_reference, own_functions_are_exact)

pub ruleset item_examples = (imports_stand_first, signature_counts_as_five, functions_are_referenced, no_shared_memory_without_maximum, no_memory_of_two_to_one, no_memory_to_past_all_addresses, no_memory_of_64_bits_without_memory64, no_init_without_function_references, no_table_past_32_bits, sections_need_features, no_million_and_one_entries)
