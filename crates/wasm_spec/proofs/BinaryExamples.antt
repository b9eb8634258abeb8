-- The worked examples of the binary format.
use Rattle.std.proofs.Common.{◌≡◌, refl, arith, ℕ, zero, suc, ◌<◌, true, [], ◌∷◌, slice_index}
use Rattle.std.specs.Str.{is_utf8}
use Rattle.std.proofs.lemmas.Str.{is_utf8-from_IsUtf8, IsUtf8-from_ascii}
use Rattle.wasm_spec.specs.BinaryTypes.{abstract_heap_at, flag_at, flags_at, limits_at, heap_at, ref_at, val_at, storage_at, field_at, func_at, comp_at, marked_index_at, final_or_not, sub_at, rec_at, table_at, memory_at, global_at, tag_at}
use Rattle.wasm_spec.specs.BinarySections.{data_at, element_at, table_entry_at, global_entry_at}
use Rattle.wasm_spec.specs.Framing.{place}
use Rattle.wasm_spec.specs.BinaryModules.{extern_at, import_at, entry_at, export_at}
use Rattle.wasm_spec.specs.BinaryExamples.{HeapTypesOfOneByte, ReferencesAreNeverNull, ReferencesMayBeNull, StructuresAreRead, ImportIsRead, EntriesAreRead, BodiesAreOfFunctions, SegmentsAreCounted, UnsignedNumbersAreRead, SignedNumbersAreRead, ValueTypesAreRead, FieldsAreRead, CompositeTypesAreRead, GroupsAreRead, MemoriesAreRead, TablesAreRead, GlobalsAndTagsAreRead, ExternTypesAreRead, ExportIsRead, ElementsAreRead, DataAreRead, EntriesWithExpressionsAreRead, SectionsHavePlaces}

pub heap_types_of_one_byte : HeapTypesOfOneByte
heap_types_of_one_byte = refl

pub references_are_never_null : ReferencesAreNeverNull
unfolding ref_at heap_at abstract_heap_at
references_are_never_null = (refl, refl, refl)

pub references_may_be_null : ReferencesMayBeNull
unfolding ref_at heap_at abstract_heap_at
references_may_be_null = (refl, refl, refl, refl, refl)

pub structures_are_read : StructuresAreRead
unfolding sub_at final_or_not marked_index_at comp_at
structures_are_read = (refl, refl, refl)

pub unsigned_numbers_are_read : UnsignedNumbersAreRead
unsigned_numbers_are_read = (refl, refl, refl, refl, refl)

pub signed_numbers_are_read : SignedNumbersAreRead
signed_numbers_are_read = (refl, refl, refl, refl, refl)

pub value_types_are_read : ValueTypesAreRead
unfolding val_at ref_at heap_at
value_types_are_read = (refl, refl, refl, refl, refl, refl)

pub fields_are_read : FieldsAreRead
unfolding storage_at field_at val_at flag_at
fields_are_read = (refl, refl, refl, refl, refl, refl)

pub composite_types_are_read : CompositeTypesAreRead
unfolding comp_at func_at field_at storage_at val_at flag_at
composite_types_are_read = (refl, refl, refl, refl)

pub groups_are_read : GroupsAreRead
unfolding rec_at sub_at final_or_not marked_index_at comp_at
groups_are_read = (refl, refl, refl)

pub memories_are_read : MemoriesAreRead
unfolding memory_at limits_at flags_at
memories_are_read = (refl, refl, refl, refl, refl, refl)

pub tables_are_read : TablesAreRead
unfolding table_at limits_at flags_at ref_at
tables_are_read = (refl, refl, refl, refl, refl)

pub globals_and_tags_are_read : GlobalsAndTagsAreRead
unfolding global_at tag_at flags_at val_at
globals_and_tags_are_read = (refl, refl, refl, refl, refl, refl)

pub extern_types_are_read : ExternTypesAreRead
unfolding extern_at table_at memory_at global_at tag_at limits_at flags_at ref_at val_at
extern_types_are_read = (refl, refl, refl, refl, refl, refl, refl)

pub elements_are_read : ElementsAreRead
unfolding element_at flags_at ref_at heap_at abstract_heap_at
elements_are_read = refl

pub data_are_read : DataAreRead
unfolding data_at
data_are_read = refl

pub entries_with_expressions_are_read : EntriesWithExpressionsAreRead
unfolding table_entry_at global_entry_at table_at global_at limits_at flags_at ref_at val_at
entries_with_expressions_are_read = (refl, refl, refl, refl)

pub sections_have_places : SectionsHavePlaces
unfolding place
sections_have_places = refl

-- the names in these imports are texts
below : (b : ℕ) → b < 128 → (i : ℕ) → slice_index (b ∷ []) i < 128
below b small zero = small
below b small (suc i) = omega arith

letter : (b : ℕ) → b < 128 → is_utf8 (b ∷ []) ≡ true
letter b small = is_utf8-from_IsUtf8 (b ∷ []) (IsUtf8-from_ascii (b ∷ []) (below b small))

nothing : is_utf8 [] ≡ true
nothing = is_utf8-from_IsUtf8 [] (IsUtf8-from_ascii [] (λ i. omega arith))

pub import_is_read : ImportIsRead
unfolding import_at extern_at
import_is_read = rw (letter 0x6d (omega arith)) (rw (letter 0x66 (omega arith)) refl)

pub entries_are_read : EntriesAreRead
unfolding entry_at extern_at
entries_are_read = (
  rw (letter 0x6d (omega arith)) (rw (letter 0x66 (omega arith)) refl),
  rw (letter 0x6d (omega arith)) (rw nothing (rw (letter 0x66 (omega arith)) refl)),
)

pub export_is_read : ExportIsRead
unfolding export_at flags_at
export_is_read = (rw (letter 0x66 (omega arith)) refl, rw (letter 0x66 (omega arith)) refl)

pub bodies_are_of_functions : BodiesAreOfFunctions
bodies_are_of_functions = (refl, refl)

pub segments_are_counted : SegmentsAreCounted
segments_are_counted = (refl, refl, refl)

pub ruleset examples = (heap_types_of_one_byte, bodies_are_of_functions, segments_are_counted)
