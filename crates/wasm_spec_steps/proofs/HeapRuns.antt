-- The bodies of memory, table, reference and aggregate instructions, run.
use Rattle.std.proofs.Common.{refl}
use Rattle.wasm_spec_steps.specs.HeapExamples.{Memories, NoMemories, Tables, NoTables, References, NoReferences, Casts, NoCasts, Conversions, NoConversions, Structures, NoStructures, Arrays, NoArrays, Copies, NoCopies, Descriptors, NoDescriptors, Continuations, NoContinuations, MemoriesNeedFeatures, ReferencesNeedFeatures, AggregatesNeedFeatures}

pub memories : Memories
memories = refl

pub no_memories : NoMemories
no_memories = refl

pub tables : Tables
tables = refl

pub no_tables : NoTables
no_tables = refl

pub references : References
references = refl

pub no_references : NoReferences
no_references = refl

pub casts : Casts
casts = refl

pub no_casts : NoCasts
no_casts = refl

pub conversions : Conversions
conversions = refl

pub no_conversions : NoConversions
no_conversions = refl

pub structures : Structures
structures = refl

pub no_structures : NoStructures
no_structures = refl

pub arrays : Arrays
arrays = refl

pub no_arrays : NoArrays
no_arrays = refl

pub copies : Copies
copies = refl

pub no_copies : NoCopies
no_copies = refl

pub descriptors : Descriptors
descriptors = refl

pub no_descriptors : NoDescriptors
no_descriptors = refl

pub continuations : Continuations
continuations = refl

pub no_continuations : NoContinuations
no_continuations = refl

pub memories_need_features : MemoriesNeedFeatures
memories_need_features = refl

pub references_need_features : ReferencesNeedFeatures
references_need_features = refl

pub aggregates_need_features : AggregatesNeedFeatures
aggregates_need_features = refl

pub ruleset heap_runs = (memories, no_memories, tables, no_tables, references, no_references, casts, no_casts, conversions, no_conversions, structures, no_structures, arrays, no_arrays, copies, no_copies, descriptors, no_descriptors, continuations, no_continuations, memories_need_features, references_need_features, aggregates_need_features)
