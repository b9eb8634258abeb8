-- The refusals of groups that aren't written as a list of types can have them.
use Rattle.std.specs.Prelude.{ℕ, nat_lt, if◌then◌else◌}
use Rattle.std.specs.declared.option.Option.TheVariants.{Some}
pub use Rattle.wasm_readers_errors.specs.Refusals.{plain}
use Rattle.wasm_readers_errors.specs.Refusals.{lacking}
use Rattle.wasm_readers_errors.specs.declared.error.Fault.{Fault}
use Rattle.wasm_readers_errors.specs.declared.error.Fault.TheVariants.{Group, Descriptor, UnknownType, UnknownTypeWithoutGc}
use Rattle.wasm_readers_errors.specs.declared.error.Refusal.{Refusal}
use Rattle.wasm_readers_errors.specs.WasmReadersFeatures.declared.type_rules.DescriptorRule.TheVariants.{ForwardDescribes}
use Rattle.wasm_readers_errors.specs.WasmReadersFeatures.declared.type_rules.GroupRule.TheVariants.{RecGroups, MultipleSupertypes, SupertypeAfterSubtype}
use Rattle.wasm_readers_errors.specs.WasmReadersFeatures.declared.features.TheConstants.WasmFeatures.{GC}
use Rattle.wasm_readers_types.specs.WasmReadersValues.declared.indices.UnpackedIndex.{UnpackedIndex}
use Rattle.wasm_readers_types.specs.WasmReadersValues.declared.indices.UnpackedIndex.TheVariants.{Module, RecGroup, Id}
use Rattle.wasm_validator_canonical.specs.declared.type_canonicalizer.TypeCanonicalizer.{TypeCanonicalizer}

-- `rec` is written without the proposal for it
abbrev pub rec_without_gc : ℕ → Refusal
rec_without_gc offset = record { fault = Group RecGroups; offset = offset; missing = Some GC }

-- a type extends more than one
abbrev pub extends_many : ℕ → Refusal
extends_many offset = plain (Group MultipleSupertypes) offset

-- a type extends one that doesn't come before it, or describes one
abbrev pub extends_later : ℕ → Refusal
extends_later offset = plain (Group SupertypeAfterSubtype) offset

abbrev pub describes_later : ℕ → Refusal
describes_later offset = plain (Descriptor ForwardDescribes) offset

-- there is no type with this index
abbrev pub unknown_type : ℕ → ℕ → Refusal
unknown_type index offset = plain (UnknownType index) offset

-- the index is of a type of the group itself
abbrev pub unknown_without_gc : ℕ → ℕ → Refusal
unknown_without_gc index offset = lacking GC (UnknownTypeWithoutGc index) offset

-- The index is of no type before the group: without gc it may not be one of the group. Only indices of a module are known.
abbrev pub unknown_by : TypeCanonicalizer → UnpackedIndex → Refusal
unknown_by c (Module k) = if nat_lt k c.end then lacking GC (UnknownTypeWithoutGc k) c.offset else plain (UnknownType k) c.offset
unknown_by c (RecGroup i) = plain (UnknownType 0) c.offset
unknown_by c (Id id) = plain (UnknownType 0) c.offset

-- the index isn't of a type before, which is this fault
abbrev pub late_by : TypeCanonicalizer → Fault → UnpackedIndex → Refusal
late_by c fault (Module k) = plain fault c.offset
late_by c fault (RecGroup i) = plain (UnknownType 0) c.offset
late_by c fault (Id id) = plain (UnknownType 0) c.offset
