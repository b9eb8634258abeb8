-- Fields of structures, and the proposals that operators on structures are of.
use Rattle.std.specs.Prelude.{ℕ, List, map, Option, slice_get}
use Rattle.wasm_spec.specs.Syntax.{Val, Field}
use Rattle.wasm_typing_checks.specs.WasmSpecRules.Contexts.{Context}
use Rattle.wasm_readers_types.specs.WasmReadersValues.SeenValues.{field_of}
use Rattle.wasm_readers_types.specs.WasmReadersValues.declared.indices.UnpackedIndex.{UnpackedIndex}
use Rattle.wasm_readers_types.specs.WasmReadersValues.declared.values.FieldType.{FieldType}
use Rattle.wasm_typing_checks.specs.WasmSpecSteps.Actions.{Needed, gc, custom_descriptors}
use Rattle.wasm_typing_checks.specs.WasmSpecRules.Attempts.{◌>>=◌}
use Rattle.wasm_typing_checks.specs.WasmSpecSteps.Meanings.{unpack_field}
use Rattle.wasm_typing_checks.specs.DeclaredTypes.{fields_in}
use Rattle.wasm_typing_structs.specs.declared.reached.Proposal.{Proposal}
use Rattle.wasm_typing_structs.specs.declared.reached.Proposal.TheVariants as proposal

abbrev pub needed_of : Proposal → Needed
needed_of proposal.Gc = gc
needed_of proposal.CustomDescriptors = custom_descriptors

-- a field of a structure type
abbrev pub field_in : Context UnpackedIndex → ℕ → ℕ → Option (Field UnpackedIndex)
field_in C n k = fields_in C n >>= λ xs. slice_get xs k

-- what fields hold as values
abbrev pub unpacked_types : List FieldType → List (Val UnpackedIndex)
unpacked_types xs = map unpack_field (map field_of xs)
