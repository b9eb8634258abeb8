use Rattle.std.proofs.Common.{sym, ◌∙◌, ap}
use Rattle.std.specs.Option.{option_map}
use Rattle.std.specs.Prelude.{Option, Some}
use Rattle.wasm_readers_types.specs.WasmReadersValues.SeenValues.{index_of}
use Rattle.wasm_readers_types.specs.WasmReadersValues.declared.indices.PackedIndex.{PackedIndex}
use Rattle.wasm_typing_checks.proofs.ActionSteps.{needed, plainly}
use Rattle.wasm_typing_checks.proofs.IndexedTypes.{new_typed}
use Rattle.wasm_typing_structs.proofs.Structures.{defaults_held, descriptor_typed}
use Rattle.wasm_typing_structs.proofs.made.struct_new_default_desc.Goals as goal

pub returns-clause-took : goal.returns-clause-took
returns-clause-took g c =
    needed _ _ _ _ _ _ _ c.in_ok-described.ensures.on
    (needed _ _ _ _ _ _ _ c.in_ok-described.ensures.reached
    (needed _ _ _ _ _ _ _ (defaults_held _ _ _ _ _ c.in_ok-described.ensures.fields (sym c.have_defaults.ensures ∙ c.if-not-have_defaults.false))
    (plainly _ _ _ _ _ _ _ _ _ c.plain.ensures.took (descriptor_typed _ _ _ _ _ (c.in_ok-described.ensures.descriptor ∙ ap (λ (o : Option PackedIndex). Some (option_map index_of o)) c.in-Some.is) c.exact_or_null.ensures) (new_typed _ _ _ _ _ c.in_ok-described.ensures.identity c.new_reference-given.ensures))))
