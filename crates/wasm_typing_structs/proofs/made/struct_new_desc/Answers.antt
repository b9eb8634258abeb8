use Rattle.std.proofs.Common.{refl, ◌∙◌, ap, [], ◌∷◌}
use Rattle.std.specs.Option.{option_map}
use Rattle.std.specs.Prelude.{Option, Some}
use Rattle.wasm_readers_types.specs.WasmReadersValues.SeenValues.{index_of}
use Rattle.wasm_readers_types.specs.WasmReadersValues.declared.indices.PackedIndex.{PackedIndex}
use Rattle.wasm_typing_checks.specs.WasmTypingStacks.SeenTypeWords.{val_in}
use Rattle.wasm_typing_checks.specs.WasmValidatorResources.Answers.{world}
use Rattle.wasm_typing_checks.specs.WasmTypingStacks.BodyStacks.{state_of, below}
use Rattle.wasm_typing_checks.proofs.ActionSteps.{needed, refused_later, refused_takes, plainly, took_refused}
use Rattle.wasm_typing_checks.proofs.TypeLookups.{both_typed, first_untyped, second_untyped}
use Rattle.wasm_typing_checks.proofs.OperandExchanges.{top_missing}
use Rattle.wasm_typing_checks.proofs.IndexedTypes.{new_typed, barred}
use Rattle.wasm_typing_structs.specs.Fields.{unpacked_types}
use Rattle.wasm_typing_structs.proofs.FieldOperands.{took_below}
use Rattle.wasm_typing_structs.proofs.Structures.{fields_typed, fields_untyped, descriptor_typed, descriptor_untyped}
use Rattle.wasm_typing_structs.proofs.made.struct_new_desc.Goals as goal

pub returns-in-Err-clause-took : goal.returns-in-Err-clause-took
returns-in-Err-clause-took g c =
    barred _ _ _ _ _ _ _ _ (λ e. refused_takes _ _ _ _ _ _ (first_untyped _ _ _ _ (fields_untyped _ _ _ e))) c.in-Err.ensures.barred

pub returns-in-None-clause-took : goal.returns-in-None-clause-took
returns-in-None-clause-took g c =
    refused_later _ _ _ _ _ _ _ (refused_later _ _ _ _ _ _ _
    (refused_takes _ _ _ _ _ _ (second_untyped _ _ _ _ (descriptor_untyped _ _ _ (c.in-Ok.ensures.descriptor ∙ ap (λ (o : Option PackedIndex). Some (option_map index_of o)) c.in-None.is)))))

pub returns-in-Ok-check_type-clause-took : goal.returns-in-Ok-check_type-clause-took
returns-in-Ok-check_type-clause-took g c =
    needed _ _ _ _ _ _ _ c.in-Ok.ensures.on
    (needed _ _ _ _ _ _ _ c.in-Ok.ensures.reached
    (plainly _ _ _ _ _ _ _ _ _ (took_below (world (g.T.WasmModuleResources.context c.args.resources.now)) _ (unpacked_types c.in-Ok.described.fields.now) (val_in c.new_reference-given.result ∷ []) (val_in c.exact_or_null.result) (state_of c.args.stacks.now) (below c.in-Ok-check_type.taken (state_of c.args.stacks.now)) _ _ c.in-Ok-check_type.ensures.0 c.exchange_fields.ensures.took)
    (both_typed _ _ _ _ _ _ (fields_typed _ _ _ _ c.in-Ok.ensures.fields) (descriptor_typed _ _ _ _ _ (c.in-Ok.ensures.descriptor ∙ ap (λ (o : Option PackedIndex). Some (option_map index_of o)) c.in-Some.is) c.exact_or_null.ensures)) (new_typed _ _ _ _ _ c.in-Ok.ensures.identity c.new_reference-given.ensures)))

pub returns-in-Err-check_type-clause-took : goal.returns-in-Err-check_type-clause-took
returns-in-Err-check_type-clause-took g c =
    needed _ _ _ _ _ _ _ c.in-Ok.ensures.on
    (needed _ _ _ _ _ _ _ c.in-Ok.ensures.reached
    (plainly _ _ _ _ _ _ _ _ _ (took_refused _ _ _ _ (top_missing (world (g.T.WasmModuleResources.context c.args.resources.now)) (unpacked_types c.in-Ok.described.fields.now) (val_in c.new_reference-given.result ∷ []) (val_in c.exact_or_null.result) (state_of c.args.stacks.now) c.in-Err-check_type.ensures) refl)
    (both_typed _ _ _ _ _ _ (fields_typed _ _ _ _ c.in-Ok.ensures.fields) (descriptor_typed _ _ _ _ _ (c.in-Ok.ensures.descriptor ∙ ap (λ (o : Option PackedIndex). Some (option_map index_of o)) c.in-Some.is) c.exact_or_null.ensures)) (new_typed _ _ _ _ _ c.in-Ok.ensures.identity c.new_reference-given.ensures)))
