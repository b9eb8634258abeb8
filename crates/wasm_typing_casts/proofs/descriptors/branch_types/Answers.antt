use Rattle.std.proofs.Common.{true, ◌∙◌, ap}
use Rattle.std.specs.Option.{option_map}
use Rattle.wasm_typing_references.specs.WasmSpec.Syntax.{map_heap}
use Rattle.wasm_typing_references.specs.WasmTypingChecks.WasmSpecSteps.Meanings.{ref_to}
use Rattle.wasm_typing_references.specs.WasmTypingChecks.WasmValidatorResources.Answers.{written_index}
use Rattle.wasm_typing_references.proofs.WasmTypingChecks.ActionSteps.{refused_later, refused_takes}
use Rattle.wasm_typing_references.proofs.WasmTypingChecks.TypeLookups.{second_untyped}
use Rattle.wasm_typing_casts.specs.CastDescriptors.{descriptor_named}
use Rattle.wasm_typing_casts.proofs.DescriptorTypes.{descriptor_untyped}
use Rattle.wasm_typing_casts.proofs.descriptors.branch_types.Goals as goal

pub returns-in-None : goal.returns-in-None
returns-in-None g c = λ k t rest.
    refused_later _ _ _ _ _ _ _
    (refused_later _ _ _ _ _ _ _
    (refused_later _ _ _ _ _ _ _
    (refused_later _ _ _ _ _ _ _
    (refused_later _ _ _ _ _ _ _
    (refused_later _ _ _ _ _ _ _
    (refused_later _ _ _ _ _ _ _
    (refused_takes _ _ _ _ _ _
    (second_untyped _ _ _ _
    (descriptor_untyped _ _ _ (c.in-None.ensures ∙ ap (λ h. option_map (ref_to true) (descriptor_named (g.T.WasmModuleResources.context c.args.resources.now) (map_heap written_index h))) c.heap_type.ensures.value))))))))))
