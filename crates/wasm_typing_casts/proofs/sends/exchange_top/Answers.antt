use Rattle.std.proofs.Common.{refl, [], ◌∷◌, ◌++◌, sym, ◌∙◌, ap}
use Rattle.wasm_typing_references.specs.WasmTypingChecks.WasmTypingStacks.SeenTypeWords.{val_in}
use Rattle.wasm_typing_references.specs.WasmTypingChecks.WasmSpecSteps.Machine.{push_operand, push_vals}
use Rattle.wasm_typing_references.proofs.WasmTypingChecks.WasmSpecSteps.OperandSequences.{push_vals-append}
use Rattle.wasm_typing_references.specs.WasmTypingChecks.WasmValidatorResources.Answers.{world}
use Rattle.wasm_typing_references.specs.WasmTypingChecks.WasmTypingStacks.BodyStacks.{state_of, below}
use Rattle.wasm_typing_references.specs.WasmTypingChecks.SeenTypes.{types_seen}
use Rattle.wasm_typing_references.proofs.WasmTypingChecks.ActionSteps.{took_ok, took_refused}
use Rattle.wasm_typing_casts.specs.BranchOperands.{list_in}
use Rattle.wasm_typing_casts.proofs.OperandExchanges.{next_missing, rest_missing, all_exchanged}
use Rattle.wasm_typing_casts.proofs.sends.exchange_top.Goals as goal

pub returns-in-Err-check_type-clause-took : goal.returns-in-Err-check_type-clause-took
returns-in-Err-check_type-clause-took g c =
    took_refused _ _ _ _
    (next_missing (world (g.T.WasmModuleResources.context c.args.resources.now)) (types_seen c.args.types) (types_seen c.args.types ++ val_in c.args.gives ∷ []) (list_in c.args.descriptor) (val_in c.args.takes) (state_of c.args.stacks.now)
    (below c.in-Ok.above (state_of c.args.stacks.now)) c.in-Ok.ensures.0 c.in-Err-check_type.ensures)
    refl

pub returns-in-Err-check_types-clause-took : goal.returns-in-Err-check_types-clause-took
returns-in-Err-check_types-clause-took g c =
    took_refused _ _ _ _
    (rest_missing (world (g.T.WasmModuleResources.context c.args.resources.now)) (types_seen c.args.types) (types_seen c.args.types ++ val_in c.args.gives ∷ []) (list_in c.args.descriptor) (val_in c.args.takes) (state_of c.args.stacks.now)
    (below c.in-Ok.above (state_of c.args.stacks.now)) (below c.in-Ok-check_type.first (state_of c.args.stacks.now)) c.in-Ok.ensures.0 c.in-Ok-check_type.ensures.0 c.in-Err-check_types.ensures)
    refl

pub returns-in-Ok-exchange_with-clause-took : goal.returns-in-Ok-exchange_with-clause-took
returns-in-Ok-exchange_with-clause-took g c =
    took_ok _ _ _ _
    (all_exchanged (world (g.T.WasmModuleResources.context c.args.resources.now)) (types_seen c.args.types) (types_seen c.args.types ++ val_in c.args.gives ∷ []) (list_in c.args.descriptor) (val_in c.args.takes) (state_of c.args.stacks.now)
    (below c.in-Ok.above (state_of c.args.stacks.now)) (below c.in-Ok-check_type.first (state_of c.args.stacks.now)) (below c.in-Ok-check_types.taken (state_of c.args.stacks.now)) (state_of c.exchange_with.new.stacks)
    c.in-Ok.ensures.0 c.in-Ok-check_type.ensures.0 c.in-Ok-check_types.ensures.0
    (c.in-Ok-exchange_with.ensures.ok ∙ ap (λ o. push_operand o (push_vals (types_seen c.args.types) (below c.in-Ok-check_types.taken (state_of c.args.stacks.now)))) c.known.ensures
    ∙ sym (push_vals-append (types_seen c.args.types) (val_in c.args.gives ∷ []) (below c.in-Ok-check_types.taken (state_of c.args.stacks.now)))))
