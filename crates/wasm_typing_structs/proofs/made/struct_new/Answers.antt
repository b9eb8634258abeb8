use Rattle.wasm_typing_checks.proofs.ActionSteps.{needed, refused_here, refused_later, plainly}
use Rattle.wasm_typing_checks.proofs.IndexedTypes.{new_typed}
use Rattle.wasm_typing_structs.proofs.Structures.{fields_typed, undescribed_held}
use Rattle.wasm_typing_structs.proofs.made.struct_new.Goals as goal

pub returns-then-is_some-clause-took : goal.returns-then-is_some-clause-took
returns-then-is_some-clause-took g c =
    refused_later _ _ _ _ _ _ _ (refused_later _ _ _ _ _ _ _ (refused_here _ _ _ _ _ _ (undescribed_held _ _ _ _ _ _ c.in_ok-ty.ensures.descriptor c.is_some.ensures c.if-is_some.true)))

pub returns-clause-took : goal.returns-clause-took
returns-clause-took g c =
    needed _ _ _ _ _ _ _ c.in_ok-ty.ensures.on
    (needed _ _ _ _ _ _ _ c.in_ok-ty.ensures.reached
    (needed _ _ _ _ _ _ _ (undescribed_held _ _ _ _ _ _ c.in_ok-ty.ensures.descriptor c.is_some.ensures c.if-is_some.false)
    (plainly _ _ _ _ _ _ _ _ _ c.exchange_fields.ensures.took (fields_typed _ _ _ _ c.in_ok-ty.ensures.fields) (new_typed _ _ _ _ _ c.in_ok-ty.ensures.identity c.new_reference-given.ensures))))
