use Rattle.std.proofs.Common.{◌∙◌}
use Rattle.wasm_typing_checks.proofs.ActionSteps.{needed, refused_here, refused_later, plainly}
use Rattle.wasm_typing_checks.proofs.TypeLookups.{nothing_typed, joined_typed}
use Rattle.wasm_typing_checks.proofs.IndexedTypes.{nullable_typed}
use Rattle.wasm_typing_structs.proofs.Structures.{field_typed, mutable_held}
use Rattle.wasm_typing_structs.proofs.accesses.struct_set.Goals as goal

pub returns-then-field-clause-took : goal.returns-then-field-clause-took
returns-then-field-clause-took g c =
    needed _ _ _ _ _ _ _ c.in_ok-field.ensures.on
    (needed _ _ _ _ _ _ _ c.in_ok-field.ensures.reached
    (needed _ _ _ _ _ _ _ (mutable_held _ _ _ _ _ _ c.in_ok-field.ensures.field c.if-field.true)
    (plainly _ _ _ _ _ _ _ _ _ c.plain.ensures.took (joined_typed _ _ _ _ _ _ (nullable_typed _ _ _ _ _ c.in_ok-field.ensures.identity c.nullable.ensures) (field_typed _ _ _ _ _ _ c.in_ok-field.ensures.field (c.new.ensures ∙ c.unpack.ensures))) (nothing_typed _ _))))

pub returns-else-field-clause-took : goal.returns-else-field-clause-took
returns-else-field-clause-took g c =
    refused_later _ _ _ _ _ _ _ (refused_later _ _ _ _ _ _ _ (refused_here _ _ _ _ _ _ (mutable_held _ _ _ _ _ _ c.in_ok-field.ensures.field c.if-field.false)))
