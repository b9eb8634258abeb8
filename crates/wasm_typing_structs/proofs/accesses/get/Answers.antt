use Rattle.std.proofs.Common.{sym, ◌∙◌, ap}
use Rattle.wasm_spec.specs.MatchingTests.{same_flag}
use Rattle.wasm_typing_checks.proofs.ActionSteps.{needed, refused_here, refused_later, plainly}
use Rattle.wasm_typing_checks.proofs.IndexedTypes.{nullable_typed}
use Rattle.wasm_typing_structs.proofs.Structures.{field_typed, packed_held}
use Rattle.wasm_typing_structs.proofs.accesses.get.Goals as goal

pub returns-then-not-same_flag-clause-took : goal.returns-then-not-same_flag-clause-took
returns-then-not-same_flag-clause-took g c =
    refused_later _ _ _ _ _ _ _ (refused_later _ _ _ _ _ _ _ (refused_here _ _ _ _ _ _ (packed_held _ _ _ _ _ _ _ c.in_ok-field.ensures.field (sym (c.same_flag.ensures ∙ ap (same_flag c.args.packed) c.is_packed.ensures) ∙ c.if-not-same_flag.true))))

pub returns-clause-took : goal.returns-clause-took
returns-clause-took g c =
    needed _ _ _ _ _ _ _ c.in_ok-field.ensures.on
    (needed _ _ _ _ _ _ _ c.in_ok-field.ensures.reached
    (needed _ _ _ _ _ _ _ (packed_held _ _ _ _ _ _ _ c.in_ok-field.ensures.field (sym (c.same_flag.ensures ∙ ap (same_flag c.args.packed) c.is_packed.ensures) ∙ c.if-not-same_flag.false))
    (plainly _ _ _ _ _ _ _ _ _ c.plain.ensures.took (nullable_typed _ _ _ _ _ c.in_ok-field.ensures.identity c.nullable.ensures) (field_typed _ _ _ _ _ _ c.in_ok-field.ensures.field (c.new.ensures ∙ c.unpack.ensures)))))
