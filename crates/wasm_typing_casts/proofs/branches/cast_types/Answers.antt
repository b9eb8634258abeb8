use Rattle.std.proofs.Common.{rules, sym, ◌∙◌}
use Rattle.wasm_typing_references.proofs.WasmTypingChecks.ActionSteps.{has_held, allows_held, refused_here, refused_later}
use Rattle.wasm_typing_casts.proofs.CastTargets.{cast_held, from_unresolved, to_unresolved}
use Rattle.wasm_typing_casts.proofs.branches.cast_types.Goals as goal

pub returns-then-not-has : goal.returns-then-not-has
returns-then-not-has g c = λ rest. refused_here _ _ _ _ _ _ (has_held _ _ _ _ (search rules))

pub returns-then-not-source_allowed : goal.returns-then-not-source_allowed
returns-then-not-source_allowed g c = λ rest.
    refused_later _ _ _ _ _ _ _ (refused_here _ _ _ _ _ _ (allows_held _ _ _ _ (sym c.is_allowed-source_allowed.ensures ∙ c.if-not-source_allowed.true)))

pub returns-then-not-target_allowed : goal.returns-then-not-target_allowed
returns-then-not-target_allowed g c = λ rest.
    refused_later _ _ _ _ _ _ _
    (refused_later _ _ _ _ _ _ _ (refused_here _ _ _ _ _ _ (allows_held _ _ _ _ (sym c.is_allowed-target_allowed.ensures ∙ c.if-not-target_allowed.true))))

pub returns-in-None : goal.returns-in-None
returns-in-None g c = λ rest.
    refused_later _ _ _ _ _ _ _ (refused_later _ _ _ _ _ _ _ (refused_later _ _ _ _ _ _ _ (refused_here _ _ _ _ _ _ (from_unresolved _ _ _ _ c.in-None.ensures))))

pub returns-in-None-resolve_type : goal.returns-in-None-resolve_type
returns-in-None-resolve_type g c = λ rest.
    refused_later _ _ _ _ _ _ _
    (refused_later _ _ _ _ _ _ _ (refused_later _ _ _ _ _ _ _ (refused_here _ _ _ _ _ _ (to_unresolved _ _ _ _ _ c.in-Some.ensures c.in-None-resolve_type.ensures))))

pub returns-then-not-casts : goal.returns-then-not-casts
returns-then-not-casts g c = λ rest.
    refused_later _ _ _ _ _ _ _
    (refused_later _ _ _ _ _ _ _
    (refused_later _ _ _ _ _ _ _ (refused_here _ _ _ _ _ _ (cast_held _ _ _ _ _ _ _ _ c.in-Some.ensures c.in-Some-resolve_type.ensures c.casts.ensures c.if-not-casts.true))))

pub returns : goal.returns
returns g c =
    record {
      feature = has_held _ _ _ _ (search rules);
      from_allowed = allows_held _ _ _ _ (sym c.is_allowed-source_allowed.ensures ∙ c.if-not-source_allowed.false);
      to_allowed = allows_held _ _ _ _ (sym c.is_allowed-target_allowed.ensures ∙ c.if-not-target_allowed.false);
      cast = cast_held _ _ _ _ _ _ _ _ c.in-Some.ensures c.in-Some-resolve_type.ensures c.casts.ensures c.if-not-casts.false;
      from_named = c.in-Some.ensures;
      to_named = c.in-Some-resolve_type.ensures;
    }
