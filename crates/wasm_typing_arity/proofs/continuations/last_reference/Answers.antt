use Rattle.std.proofs.Common.{ap, sym, ◌∙◌}
use Rattle.std.specs.Option.{option_copied}
use Rattle.wasm_typing_arity.proofs.ContinuationCounts.{last_is}
use Rattle.wasm_typing_arity.proofs.continuations.last_reference.Goals as goal

pub returns-in-Some-Ref-clause-some : goal.returns-in-Some-Ref-clause-some
returns-in-Some-Ref-clause-some g c =
    last_is c.args.signature.now.params c.params.result.now c.in-Some-Ref.field-0.now c.in-Some-Ref.last c.params.ensures (ap option_copied (sym c.in-Some-Ref.is) ∙ c.last.ensures.value) c.in-Some-Ref.field-0-is
