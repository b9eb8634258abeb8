use Rattle.std.proofs.Common.{◌∙◌, sym, refl, true≢false}
use Rattle.wasm_validator_type_list.proofs.type_list.interning.found_in.Goals as goal

pub returns-then-is_canonical-clause-once : goal.returns-then-is_canonical-clause-once
returns-then-is_canonical-clause-once g c = λ _. c.find.ensures

pub returns-then-is_canonical-clause-own : goal.returns-then-is_canonical-clause-own
returns-then-is_canonical-clause-own g c = λ off. absurd (true≢false (sym c.if-is_canonical.true ∙ off))

pub returns-else-is_canonical-clause-once : goal.returns-else-is_canonical-clause-once
returns-else-is_canonical-clause-once g c = λ on. absurd (true≢false (sym on ∙ c.if-is_canonical.false))

pub returns-else-is_canonical-clause-own : goal.returns-else-is_canonical-clause-own
returns-else-is_canonical-clause-own g c = λ _. refl
