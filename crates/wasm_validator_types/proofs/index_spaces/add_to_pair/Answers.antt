use Rattle.std.proofs.Common.{is_some, ap, sym, ◌∙◌, ◌++◌, ◌∷◌, []}
use Rattle.indexmap.proofs.MapLemmas.{OnOk-map}
use Rattle.wasm_validator_types.proofs.Imports.{found_at, missing_at}
use Rattle.wasm_validator_types.proofs.index_spaces.add_to_pair.Goals as goal

pub returns-in-Some-clause-ok : goal.returns-in-Some-clause-ok
returns-in-Some-clause-ok g c =
    OnOk-map c.add_at.result _ _ (found_at c.args.pair c.args.entity _ _ c.in-Some.index (sym c.get_index_of.ensures.index ∙ c.in-Some.is)) c.add_at.ensures.ok

pub returns-in_ok-insert-in-None-clause-ok : goal.returns-in_ok-insert-in-None-clause-ok
returns-in_ok-insert-in-None-clause-ok g c =
    missing_at c.args.pair c.args.entity c.args.imports.now.entries c.insert.new.self.entries c.push.new.self
    (sym c.get_index_of.ensures.found ∙ ap is_some c.in-None.is)
    (c.in_ok-push-in-None.ensures.ok ∙ ap (λ l. l ++ c.args.entity ∷ []) c.new-entities.ensures)
    c.in_ok-insert-in-None.ensures.entries
