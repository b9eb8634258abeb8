use Rattle.std.proofs.Common.{◌≡◌, ◌∙◌, ap, map, ◌++◌, ◌∷◌, []}
use Rattle.wasm_validator_type_groups.specs.declared.parts.Part.{Part}
use Rattle.wasm_validator_type_groups.specs.Parts.{seen, all_items}
use Rattle.wasm_validator_type_groups.proofs.PieceEnds.{closed_items}
use Rattle.wasm_validator_type_groups.proofs.parts.close.Goals as goal

pub returns-in-Ok-clause-items : goal.returns-in-Ok-clause-items
returns-in-Ok-clause-items g c =
    let old = c.args.parts.now.items in
    let part : Part g.row.T.Denot g.row.A.Denot = record { first = c.args.before; items = c.in-Ok.items } in
    let pushed = rw c.unwrap.ensures at c.push.ensures.items in
    let more : c.push.new.self.items ≡ old ++ part ∷ [] = pushed ∙ ap (λ l. l ++ part ∷ []) c.reserve.ensures.items in
    closed_items c.push.new.self.items old part more ∙ ap (λ v. all_items (map seen old) ++ v.items) (c.in-Ok.ensures.ok ∙ c.replace-closed.ensures.value)
