use Rattle.std.proofs.Common.{arith, ◌≡◌, sym, ap, subst, ◌∙◌, ◌<◌, ◌++◌, ◌∷◌, [], List, length, map, append-nil}
use Rattle.wasm_validator_type_groups.specs.declared.parts.Part.{Part}
use Rattle.wasm_validator_type_groups.specs.declared.parts.Run.{Run}
use Rattle.wasm_validator_type_groups.specs.Parts.{seen, run_seen, all_items, PartsStand}
use Rattle.wasm_validator_type_groups.proofs.PieceEnds.{pushed_items}
use Rattle.wasm_validator_type_groups.proofs.PartRuns.{pushed_run}
use Rattle.wasm_validator_type_groups.proofs.parts.gather.Goals as goal

pub returns-in-Ok-clause-runs : goal.returns-in-Ok-clause-runs
returns-in-Ok-clause-runs g c =
    let old = c.args.runs.now.items in
    let run : Run g.row.T.Denot g.row.A.Denot = record { first = c.args.middle; parts = c.in-Ok.parts } in
    let more : c.push.new.self.items ≡ old ++ run ∷ [] = (rw c.unwrap.ensures at c.push.ensures.items) ∙ ap (λ l. l ++ run ∷ []) c.reserve.ensures.items in
    let same : c.in-Ok.parts.value.items ≡ c.args.parts.now.items = ap (λ v. v.items) (c.in-Ok.ensures.ok ∙ c.replace-gathered.ensures.value) in
    let stand = subst (λ (ps : List (Part g.row.T.Denot g.row.A.Denot)). PartsStand c.args.middle ps c.args.before) (sym same) c.requires.parts in
    let many : 0 < length c.args.parts.now.items = omega (arith, c.if-len-lt-MANY.false, c.len.ensures, c.args.parts.now.ok.0) in
    pushed_run c.push.new.self.items old run c.args.before more c.requires.runs stand (subst (λ (ps : List (Part g.row.T.Denot g.row.A.Denot)). 0 < length ps) (sym same) many)

pub returns-in-Ok-clause-items : goal.returns-in-Ok-clause-items
returns-in-Ok-clause-items g c =
    let old = c.args.runs.now.items in
    let run : Run g.row.T.Denot g.row.A.Denot = record { first = c.args.middle; parts = c.in-Ok.parts } in
    let more : c.push.new.self.items ≡ old ++ run ∷ [] = (rw c.unwrap.ensures at c.push.ensures.items) ∙ ap (λ l. l ++ run ∷ []) c.reserve.ensures.items in
    let same : c.in-Ok.parts.value.items ≡ c.args.parts.now.items = ap (λ v. v.items) (c.in-Ok.ensures.ok ∙ c.replace-gathered.ensures.value) in
    let none : c.replace-gathered.new.dest.items ≡ [] = ap (λ v. v.items) c.replace-gathered.ensures.after ∙ c.new.ensures.items in
    ap (λ (ps : List (Part g.row.T.Denot g.row.A.Denot)). all_items (map run_seen c.push.new.self.items) ++ all_items (map seen ps)) none
    ∙ append-nil (all_items (map run_seen c.push.new.self.items))
    ∙ pushed_items run_seen c.push.new.self.items old run more
    ∙ ap (λ (ps : List (Part g.row.T.Denot g.row.A.Denot)). all_items (map run_seen old) ++ all_items (map seen ps)) same
