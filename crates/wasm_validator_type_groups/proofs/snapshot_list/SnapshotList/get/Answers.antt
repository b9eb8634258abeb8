use Rattle.std.proofs.Common.{arith, ◌≡◌, ◌-◌, sym, ◌∙◌, refl, map, get_or, ℕ, List, Bor, ◌++◌}
use Rattle.std.specs.Prelude.{IfSome, Option, None, Some}
use Rattle.std.proofs.lemmas.Grind.{common_steps}
use Rattle.wasm_validator_type_groups.specs.Parts.{seen, run_seen, all_items}
use Rattle.wasm_validator_type_groups.proofs.PieceEnds.{in_closed, in_open, whole_length}
use Rattle.wasm_validator_type_groups.proofs.PartRuns.{closed_end}
use Rattle.wasm_validator_type_groups.proofs.snapshot_list.SnapshotList.get.Goals as goal

pub returns-then-index-self-clause-found : goal.returns-then-index-self-clause-found
returns-then-index-self-clause-found g c =
    let a = c.self.inside in
    let closed = all_items (map run_seen a.runs.items) ++ all_items (map seen a.parts.items) in
    let end = closed_end a.runs.items a.middle c.self.invariant.runs a.parts.items a.before c.self.invariant.parts in
    rw (← c.self.view_is, in_closed closed a.tail.items a.before c.args.index c.closed_item-item.result.now end c.if-index-self.true) c.closed_item-item.ensures

pub returns-then-index-self-clause-when : goal.returns-then-index-self-clause-when
returns-then-index-self-clause-when g c =
    let a = c.self.inside in
    let closed = all_items (map run_seen a.runs.items) ++ all_items (map seen a.parts.items) in
    let end = closed_end a.runs.items a.middle c.self.invariant.runs a.parts.items a.before c.self.invariant.parts in
    let w = whole_length closed a.tail.items a.before end in
    (λ _. rw (← c.self.view_is, w) (omega arith), λ _. refl)

-- what a look-up at the end says of the whole
found : {T : Type 0} (r : Option (Bor T)) (xs ys : List T) (i j : ℕ) → IfSome r (λ x. x.now ≡ get_or xs j x.now) → ((x : T) → get_or ys i x ≡ get_or xs j x) → IfSome r (λ x. x.now ≡ get_or ys i x.now)
found None xs ys i j h t = h
found (Some x) xs ys i j h t = h ∙ sym (t x.now)

pub returns-else-index-self-clause-found : goal.returns-else-index-self-clause-found
returns-else-index-self-clause-found g c =
    let a = c.self.inside in
    let closed = all_items (map run_seen a.runs.items) ++ all_items (map seen a.parts.items) in
    let end = closed_end a.runs.items a.middle c.self.invariant.runs a.parts.items a.before c.self.invariant.parts in
    let t = λ (x : g.row.T.Denot). in_open closed a.tail.items a.before c.args.index x end c.if-index-self.false in
    rw (← c.self.view_is) (found c.get.result a.tail.items (closed ++ a.tail.items) c.args.index (c.args.index - a.before) (rw c.deref.ensures.value at c.get.ensures.lookup.1) t)

pub returns-else-index-self-clause-when : goal.returns-else-index-self-clause-when
returns-else-index-self-clause-when g c =
    let a = c.self.inside in
    let closed = all_items (map run_seen a.runs.items) ++ all_items (map seen a.parts.items) in
    let end = closed_end a.runs.items a.middle c.self.invariant.runs a.parts.items a.before c.self.invariant.parts in
    let w = whole_length closed a.tail.items a.before end in
    rw (← c.self.view_is, w) (grind (arith, common_steps, c.get.ensures.lookup, c.deref.ensures.value))
