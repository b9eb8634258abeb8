use Rattle.std.proofs.Common.{◌≡◌, sym, ap, subst, ◌∙◌, ℕ, ◌+◌, ◌++◌, length, map}
use Rattle.wasm_validator_type_groups.specs.Parts.{seen, all_items, StandFrom}
use Rattle.wasm_validator_type_groups.proofs.PieceEnds.{items_append, stand_append, ends}
use Rattle.wasm_validator_type_groups.proofs.parts.join_runs.Goals as goal

pub returns-clause-items : goal.returns-clause-items
returns-clause-items g c =
    let a = map seen c.args.first.now.parts.value.items in
    let b = map seen c.args.second.now.parts.value.items in
    let made : map seen c.in_ok-new.field-0.value.items ≡ a ++ b =
    ap (λ v. map seen v.items) c.in_ok-new.ensures.ok ∙ c.in_ok-share_behind-2.ensures
    ∙ ap (λ ps. ps ++ map seen c.as_ref-2.result.now.items) (c.in_ok-share_behind.ensures ∙ ap (λ ps. map seen ps ++ map seen c.as_ref.result.now.items) c.in_ok-parts.ensures.items ∙ ap (λ v. map seen v.items) c.as_ref.ensures)
    ∙ ap (λ v. a ++ map seen v.items) c.as_ref-2.ensures in
    ap all_items made ∙ items_append a b

pub returns-clause-stands : goal.returns-clause-stands
returns-clause-stands g c =
    let first = c.args.first.now in
    let second = c.args.second.now in
    let a = map seen first.parts.value.items in
    let b = map seen second.parts.value.items in
    let made : map seen c.in_ok-new.field-0.value.items ≡ a ++ b =
    ap (λ v. map seen v.items) c.in_ok-new.ensures.ok ∙ c.in_ok-share_behind-2.ensures
    ∙ ap (λ ps. ps ++ map seen c.as_ref-2.result.now.items) (c.in_ok-share_behind.ensures ∙ ap (λ ps. map seen ps ++ map seen c.as_ref.result.now.items) c.in_ok-parts.ensures.items ∙ ap (λ v. map seen v.items) c.as_ref.ensures)
    ∙ ap (λ v. a ++ map seen v.items) c.as_ref-2.ensures in
    let behind : StandFrom (first.first + length (all_items a)) b (second.first + length (all_items b)) = subst (λ (n : ℕ). StandFrom n b (second.first + length (all_items b))) c.requires.behind c.requires.second in
    let both = stand_append first.first a (first.first + length (all_items a)) b (second.first + length (all_items b)) c.requires.first behind in
    subst (λ ps. StandFrom first.first ps (first.first + length (all_items ps))) (sym made) (ends first.first (a ++ b) (second.first + length (all_items b)) both)
