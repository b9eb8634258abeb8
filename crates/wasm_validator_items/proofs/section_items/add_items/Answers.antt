use Rattle.std.proofs.Common.{subst, ℕ, ◌+◌, leb, List, arith}
use Rattle.wasm_readers.specs.SectionsSeen.{count_of, bytes_of}
use Rattle.wasm_readers.specs.WasmReadersBytes.Reader.{rest}
use Rattle.wasm_validator_core.specs.Answers.{IsNowhere}
use Rattle.wasm_validator_items.specs.ItemSteps.{steps_of}
use Rattle.wasm_validator_items.specs.Machine.{items_from}
use Rattle.wasm_validator_items.proofs.SectionLoop.{nowhere_here, within_nowhere, where_handed}
use Rattle.wasm_validator_items.proofs.section_items.add_items.Goals as goal

pub returns-in_err-add_next-clause-added : goal.returns-in_err-add_next-clause-added
returns-in_err-add_next-clause-added g c =
    let k = g.I.SectionItem.kept c.args.kind.now in
    let here = g.I.SectionItem.kept c.items.kind in
    let s = g.I.SectionItem.state c.items.kind in
    let before = g.I.SectionItem.state c.args.kind.now in
    let more = rest c.items.reader in
    let count = count_of c.args.section.now in
    let all = items_from (g.I.SectionItem.step k) count (bytes_of c.args.section.now) before in
    where_handed (Unit {0}) (Unit {0}) (g.I.SectionItem.accepts k) (λ (x : g.I.SectionItem.State × List ℕ). g.I.SectionItem.accepts here x.0)
    (steps_of (g.I.SectionItem.step k) (g.I.SectionItem.there before) (g.I.SectionItem.most k) count (bytes_of c.args.section.now) before) (g.I.SectionItem.state c.add_next.new.self)
    (g.I.SectionItem.step here s more) (g.I.SectionItem.state c.add_next.new.self, rest c.add_next.new.reader)
    (λ none. within_nowhere (g.I.SectionItem.accepts k) (leb (g.I.SectionItem.there before + count) (g.I.SectionItem.most k)) all
    (nowhere_here (g.I.SectionItem.step k) (g.I.SectionItem.accepts k) c.requires.back c.items.left more s all (omega arith) c.items.invariant.so_far
    (subst (λ j. IsNowhere (λ (x : g.I.SectionItem.State × List ℕ). g.I.SectionItem.accepts j x.0) (g.I.SectionItem.step j s more)) c.items.invariant.kept none)))
    c.from_residual-in_err-add_next.result c.in_err-add_next.field-0.0 c.from_residual-in_err-add_next.ensures.1 c.in_err-add_next.ensures.added
