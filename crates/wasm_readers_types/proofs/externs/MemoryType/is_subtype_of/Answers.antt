use Rattle.std.proofs.Common.{sym, ◌∙◌}
use Rattle.std.proofs.lemmas.Bool.{not-false}
use Rattle.std.proofs.Math.Bool.{beq}
use Rattle.std.specs.Cmp.{booleans_Decides}
use Rattle.wasm_readers_types.specs.SeenExterns.{memory_of}
use Rattle.wasm_readers_types.proofs.MatchingMemories.{same_pages}
use Rattle.wasm_readers_types.proofs.externs.MemoryType.is_subtype_of.Goals as goal

pub returns : goal.returns
returns c =
    let a = c.args.self.now in
    let b = c.args.asked.now in
    same_pages (memory_of a) (memory_of b) c.limits_match.result
    ((booleans_Decides a.memory64 b.memory64).0 (not-false (beq a.memory64 b.memory64) c.if-self-asked.false))
    ((booleans_Decides a.shared b.shared).0 (not-false (beq a.shared b.shared) c.if-self-asked-2.false))
    (sym c.page_log2-pages.ensures ∙ c.if-pages-asked_pages.false ∙ c.page_log2-asked_pages.ensures) c.limits_match.ensures
