use Rattle.std.proofs.Common.{refl, ap, ◌∙◌}
use Rattle.wasm_typing_references.specs.WasmSpec.Matching.{top_of}
use Rattle.wasm_typing_casts.proofs.HierarchyTops.{concrete_top, exact_top}
use Rattle.wasm_typing_casts.proofs.tops.top_of_index.Goals as goal

pub returns-in-Some-clause-inexact : goal.returns-in-Some-clause-inexact
returns-in-Some-clause-inexact g c = concrete_top _ _ _ _ _ c.in-Some.ensures refl (c.top-top.ensures ∙ ap top_of c.kind.ensures)

pub returns-in-Some-clause-exact : goal.returns-in-Some-clause-exact
returns-in-Some-clause-exact g c = exact_top _ _ _ _ _ c.in-Some.ensures refl (c.top-top.ensures ∙ ap top_of c.kind.ensures)
