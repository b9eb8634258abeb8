-- The same of what the verdict says: a valid module's types are accepted, and the rules type its bodies.
use Rattle.std.proofs.Common.{refl, ℕ, nat_eq}
use Rattle.wasm_spec.proofs.AcceptedSections.{valid_type_section_is_accepted}
use Rattle.wasm_spec_steps.specs.WasmSpecRules.Worlds.{world_of}
use Rattle.wasm_laws_soundness.proofs.BodiesByRules.{bodies_are_typed}
use Rattle.wasm_laws_soundness.proofs.NumberedContexts.{is_in_order, has_no_sharing}
use Rattle.wasm_laws_soundness.specs.Modules.{context_in, ValidModulesNeverGetStuck}
use Rattle.wasm_laws_soundness.proofs.Modules.{runs-well}
use Rattle.wasm_laws_soundness.proofs.Worlds.{functions-match}

pub valid_modules_never_get_stuck : ValidModulesNeverGetStuck
valid_modules_never_get_stuck F bytes m off P keep S I h a f g vs e w v =
    let C = context_in m in
    let n = m.typed.numbering in
    let types = m.well_formed.types.types in
    let accepted = valid_type_section_is_accepted F m.well_formed.parts.groups m.well_formed.types in
    let o = is_in_order F types n.distinct n.number accepted n.first n.numbers C refl in
    let u = has_no_sharing F types n.distinct n.number accepted n.first n.numbers C refl off in
    runs-well (world_of nat_eq C) F C P m.well_formed.parts
    (record { in_order = o; functions = functions-match F types n.distinct n.number accepted n.first n.numbers C refl o; keep = keep })
    (λ i x b j k. (bodies_are_typed ℕ (world_of nat_eq C) F C x b o).sound u (m.typed.bodies i x b j k)) S I h a f g vs e w v
