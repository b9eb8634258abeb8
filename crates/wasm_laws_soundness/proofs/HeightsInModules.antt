-- The same of functions of a store that fits, and of the bodies of valid modules.
use Rattle.std.proofs.Common.{◌≡◌, refl, sym, subst, ◌∙◌, ℕ, nat_eq, List, slice_get, Some, length}
use Rattle.wasm_spec.specs.Features.{Features}
use Rattle.wasm_spec.specs.MatchingTests.{World}
use Rattle.wasm_spec.proofs.AcceptedSections.{valid_type_section_is_accepted}
use Rattle.wasm_spec_steps.specs.WasmSpecRules.Contexts.{Context}
use Rattle.wasm_spec_steps.specs.WasmSpecRules.Parts.{Parts}
use Rattle.wasm_spec_steps.specs.WasmSpecRules.Signatures.{Signature}
use Rattle.wasm_spec_steps.specs.WasmSpecRules.Worlds.{world_of}
use Rattle.wasm_operators.specs.Control.{func_block}
use Rattle.wasm_operators.specs.Instructions.{Instruction}
use Rattle.wasm_spec_steps.specs.Bodies.{Surroundings}
use Rattle.wasm_spec_steps.specs.Meanings.{block_signature}
use Rattle.wasm_spec_instructions.specs.Code.{Code}
use Rattle.wasm_spec_instructions.specs.ValueTypes.{vals}
use Rattle.wasm_spec_instructions.proofs.Attempts.{the_same}
use Rattle.wasm_laws_soundness.specs.BodiesByRules.{IsTypedBody}
use Rattle.wasm_laws_soundness.proofs.BodiesByRules.{bodies_are_typed}
use Rattle.wasm_laws_soundness.proofs.NumberedContexts.{is_in_order, has_no_sharing}
use Rattle.wasm_laws_soundness.specs.Values.{Value, Instance, Store, HaveTypes, no_values}
use Rattle.wasm_laws_soundness.specs.Outcomes.{State, Primitives, entered}
use Rattle.wasm_laws_soundness.specs.StoreValidity.{IsTypedCode, IsTypedFunction}
use Rattle.wasm_laws_soundness.proofs.Values.{grows-refl, start-fits}
use Rattle.wasm_laws_soundness.specs.Laws.{AreSound}
use Rattle.wasm_laws_soundness.specs.Modules.{IsCodeOf, IsInstance, called_with, context_in}
use Rattle.wasm_laws_soundness.specs.Heights.{Comes, AreHeights, FunctionsHaveTheirHeights, ValidModulesHaveTheirHeights}
use Rattle.wasm_laws_soundness.proofs.Modules.{code-typed, function-typed}
use Rattle.wasm_laws_soundness.proofs.Worlds.{functions-match}
use Rattle.wasm_laws_soundness.proofs.Heights.{heights_are_as_seen}

pub functions_have_their_heights : (R : Type 0) → FunctionsHaveTheirHeights R
functions_have_their_heights R W P sound a f g B I c b s h i w d e vs v n ops below t m =
    let k : IsTypedFunction W P s.store f = h.functions a f i in
    let j : IsTypedCode W P s.store g B I c =
    subst (λ (z : Signature R). IsTypedCode W P s.store z B I c) (the_same k.signature g (sym k.is ∙ w)) (k.code B I c d) in
    heights_are_as_seen R W P sound B I b g c j.sets e j.typed n (entered B.locals vs s)
    (record {
      operands = no_values;
      locals = start-fits B g.takes j.extra vs j.locals v;
      store = h;
      instance = j.instance;
      grown = grows-refl s.store;
    })
    ops below t m

module _ {R : Type 0} (W : World R) (F : Features) (C : Context R) (P : Primitives R) where
  seen_in :
      (parts : Parts) → AreSound W P
      → ((i n : ℕ) (bytes : List ℕ) → slice_get parts.functions i ≡ Some n → slice_get parts.bodies i ≡ Some bytes → IsTypedBody W F C n bytes)
      → (S : Store R) (I : Instance) → IsInstance W F C P parts S I → (i n : ℕ) (bytes : List ℕ) → slice_get parts.functions i ≡ Some n
      → slice_get parts.bodies i ≡ Some bytes → (B : Surroundings R) (c : Code) (k : IsCodeOf W F C n bytes B c) (vs : List (Value R))
      → HaveTypes W S vs (vals k.signature.takes) → (steps : ℕ) (ops : List (Instruction ℕ))
      (below : List (Value R)) (to : State R) → Comes W P B I steps c (entered B.locals vs (called_with vs S)) ops below to
      → AreHeights W B (func_block n) ops (length below) (length to.operands)
  seen_in parts sound bodies S I h i n bytes e w B c k vs v steps ops below to m =
      let t : IsTypedBody W F C n bytes = bodies i n bytes e w in
      let g : k.signature ≡ t.signature = the_same k.signature t.signature (sym k.is_function ∙ t.is_function) in
      let j : IsTypedCode W P S t.signature B I c = code-typed W F C P S I n bytes B c k t h.fits in
      heights_are_as_seen R W P sound B I (func_block n) t.signature c j.sets
      (subst (λ (z : Surroundings R). block_signature W z (func_block n) ≡ Some t.signature) (sym k.surroundings) t.is_function) j.typed steps
      (entered B.locals vs (called_with vs S))
      (record {
        operands = no_values;
        locals = start-fits B t.signature.takes j.extra vs j.locals (subst (λ (z : Signature R). HaveTypes W S vs (vals z.takes)) g v);
        store = record { functions = λ b z y. function-typed W F C P parts S I z bodies h.fits (h.functions b z y); exceptions = h.exceptions };
        instance = j.instance;
        grown = grows-refl S;
      })
      ops below to m

pub valid_modules_have_their_heights : ValidModulesHaveTheirHeights
valid_modules_have_their_heights F bytes m off P keep S I h i n body e w B c k vs v steps ops below to r =
    let C = context_in m in
    let z = m.typed.numbering in
    let types = m.well_formed.types.types in
    let accepted = valid_type_section_is_accepted F m.well_formed.parts.groups m.well_formed.types in
    let o = is_in_order F types z.distinct z.number accepted z.first z.numbers C refl in
    let u = has_no_sharing F types z.distinct z.number accepted z.first z.numbers C refl off in
    seen_in (world_of nat_eq C) F C P m.well_formed.parts
    (record { in_order = o; functions = functions-match F types z.distinct z.number accepted z.first z.numbers C refl o; keep = keep })
    (λ y x b q l. (bodies_are_typed ℕ (world_of nat_eq C) F C x b o).sound u (m.typed.bodies y x b q l))
    S I h i n body e w B c k vs v steps ops below to r
