-- A module is valid exactly where it is with constant expressions and bodies that the rules type.
use Rattle.std.proofs.Common.{◌≡◌, refl, ℕ, nat_eq, false, List}
use Rattle.wasm_spec.specs.Features.{Features}
use Rattle.wasm_spec.proofs.AcceptedSections.{valid_type_section_is_accepted}
use Rattle.wasm_spec_steps.specs.WasmSpecRules.IndexSpaces.{index_spaces}
use Rattle.wasm_spec_steps.specs.WasmSpecRules.Modules.{IsWellFormed}
use Rattle.wasm_spec_steps.specs.WasmSpecRules.Worlds.{world_of}
use Rattle.wasm_spec_validity.specs.Expressions.{expression_at}
use Rattle.wasm_spec_validity.specs.Modules.{Numbering, number_at, context_of, imported_globals, IsValidModule}
use Rattle.wasm_spec_instructions.specs.ValueTypes.{IsInOrder}
use Rattle.wasm_spec_instructions.specs.Laws.{HasNoSharing}
use Rattle.wasm_laws_soundness.specs.ModulesByRules.{IsValidByRules}
use Rattle.wasm_laws_soundness.specs.TypingLaws.{ModulesAreTyped}
use Rattle.wasm_laws_soundness.proofs.BodiesByRules.{bodies_are_typed}
use Rattle.wasm_laws_soundness.proofs.ModuleConstants.{constants-sound, constants-complete}
use Rattle.wasm_laws_soundness.proofs.NumberedContexts.{is_in_order, has_no_sharing}

module _ (F : Features) (bytes : List ℕ) where
  ordered : (m : IsWellFormed expression_at F bytes) (n : Numbering (index_spaces m.types.types m.parts).types) → IsInOrder (world_of nat_eq (context_of (index_spaces m.types.types m.parts) n m.parts))
  ordered m n =
      is_in_order F m.types.types n.distinct n.number (valid_type_section_is_accepted F m.parts.groups m.types) n.first n.numbers (context_of (index_spaces m.types.types m.parts) n m.parts) refl

  unshared : F.shared_everything_threads ≡ false → (m : IsWellFormed expression_at F bytes) (n : Numbering (index_spaces m.types.types m.parts).types) → HasNoSharing (world_of nat_eq (context_of (index_spaces m.types.types m.parts) n m.parts)) F
  unshared off m n =
      has_no_sharing F m.types.types n.distinct n.number (valid_type_section_is_accepted F m.parts.groups m.types) n.first n.numbers (context_of (index_spaces m.types.types m.parts) n m.parts) refl off

  by_rules : F.shared_everything_threads ≡ false → IsValidModule F bytes → IsValidByRules F bytes
  by_rules off m =
      let C = context_of (index_spaces m.well_formed.types.types m.well_formed.parts) m.typed.numbering m.well_formed.parts in
      let o = ordered m.well_formed m.typed.numbering in
      let u = unshared off m.well_formed m.typed.numbering in
      record {
        well_formed = m.well_formed;
        numbering = m.typed.numbering;
        constants = constants-sound nat_eq F C (imported_globals m.well_formed.parts) (number_at m.typed.numbering) o m.well_formed.parts m.typed.constants;
        bodies = λ i x b e f. (bodies_are_typed ℕ (world_of nat_eq C) F C x b o).sound u (m.typed.bodies i x b e f);
      }

  by_machine : IsValidByRules F bytes → IsValidModule F bytes
  by_machine m =
      let C = context_of (index_spaces m.well_formed.types.types m.well_formed.parts) m.numbering m.well_formed.parts in
      let o = ordered m.well_formed m.numbering in
      record {
        well_formed = m.well_formed;
        typed = record {
          numbering = m.numbering;
          constants = constants-complete nat_eq F C (imported_globals m.well_formed.parts) (number_at m.numbering) o m.well_formed.parts m.constants;
          bodies = λ i x b e f. (bodies_are_typed ℕ (world_of nat_eq C) F C x b o).complete (m.bodies i x b e f);
        };
      }

pub modules_are_typed : ModulesAreTyped
modules_are_typed F bytes = record { complete = by_machine F bytes; sound = by_rules F bytes }
