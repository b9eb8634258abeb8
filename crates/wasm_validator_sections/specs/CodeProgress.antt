-- What stands of a module's code, from the start of its code section on.
use Rattle.std.specs.Prelude.{ℕ, suc, ◌-◌}
use Rattle.wasm_spec_rules.specs.Contexts.{Context}
use Rattle.wasm_readers_types.specs.WasmReadersValues.declared.indices.UnpackedIndex.{UnpackedIndex}
use Rattle.wasm_validator_items.specs.WasmValidatorCoreResources.ModuleContexts.{flagged_from}
use Rattle.wasm_laws_modules.specs.BodyContexts.{code_context}
use Rattle.wasm_validator_types.specs.Spaces.{Spaces}
use Rattle.wasm_validator_items.specs.WasmValidatorCore.Answers.{TypesSoFar}
use Rattle.wasm_validator_sections.specs.Bodies.{expected_bodies}
use Rattle.wasm_validator_sections.specs.declared.code_state.CodeState.{CodeState}
use Rattle.wasm_validator_sections.specs.ModuleNotes.{Noted}

-- What bodies are checked in once the code section has started, and how many of them were taken.
pub record Started : Type 0 where
  pub context : Context UnpackedIndex
  pub taken : ℕ

-- the start of the code of a module with these lists, where these are the types of all modules
abbrev pub starting : TypesSoFar → Spaces → Noted → Started
starting us s n = record { context = code_context us s n.data_count (flagged_from 0 n.referenced); taken = 0 }

-- one body more was taken, and so many are to come
abbrev pub taking : Started → Started
taking c = record c { taken = suc c.taken }

abbrev pub bodies_left : Spaces → Started → ℕ
bodies_left s c = expected_bodies s - c.taken

abbrev pub started_of : {A : Type 0} → CodeState A → Started
started_of c = record { context = c.resources; taken = c.taken }
