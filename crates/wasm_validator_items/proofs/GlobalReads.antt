-- A global that is read and typed in one pass is read and then added.
use Rattle.std.proofs.Common.{◌≡◌, sym, ap, ◌∙◌, ℕ, if◌then◌else◌, List, Option, None, option_map}
use Rattle.std.specs.Option.{option_and_then}
use Rattle.wasm_spec.specs.Syntax.{Sub, Global, map_global}
use Rattle.wasm_spec.specs.BinaryTypes.{global_at}
use Rattle.wasm_spec.specs.BinarySections.{GlobalEntry, global_entry_at}
use Rattle.wasm_spec.specs.Features.{Features}
use Rattle.wasm_spec_rules.specs.Parts.{Expression}
use Rattle.wasm_readers.specs.WrittenIndices.{written}
use Rattle.wasm_readers_types.specs.WasmReadersValues.declared.indices.UnpackedIndex.{UnpackedIndex}
use Rattle.wasm_validator_core.specs.WasmValidatorCanonical.Indices.{canonical_index}
use Rattle.wasm_validator_core.specs.WasmValidatorChecks.Items.{is_valid_global}
use Rattle.wasm_validator_segments.specs.WasmValidatorReferences.WasmSpecValidity.Expressions.{expression_at}
use Rattle.wasm_validator_types.specs.Spaces.{Spaces}
use Rattle.wasm_validator_core.specs.Answers.{TypesSoFar}
use Rattle.wasm_validator_core.specs.Items.{types_of_module, with_global}
use Rattle.wasm_validator_items.specs.Machine.{with_written, global_step}
use Rattle.wasm_validator_items.specs.Entries.{is_constant_of, add_global_entry}
use Rattle.wasm_validator_items.proofs.Attempts.{beside, added, then_mapped, then_then, then_same, both_tests}
use Rattle.wasm_validator_items.proofs.InitializerReads.{initializer_is}

module _ (F : Features) (declares : List (UnpackedIndex × Sub UnpackedIndex)) (us : TypesSoFar) (s : Spaces) where
  -- a global of this type with an initializer
  abbrev entry : Global UnpackedIndex → Expression × List ℕ → GlobalEntry Expression UnpackedIndex × List ℕ
  entry g e = (record { ty = g; init = e.0 }, e.1)

  abbrev add : GlobalEntry Expression UnpackedIndex → Option Spaces
  add = add_global_entry F declares us s

  typed : (g : Global UnpackedIndex) (bytes : List ℕ) → with_written F declares us s g bytes ≡ added add (option_map (entry g) (expression_at bytes))
  typed g bytes =
      let listed : Global UnpackedIndex = map_global (canonical_index s.types) g in
      ap (λ (o : Option (List ℕ)). if is_valid_global F (types_of_module us s) g then option_and_then (λ more. option_map (beside more) (with_global s listed)) o else None)
      (initializer_is F declares s listed.content bytes)
      ∙ both_tests (is_valid_global F (types_of_module us s) g) (is_constant_of F declares s listed.content) (with_global s listed) (expression_at bytes)
      ∙ sym (then_mapped (λ (x : GlobalEntry Expression UnpackedIndex × List ℕ). option_map (beside x.1) (add x.0)) (entry g) (expression_at bytes))

  pub global_is_added : (bytes : List ℕ) → global_step F declares us s bytes ≡ added add (global_entry_at expression_at written bytes)
  unfolding global_step global_entry_at
  global_is_added bytes =
      then_same (λ (g : Global UnpackedIndex × List ℕ). with_written F declares us s g.0 g.1) (λ g. added add (option_map (entry g.0) (expression_at g.1))) (λ g. typed g.0 g.1) (global_at written bytes)
      ∙ sym (then_then (λ (x : GlobalEntry Expression UnpackedIndex × List ℕ). option_map (beside x.1) (add x.0)) (λ g. option_map (entry g.0) (expression_at g.1)) (global_at written bytes))
