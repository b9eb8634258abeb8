-- An expression of a type, as it is typed by a validator that begins it.
use Rattle.std.proofs.Common.{◌≡◌, ◌∙◌, sym, ap, ℕ, Bool, false, List, [], Option, Ok, Err}
use Rattle.std.specs.Option.{option_map}
use Rattle.wasm_spec.specs.Syntax.{Val}
use Rattle.wasm_spec_rules.specs.Contexts.{Context}
use Rattle.wasm_spec_rules.specs.FeatureFlags.{features_of}
use Rattle.wasm_readers_errors.specs.declared.error.Error.{Error}
use Rattle.wasm_readers_errors.specs.declared.error.Error.TheVariants.{Refused, OutOfMemory}
use Rattle.wasm_readers_errors.specs.WasmReadersFeatures.declared.features.WasmFeatures.{WasmFeatures}
use Rattle.wasm_readers_types.specs.WasmReadersValues.declared.indices.UnpackedIndex.{UnpackedIndex}
use Rattle.wasm_operators.specs.Control.{value_block}
use Rattle.wasm_spec_steps.specs.Bodies.{Local}
use Rattle.wasm_spec_steps.specs.Machine.{State}
use Rattle.wasm_spec_steps.specs.Steps.{start}
use Rattle.wasm_validator_resources.specs.Answers.{world}
use Rattle.wasm_validator_constants.specs.WasmTypingStacks.BodyStacks.{surroundings}
use Rattle.wasm_validator_constants.specs.BodyTyping.{typed_state, BeginsConstant}
use Rattle.wasm_validator_constants.specs.OperatorValidator.{OperatorValidator}
use Rattle.wasm_validator_constants.specs.Constants.{constant_from, constant_names}
use Rattle.wasm_validator_constants.proofs.NamedFunctions.{names_of_typed}
use Rattle.wasm_validator_constants.specs.WasmValidatorReferences.Notes.{noting}
use Rattle.wasm_validator_constants.specs.WasmValidatorReferences.References.{names_of_expression}
use Rattle.wasm_validator_constants.specs.TypedInstructions.{within, ReadsTo}
use Rattle.wasm_validator_segments.specs.Answers.{Refuses, GoesPast}
use Rattle.wasm_validator_segments.specs.Expressions.{around_constants, behind_expression}

module _ {A : Type 0} (v : OperatorValidator A) (C : Context UnpackedIndex) (f : WasmFeatures) (n : ℕ) (t : Val UnpackedIndex) (bytes : List ℕ) where
  abbrev Found : Type 0
  Found = Option (State UnpackedIndex × List ℕ)

  abbrev from_validator : Found
  from_validator = constant_from (world C) (within v C) n (typed_state v) bytes

  begun : BeginsConstant v t → v.stacks.features ≡ f → from_validator ≡ constant_from (world C) (around_constants C (features_of f)) n (start (value_block t)) bytes
  begun b e =
      ap (λ (s : State UnpackedIndex). constant_from (world C) (within v C) n s bytes) b.state
      ∙ ap (λ (l : List (Local UnpackedIndex)). constant_from (world C) (surroundings (features_of v.stacks.features) v.stacks.is_shared C l) n (start (value_block t)) bytes) b.locals
      ∙ ap (λ (x : Bool). constant_from (world C) (surroundings (features_of v.stacks.features) x C []) n (start (value_block t)) bytes) b.shared
      ∙ ap (λ (x : WasmFeatures). constant_from (world C) (surroundings (features_of x) false C []) n (start (value_block t)) bytes) e

  pub goes_past : (x : Unit {0}) {X : Type 0} (y : X) (w : State UnpackedIndex) (more : List ℕ) → BeginsConstant v t → v.stacks.features ≡ f → ReadsTo (Ok x) from_validator w more
      → GoesPast (Ok y) (behind_expression C (features_of f) n t bytes) more
  unfolding behind_expression
  goes_past x y w more b e r = ap (option_map (λ (p : State UnpackedIndex × List ℕ). p.1)) (sym (begun b e) ∙ r)

  pub goes_nowhere : (e : Error) (w : State UnpackedIndex) (more : List ℕ) → BeginsConstant v t → v.stacks.features ≡ f → ReadsTo (Err e) from_validator w more
      → Refuses e (behind_expression C (features_of f) n t bytes)
  unfolding behind_expression
  goes_nowhere (Refused r) w more b e o = ap (option_map (λ (p : State UnpackedIndex × List ℕ). p.1)) (sym (begun b e) ∙ o)
  goes_nowhere OutOfMemory w more b e o = tt

  -- the functions that were noted on the way
  names_begun : BeginsConstant v t → v.stacks.features ≡ f → constant_names (world C) (within v C) n (typed_state v) bytes ≡ constant_names (world C) (around_constants C (features_of f)) n (start (value_block t)) bytes
  names_begun b e =
      ap (λ (s : State UnpackedIndex). constant_names (world C) (within v C) n s bytes) b.state
      ∙ ap (λ (l : List (Local UnpackedIndex)). constant_names (world C) (surroundings (features_of v.stacks.features) v.stacks.is_shared C l) n (start (value_block t)) bytes) b.locals
      ∙ ap (λ (x : Bool). constant_names (world C) (surroundings (features_of v.stacks.features) x C []) n (start (value_block t)) bytes) b.shared
      ∙ ap (λ (x : WasmFeatures). constant_names (world C) (surroundings (features_of x) false C []) n (start (value_block t)) bytes) e

  pub names_noted : {S : Type 0} (note : ℕ → S → S) (kept next : S) (x : Unit {0}) (w : State UnpackedIndex) (more : List ℕ) → BeginsConstant v t → v.stacks.features ≡ f → ReadsTo (Ok x) from_validator w more
      → next ≡ noting note (constant_names (world C) (within v C) n (typed_state v) bytes) kept → next ≡ noting note (names_of_expression bytes) kept
  names_noted note kept next x w more b e r h =
      h ∙ ap (λ (xs : List ℕ). noting note xs kept) (names_begun b e ∙ names_of_typed (world C) (around_constants C (features_of f)) n t bytes w more (sym (begun b e) ∙ r))
