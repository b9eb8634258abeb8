-- Element segments.
use Rattle.std.proofs.Common.{◌≡◌, ℕ, Bool, true, false, refl}
use Rattle.std.specs.Option.{option_map}
use Rattle.std.specs.Prelude.{Option, Some, None, slice_get}
use Rattle.wasm_spec.specs.MatchingTests.{World, matches_val}
use Rattle.wasm_spec.specs.Syntax.{Ref, Val, i32, i64, f32, f64, v128, reference}
use Rattle.wasm_typing_checks.specs.WasmSpecRules.Contexts.{Context}
use Rattle.wasm_readers_types.specs.WasmReadersValues.SeenValues.{ref_of}
use Rattle.wasm_readers_types.specs.WasmReadersValues.declared.indices.UnpackedIndex.{UnpackedIndex}
use Rattle.wasm_readers_types.specs.WasmReadersValues.declared.values.RefType.{RefType}
use Rattle.wasm_typing_checks.specs.WasmSpecRules.Attempts.{passes}
use Rattle.wasm_typing_checks.specs.WasmSpecSteps.Machine.{same_number}
use Rattle.wasm_typing_checks.specs.WasmValidatorResources.Answers.{world}
use Rattle.wasm_typing_arrays.specs.Segments.{segment_matches}

-- no reference is a number
no_number : (W : World UnpackedIndex) (r : Ref UnpackedIndex) (v : Val UnpackedIndex) → true ≡ same_number v v → matches_val W (reference r) v ≡ false
no_number W r i32 e = refl
no_number W r i64 e = refl
no_number W r f32 e = refl
no_number W r f64 e = refl
no_number W r v128 e = refl
no_number W r (reference q) e = cc

no_numbers : (W : World UnpackedIndex) (o : Option (Ref UnpackedIndex)) (v : Val UnpackedIndex) → true ≡ same_number v v
    → passes (λ r. matches_val W (reference r) v) o ≡ false
no_numbers W None v e = refl
no_numbers W (Some r) v e = no_number W r v e

module _ (C : Context UnpackedIndex) where
  pub of_numbers : (n : ℕ) (v : Val UnpackedIndex) → true ≡ same_number v v → segment_matches C n v ≡ false
  of_numbers n v e = no_numbers (world C) (slice_get C.elements n) v e

  pub not_there : (n : ℕ) (v : Val UnpackedIndex) → option_map ref_of None ≡ slice_get C.elements n → segment_matches C n v ≡ false
  not_there n v e = rw (← e) refl

  pub compared : (n : ℕ) (r : RefType) (v : Val UnpackedIndex) (b : Bool) → option_map ref_of (Some r) ≡ slice_get C.elements n
      → matches_val (world C) (reference (ref_of r)) v ≡ b → segment_matches C n v ≡ b
  compared n r v b e f = rw (← e) f

pub ruleset segments = (of_numbers, not_there, compared)
