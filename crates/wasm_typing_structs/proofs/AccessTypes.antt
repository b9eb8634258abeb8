-- The types that an atomic access allows.
use Rattle.std.proofs.Common.{◌≡◌, Bool, true, false, ◌&&◌, ◌||◌, [], ◌∷◌, refl, ◌∙◌}
use Rattle.wasm_spec.specs.Syntax.{AbstractHeap, abstract_heap, Ref, i32, i64, f32, f64, v128, reference}
use Rattle.wasm_spec.specs.MatchingTests.{World, matches_val}
use Rattle.wasm_readers_types.specs.WasmReadersValues.declared.indices.UnpackedIndex.{UnpackedIndex}
use Rattle.wasm_typing_checks.specs.WasmSpecSteps.Access.{Access}
use Rattle.wasm_typing_checks.specs.WasmSpecSteps.Access.TheVariants as access
use Rattle.wasm_typing_checks.specs.WasmSpecSteps.Matching.{match_some}
use Rattle.wasm_typing_checks.specs.WasmSpecSteps.Meanings.{ref_to}
use Rattle.wasm_typing_structs.specs.AtomicOperands.{with_below, allowed_of}

alone : (b : Bool) → b ≡ ((b || false) && true)
alone true = refl
alone false = refl

module _ (W : World UnpackedIndex) where
  pub i32_allowed : (shared : Bool) (a : Access) → true ≡ match_some W (allowed_of shared a) (i32 ∷ [])
  i32_allowed shared access.Get = refl
  i32_allowed shared access.Set = refl
  i32_allowed shared access.Compute = refl
  i32_allowed shared access.Exchange = refl
  i32_allowed shared access.Compare = refl

  pub i64_allowed : (shared : Bool) (a : Access) → true ≡ match_some W (allowed_of shared a) (i64 ∷ [])
  i64_allowed shared access.Get = refl
  i64_allowed shared access.Set = refl
  i64_allowed shared access.Compute = refl
  i64_allowed shared access.Exchange = refl
  i64_allowed shared access.Compare = refl

  pub f32_barred : (shared : Bool) (a : Access) → false ≡ match_some W (allowed_of shared a) (f32 ∷ [])
  f32_barred shared access.Get = refl
  f32_barred shared access.Set = refl
  f32_barred shared access.Compute = refl
  f32_barred shared access.Exchange = refl
  f32_barred shared access.Compare = refl

  pub f64_barred : (shared : Bool) (a : Access) → false ≡ match_some W (allowed_of shared a) (f64 ∷ [])
  f64_barred shared access.Get = refl
  f64_barred shared access.Set = refl
  f64_barred shared access.Compute = refl
  f64_barred shared access.Exchange = refl
  f64_barred shared access.Compare = refl

  pub v128_barred : (shared : Bool) (a : Access) → false ≡ match_some W (allowed_of shared a) (v128 ∷ [])
  v128_barred shared access.Get = refl
  v128_barred shared access.Set = refl
  v128_barred shared access.Compute = refl
  v128_barred shared access.Exchange = refl
  v128_barred shared access.Compare = refl

  -- a reference is allowed where it is below the heap type
  pub below_allowed : (shared : Bool) (k : AbstractHeap) (r : Ref UnpackedIndex) (b : Bool) → b ≡ matches_val W (reference r) (ref_to true (abstract_heap shared k))
      → b ≡ match_some W (with_below shared k) (reference r ∷ [])
  below_allowed shared k r b e = e ∙ alone (matches_val W (reference r) (ref_to true (abstract_heap shared k)))

pub ruleset allowing = (i32_allowed, i64_allowed, f32_barred, f64_barred, v128_barred, below_allowed)
