-- Lists of types in a few, and compared with what the body gives.
use Rattle.std.proofs.Common.{◌≡◌, ◌≢◌, Bool, true, false, ◌&&◌, List, [], ◌∷◌, length, map, get_or, refl, sym, ◌∙◌, ap, arith}
use Rattle.std.specs.Prelude.{Option, Some, None}
use Rattle.std.proofs.Math.Bool.{and-true}
use Rattle.wasm_readers_types.specs.WasmSpec.Syntax.{Val}
use Rattle.wasm_readers_types.specs.WasmSpec.MatchingTests.{World, matches_val}
use Rattle.wasm_readers_types.specs.WasmReadersValues.SeenValues.{val_of}
use Rattle.wasm_readers_types.specs.WasmReadersValues.declared.indices.UnpackedIndex.{UnpackedIndex}
use Rattle.wasm_readers_types.specs.WasmReadersValues.declared.values.ValType.{ValType}
use Rattle.wasm_typing_numbers.specs.WasmTypingChecks.WasmValidatorResources.WasmSpecRules.Attempts.{passes}
use Rattle.wasm_typing_numbers.specs.WasmSpecSteps.Matching.{matches_vals}

-- none, and one
pub none_listed : (ts : List ValType) → length ts ≡ 0 → [] ≡ map val_of ts
none_listed [] e = refl
none_listed (t ∷ ts) e = absurd (omega arith)

pub one_listed : (ts : List ValType) (t : ValType) (x : Val UnpackedIndex) → length ts ≡ 1 → x ≡ val_of (get_or ts 0 t) → x ∷ [] ≡ map val_of ts
one_listed [] t x e f = absurd (omega arith)
one_listed (u ∷ []) t x e f = rw f refl
one_listed (u ∷ w ∷ ts) t x e f = absurd (omega arith)

pub ruleset lists = (none_listed, one_listed)

and_false : (b : Bool) → (b && false) ≡ false
and_false true = refl
and_false false = refl

module _ (W : World UnpackedIndex) where
  -- against none, and against one
  pub none_matched : (ts : List ValType) → length ts ≡ 0 → true ≡ matches_vals W (map val_of ts) []
  none_matched [] e = refl
  none_matched (t ∷ ts) e = absurd (omega arith)

  pub none_unmatched : (ts : List ValType) → length ts ≢ 0 → false ≡ matches_vals W (map val_of ts) []
  none_unmatched [] h = absurd (h refl)
  none_unmatched (t ∷ ts) h = refl

  pub one_matched : (ts : List ValType) (t : ValType) (x y : Val UnpackedIndex) (b : Bool) → length ts ≡ 1 → b ≡ matches_val W (val_of (get_or ts 0 t)) y → y ≡ x → b ≡ matches_vals W (map val_of ts) (x ∷ [])
  one_matched [] t x y b e f h = absurd (omega arith)
  one_matched (u ∷ []) t x y b e f h = f ∙ ap (matches_val W (val_of u)) h ∙ sym (and-true (matches_val W (val_of u) x))
  one_matched (u ∷ w ∷ ts) t x y b e f h = absurd (omega arith)

  pub one_unmatched : (ts : List ValType) (x : Val UnpackedIndex) → length ts ≢ 1 → false ≡ matches_vals W (map val_of ts) (x ∷ [])
  one_unmatched [] x h = refl
  one_unmatched (t ∷ []) x h = absurd (h refl)
  one_unmatched (t ∷ u ∷ ts) x h = sym (and_false (matches_val W (val_of t) x))

  -- against what may not be there
  pub returned_found : (vs ws : List (Val UnpackedIndex)) (o : Option (List (Val UnpackedIndex))) (b : Bool) → o ≡ Some ws → b ≡ matches_vals W vs ws → b ≡ passes (matches_vals W vs) o
  returned_found vs ws o b e f = rw e f

  pub returned_nowhere : (vs : List (Val UnpackedIndex)) (o : Option (List (Val UnpackedIndex))) → o ≡ None → false ≡ passes (matches_vals W vs) o
  returned_nowhere vs o e = rw e refl

pub ruleset matchings = (none_matched, none_unmatched, one_matched, one_unmatched)

pub ruleset returns = (returned_found, returned_nowhere)
