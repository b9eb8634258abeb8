-- Equal types match.
use Rattle.std.proofs.Common.{◌≡◌, refl, ap, ℕ, zero, suc, Bool, true, false, ◌&&◌, ◌||◌, List, [], ◌∷◌, length}
use Rattle.wasm_spec_rules.specs.WasmSpec.Syntax.{AbstractHeap, any_heap, eq_heap, i31_heap, struct_heap, array_heap, none_heap, func_heap, nofunc_heap, extern_heap, noextern_heap, exn_heap, noexn_heap, cont_heap, nocont_heap, Heap, abstract_heap, concrete, exact, Val, i32, i64, f32, f64, v128, reference, Sub}
use Rattle.wasm_spec_rules.specs.WasmSpec.ValueTypes.{implies}
use Rattle.wasm_spec_rules.specs.WasmSpec.MatchingTests.{World, same_flag, matches_abstract, matches_heap, matches_val}
use Rattle.wasm_spec_rules.specs.Worlds.{is_below}
use Rattle.wasm_spec_steps.specs.Matching.{matches_vals}
use Rattle.wasm_spec_steps.specs.StackLaws.{EqualTypesMatch, EqualTypesMatchInContexts}

both : (a b : Bool) → a ≡ true → b ≡ true → (a && b) ≡ true
both a b p q = λ i. p i && q i

flag-self : (b : Bool) → same_flag b b ≡ true
flag-self true = refl
flag-self false = refl

implies-self : (b : Bool) → implies b b ≡ true
implies-self true = refl
implies-self false = refl

abstract-self : (k : AbstractHeap) → matches_abstract k k ≡ true
abstract-self any_heap = refl
abstract-self eq_heap = refl
abstract-self i31_heap = refl
abstract-self struct_heap = refl
abstract-self array_heap = refl
abstract-self none_heap = refl
abstract-self func_heap = refl
abstract-self nofunc_heap = refl
abstract-self extern_heap = refl
abstract-self noextern_heap = refl
abstract-self exn_heap = refl
abstract-self noexn_heap = refl
abstract-self cont_heap = refl
abstract-self nocont_heap = refl

module _ {R : Type 0} (W : World R) (below : (a : R) → W.below a a ≡ true) (same : (a : R) → W.same a a ≡ true) where
  heap-self : (x : Heap R) → matches_heap W x x ≡ true
  heap-self (abstract_heap s k) = both (same_flag s s) (matches_abstract k k) (flag-self s) (abstract-self k)
  heap-self (concrete a) = below a
  heap-self (exact a) = same a

  pub matches_val-self : (v : Val R) → matches_val W v v ≡ true
  matches_val-self i32 = refl
  matches_val-self i64 = refl
  matches_val-self f32 = refl
  matches_val-self f64 = refl
  matches_val-self v128 = refl
  matches_val-self (reference r) = both (implies r.nullable r.nullable) (matches_heap W r.heap r.heap) (implies-self r.nullable) (heap-self r.heap)

  pub matches_vals-self : (vs : List (Val R)) → matches_vals W vs vs ≡ true
  matches_vals-self [] = refl
  matches_vals-self (v ∷ vs) = both (matches_val W v v) (matches_vals W vs vs) (matches_val-self v) (matches_vals-self vs)

or-first : (a b : Bool) → a ≡ true → (a || b) ≡ true
or-first a b e = ap (λ (c : Bool). c || b) e

below-self : {R : Type 0} (same : R → R → Bool) → ((a : R) → same a a ≡ true) → (ds : List (R × Sub R)) (n : ℕ) (a : R) → is_below same ds n a a ≡ true
below-self same h ds zero a = h a
below-self same h ds (suc n) a = or-first (same a a) _ (h a)

pub equal_types_match : {R : Type 0} → EqualTypesMatch R
equal_types_match W below same = record { val = matches_val-self W below same; vals = matches_vals-self W below same; operand = matches_val-self W below same }

pub equal_types_match_in_contexts : {R : Type 0} → EqualTypesMatchInContexts R
equal_types_match_in_contexts same C h = equal_types_match _ (below-self same h C.declares (length C.declares)) h

pub ruleset themselves = (equal_types_match, equal_types_match_in_contexts)
