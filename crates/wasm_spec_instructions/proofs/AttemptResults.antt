-- What attempts have found: one type, a written type, and a reference to a type of the context.
use Rattle.std.proofs.Common.{◌≡◌, refl, sym, ap, true, List, [], ◌∷◌, Option, Some, None, option_map}
use Rattle.wasm_spec_steps.specs.WasmSpecRules.WasmSpec.Syntax.{concrete, Val, reference}
use Rattle.wasm_spec_steps.specs.WasmSpecRules.Attempts.{◌>>=◌}
use Rattle.wasm_spec_steps.specs.Meanings as meaning
use Rattle.wasm_spec_instructions.specs.ValueTypes.{reference_at}
use Rattle.wasm_spec_instructions.proofs.Attempts.{the_same, absent}

-- what an attempt has found
pub mapped : {A X : Type 0} (f : A → X) (o : Option A) (x : X) → option_map f o ≡ Some x → (a : A) × (o ≡ Some a) × (x ≡ f a)
mapped f None x e = absurd (absent x e)
mapped f (Some a) x e = (a, refl, sym (the_same (f a) x e))

pub single : {A R : Type 0} (f : A → Val R) (o : Option A) (us : List (Val R)) → meaning.one (option_map f o) ≡ Some us → (a : A) × (o ≡ Some a) × (us ≡ f a ∷ [])
single f None us e = absurd (absent us e)
single f (Some a) us e = (a, refl, sym (the_same (f a ∷ []) us e))

-- a reference type, or null, to a type of the context, and types behind it
abbrev pub null_and : {R : Type 0} → List (Val R) → Option R → Option (List (Val R))
null_and rs o = option_map reference (option_map (λ h. record { nullable = true; heap = h }) (option_map concrete o)) >>= λ w. Some (w ∷ rs)

pub null_to : {R : Type 0} (rs : List (Val R)) (o : Option R) (vs : List (Val R)) → null_and rs o ≡ Some vs → (a : R) × (o ≡ Some a) × (vs ≡ reference_at true (concrete a) ∷ rs)
null_to rs None vs e = absurd (absent vs e)
null_to rs (Some a) vs e = (a, refl, sym (the_same (reference_at true (concrete a) ∷ rs) vs e))

pub by_null_to : {R : Type 0} (rs : List (Val R)) (o : Option R) (a : R) → o ≡ Some a → null_and rs o ≡ Some (reference_at true (concrete a) ∷ rs)
by_null_to rs o a e = ap (null_and rs) e

-- a written type of the context
pub found_one : {A R : Type 0} (f : A → Val R) (o : Option A) (vs : List (Val R)) → (option_map f o >>= λ w. Some (w ∷ [])) ≡ Some vs → (a : A) × (o ≡ Some a) × (vs ≡ f a ∷ [])
found_one f None vs e = absurd (absent vs e)
found_one f (Some a) vs e = (a, refl, sym (the_same (f a ∷ []) vs e))
