-- Values, what a store holds, and which values are of a type.
-- Core Specification 3.0, Execution, Runtime Structure (Values, Store, Module Instances, Function Instances, Exception Instances), and
-- Appendix, Type Soundness (Values).
use Rattle.std.specs.Prelude.{◌≡◌, ℕ, Bool, true, false, List, [], ◌∷◌, Option, Some, slice_get, is_some, not}
use Rattle.wasm_spec_steps.specs.WasmSpecRules.WasmSpec.Syntax.{AbstractHeap, func_heap, nofunc_heap, exn_heap, noexn_heap, Heap, abstract_heap, concrete, exact, Ref, Val, i32, i64, f32, f64, v128, reference}
use Rattle.wasm_spec_steps.specs.WasmSpecRules.WasmSpec.MatchingTests.{World, matches_heap}
use Rattle.wasm_spec_steps.specs.WasmSpecRules.Attempts.{◌>>=◌, passes}
use Rattle.wasm_spec_steps.specs.WasmSpecRules.Signatures.{Signature, signature_of}
use Rattle.wasm_spec_steps.specs.Bodies.{Surroundings}
use Rattle.wasm_spec_instructions.specs.Code.{Code}
use Rattle.wasm_spec_instructions.specs.ValueTypes.{ValueType, reference_to_bot, val}

-- Numbers and vectors by their bits; null; a function and an exception by its address in the store; and references of all other kinds, by
-- the least heap type that they have and a number.
pub data Value (R : Type 0) : Type 0 where
  i32_value i64_value f32_value f64_value v128_value : ℕ → Value R
  null : Value R
  function_at exception_at : ℕ → Value R
  other : Heap R → ℕ → Value R

-- what a module reaches by its indices: the addresses of its functions, of its tags, and of all else
pub record Instance : Type 0 where
  pub functions : List ℕ
  pub tags : List ℕ
  pub others : List ℕ

-- Functions: code, with what it is typed in and where its module finds things; and those of the host, by a number.
pub data Definition (R : Type 0) : Type 0 where
  defined : Surroundings R → Instance → Code → Definition R
  hosted : ℕ → Definition R

pub record Function (R : Type 0) : Type 0 where
  pub type : R
  pub definition : Definition R

-- what was thrown: the address of its tag, and values
pub record Exception (R : Type 0) : Type 0 where
  pub tag : ℕ
  pub values : List (Value R)

-- functions, the types of what each tag carries, exceptions that were thrown, and all else: rows of values
pub record Store (R : Type 0) : Type 0 where
  pub functions : List (Function R)
  pub tags : List (List (Val R))
  pub exceptions : List (Exception R)
  pub contents : List (List (Value R))

abbrev pub exception_heap : {R : Type 0} → Heap R
exception_heap = abstract_heap false exn_heap

-- heap types of functions and of exceptions
abbrev pub is_callable : AbstractHeap → Bool
is_callable func_heap = true
is_callable nofunc_heap = true
is_callable exn_heap = true
is_callable noexn_heap = true
is_callable _ = false

module _ {R : Type 0} (W : World R) where
  -- the signature of a defined type, where it is one of functions
  abbrev pub signature_in : R → Option (Signature R)
  signature_in a = W.declared a >>= λ s. signature_of s.comp

  -- neither of functions nor of exceptions
  abbrev pub is_apart : Heap R → Bool
  is_apart (abstract_heap s k) = not (is_callable k)
  is_apart (concrete a) = not (is_some (signature_in a))
  is_apart (exact a) = not (is_some (signature_in a))

  -- whether a reference is of this type: what a cast tests
  abbrev pub is_of : Store R → Ref R → Value R → Bool
  is_of S r null = r.nullable
  is_of S r (function_at a) = passes (λ f. matches_heap W (exact f.type) r.heap) (slice_get S.functions a)
  is_of S r (exception_at a) = matches_heap W exception_heap r.heap
  is_of S r (other h n) = matches_heap W h r.heap
  is_of S r _ = false

module _ {R : Type 0} (W : World R) (S : Store R) where
  -- No value is of the type `bot`, and null alone is of a reference type to it.
  pub data HasType : Value R → ValueType R → Type 0 where
    is_i32 : {n : ℕ} → HasType (i32_value n) (val i32)
    is_i64 : {n : ℕ} → HasType (i64_value n) (val i64)
    is_f32 : {n : ℕ} → HasType (f32_value n) (val f32)
    is_f64 : {n : ℕ} → HasType (f64_value n) (val f64)
    is_v128 : {n : ℕ} → HasType (v128_value n) (val v128)
    is_null : {r : Ref R} → r.nullable ≡ true → HasType null (val (reference r))
    is_null_of_bot : HasType null (reference_to_bot true)
    -- a function is exactly of its type
    is_function :
        {a : ℕ} {r : Ref R} (f : Function R)
        → slice_get S.functions a ≡ Some f → matches_heap W (exact f.type) r.heap ≡ true → HasType (function_at a) (val (reference r))
    is_exception :
        {a : ℕ} {r : Ref R} (e : Exception R)
        → slice_get S.exceptions a ≡ Some e → matches_heap W exception_heap r.heap ≡ true → HasType (exception_at a) (val (reference r))
    is_other : {h : Heap R} {n : ℕ} {r : Ref R} → is_apart W h ≡ true → matches_heap W h r.heap ≡ true → HasType (other h n) (val (reference r))

  -- place by place
  pub data HaveTypes : List (Value R) → List (ValueType R) → Type 0 where
    no_values : HaveTypes [] []
    and_value : {v : Value R} {vs : List (Value R)} {t : ValueType R} {ts : List (ValueType R)} → HasType v t → HaveTypes vs ts → HaveTypes (v ∷ vs) (t ∷ ts)
