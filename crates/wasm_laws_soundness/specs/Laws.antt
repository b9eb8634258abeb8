-- Typed code is never stuck. Core Specification 3.0, Appendix, Type Soundness (Theorem).
use Rattle.std.specs.Prelude.{◌≡◌, ℕ, List, [], ◌++◌, Some, slice_get, length}
use Rattle.wasm_spec_steps.specs.WasmSpecRules.WasmSpec.MatchingTests.{World}
use Rattle.wasm_spec_steps.specs.WasmSpecRules.Signatures.{Signature}
use Rattle.wasm_spec_steps.specs.Bodies.{Surroundings}
use Rattle.wasm_spec_instructions.specs.Code.{Code}
use Rattle.wasm_spec_instructions.specs.ValueTypes.{ValueType, vals, IsInOrder}
use Rattle.wasm_spec_instructions.specs.Scopes.{Scope}
use Rattle.wasm_spec_instructions.specs.Sequences.{Typed}
use Rattle.wasm_laws_soundness.specs.Values.{Instance, Function, signature_in}
use Rattle.wasm_laws_soundness.specs.Outcomes.{State, stuck, falls_through, leaves, Primitives}
use Rattle.wasm_laws_soundness.specs.StoreValidity.{Fits, IsPromised, FunctionsMatch}
use Rattle.wasm_laws_soundness.specs.Interpreter.{does, invokes, run}
use Rattle.wasm_laws_soundness.specs.Promises.{KeepsPromises}

-- Matching of types is an order, and functions match as their types do; and plain instructions, tables and the host keep their promises.
pub record AreSound {R : Type 0} (W : World R) (P : Primitives R) : Type 0 where
  pub in_order : IsInOrder W
  pub functions : FunctionsMatch W
  pub keep : KeepsPromises W P

-- For every number of steps: code that the rules type, from operands, locals and a store that fit, has an outcome that its typing promises.
abbrev pub Soundness : (R : Type 0) → Type 0
Soundness R =
    (W : World R) (P : Primitives R) → AreSound W P
    → (B : Surroundings R) (I : Instance) (C : Scope R) (c : Code) (ts : List (ValueType R)) (xs : List ℕ) (us : List (ValueType R)) → Typed W B C c ts xs us
    → (n : ℕ) (s : State R) → Fits W P B I s.store C.sets ts s → IsPromised W P B I s.store C xs us (run W P n (does B I c) s)

-- So it is never stuck.
abbrev pub NeverStuck : (R : Type 0) → Type 0
NeverStuck R =
    (W : World R) (P : Primitives R) → AreSound W P
    → (B : Surroundings R) (I : Instance) (C : Scope R) (c : Code) (ts : List (ValueType R)) (xs : List ℕ) (us : List (ValueType R)) → Typed W B C c ts xs us
    → (n : ℕ) (s : State R) → Fits W P B I s.store C.sets ts s → run W P n (does B I c) s ≡ leaves stuck → ⊥

-- And so are the functions of a store that fits, called by their addresses, whatever lies below their arguments.
abbrev pub FunctionsAreSound : (R : Type 0) → Type 0
FunctionsAreSound R =
    (W : World R) (P : Primitives R) → AreSound W P
    → (B : Surroundings R) (I : Instance) (C : Scope R) (a : ℕ) (f : Function R) (g : Signature R) (rest : List (ValueType R)) (n : ℕ) (s : State R)
    → slice_get s.store.functions a ≡ Some f → signature_in W f.type ≡ Some g → Fits W P B I s.store C.sets (rest ++ vals g.takes) s
    → IsPromised W P B I s.store C [] (rest ++ vals g.gives) (run W P n (invokes a) s)

-- Where code falls through, it leaves as many operands as its typing says.
abbrev pub HeightsAreAsTyped : (R : Type 0) → Type 0
HeightsAreAsTyped R =
    (W : World R) (P : Primitives R) → AreSound W P
    → (B : Surroundings R) (I : Instance) (C : Scope R) (c : Code) (ts : List (ValueType R)) (xs : List ℕ) (us : List (ValueType R)) → Typed W B C c ts xs us
    → (n : ℕ) (s t : State R) → Fits W P B I s.store C.sets ts s → run W P n (does B I c) s ≡ falls_through t → length t.operands ≡ length us
