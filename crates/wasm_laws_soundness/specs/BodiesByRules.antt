-- Bodies of functions and constant expressions whose instructions the rules type.
-- Core Specification 3.0, Validation, Modules (Functions), and Instructions (Expressions, Constant Expressions).
use Rattle.std.specs.Prelude.{◌≡◌, ◌≤◌, ◌++◌, ℕ, Bool, true, List, [], ◌∷◌, map, length, Some}
use Rattle.std.specs.Option.{option_map}
use Rattle.std.specs.List.{All}
use Rattle.wasm_spec.specs.Syntax.{Val}
use Rattle.wasm_spec.specs.Features.{Features}
use Rattle.wasm_spec.specs.Values.{list_at}
use Rattle.wasm_spec.specs.MatchingTests.{World}
use Rattle.wasm_spec.specs.Limits.{most_locals}
use Rattle.wasm_spec_steps.specs.WasmSpecRules.Attempts.{◌>>=◌}
use Rattle.wasm_spec_steps.specs.WasmSpecRules.Contexts.{Context}
use Rattle.wasm_spec_steps.specs.WasmSpecRules.Signatures.{Signature, signature_of}
use Rattle.wasm_operators.specs.Instructions.{Instruction}
use Rattle.wasm_spec_steps.specs.Bodies.{Local, Surroundings}
use Rattle.wasm_spec_steps.specs.ConstantRules.{is_allowed}
use Rattle.wasm_spec_steps.specs.FunctionBodies.{Declaration, declaration_at, declared_locals, local_taken, declared_at}
use Rattle.wasm_spec_steps.specs.Sequences.{Are}
use Rattle.wasm_spec_instructions.specs.Expressions.{IsTypedExpression}

-- what a body with these locals is typed in
abbrev pub body_in : {R : Type 0} → Features → Context R → Bool → List (Local R) → Surroundings R
body_in F C shared ls = record { features = F; context = C; locals = ls; shared = shared }

module _ {R : Type 0} (W : World R) (F : Features) (C : Context R) where
  -- The bytes are the body of a function of the type with this index: declarations of locals and then an expression, which gives the
  -- results of the type, where the locals are its parameters and those declared.
  pub record IsTypedBody (n : ℕ) (bytes : List ℕ) : Type 0 where
    pub signature : Signature R
    pub shared : Bool
    pub declarations : List Declaration
    pub locals : List (Local R)
    pub instructions : List (Instruction ℕ)
    pub behind : List ℕ
    pub is_function : option_map (λ d. d.comp) (declared_at W F C n) >>= signature_of ≡ Some signature
    pub is_shared : option_map (λ d. d.shared) (declared_at W F C n) ≡ Some shared
    pub listed : list_at declaration_at bytes ≡ Some (declarations, behind)
    pub declared : declared_locals F C.types declarations ≡ Some locals
    pub few : length (map local_taken signature.takes ++ locals) ≤ most_locals
    pub written : Are instructions behind []
    pub typed : IsTypedExpression W (body_in F C shared (map local_taken signature.takes ++ locals)) signature.gives instructions

-- The bytes are a constant expression of this type: an expression of instructions that it may have.
pub record IsTypedConstant {R : Type 0} (W : World R) (B : Surroundings R) (imported : ℕ) (v : Val R) (bytes : List ℕ) : Type 0 where
  pub instructions : List (Instruction ℕ)
  pub written : Are instructions bytes []
  pub allowed : All (λ op. is_allowed B imported op ≡ true) instructions
  pub typed : IsTypedExpression W B (v ∷ []) instructions
