-- Instances of a valid module, and that none of its functions gets stuck.
-- Core Specification 3.0, Execution, Modules (Instantiation), and Appendix, Type Soundness.
use Rattle.std.specs.Prelude.{◌≡◌, ◌++◌, ℕ, Bool, false, nat_eq, List, [], map, slice_get, Some}
use Rattle.std.specs.Option.{option_map}
use Rattle.wasm_spec.specs.Features.{Features}
use Rattle.wasm_spec.specs.Values.{list_at}
use Rattle.wasm_spec.specs.MatchingTests.{World}
use Rattle.wasm_spec_steps.specs.WasmSpecRules.Attempts.{◌>>=◌}
use Rattle.wasm_spec_steps.specs.WasmSpecRules.Contexts.{Context}
use Rattle.wasm_spec_steps.specs.WasmSpecRules.IndexSpaces.{index_spaces}
use Rattle.wasm_spec_steps.specs.WasmSpecRules.Parts.{Parts}
use Rattle.wasm_spec_steps.specs.WasmSpecRules.Signatures.{Signature, signature_of}
use Rattle.wasm_spec_steps.specs.WasmSpecRules.Worlds.{world_of}
use Rattle.wasm_operators.specs.Instructions.{Instruction}
use Rattle.wasm_spec_steps.specs.Bodies.{Local, Surroundings}
use Rattle.wasm_spec_steps.specs.FunctionBodies.{Declaration, declaration_at, declared_locals, local_taken, declared_at}
use Rattle.wasm_spec_steps.specs.Sequences.{Are}
use Rattle.wasm_spec_instructions.specs.Code.{Code, Is}
use Rattle.wasm_spec_instructions.specs.ValueTypes.{vals}
use Rattle.wasm_spec_validity.specs.Modules.{context_of, IsValidModule}
use Rattle.wasm_laws_soundness.specs.BodiesByRules.{body_in}
use Rattle.wasm_laws_soundness.specs.Values.{Value, Instance, defined, hosted, Function, Exception, Store, signature_in, HaveTypes}
use Rattle.wasm_laws_soundness.specs.Outcomes.{State, stuck, falls_through, leaves, Primitives}
use Rattle.wasm_laws_soundness.specs.StoreValidity.{InstanceFits, IsTypedException}
use Rattle.wasm_laws_soundness.specs.Interpreter.{invokes, run}
use Rattle.wasm_laws_soundness.specs.Promises.{KeepsPromises}

module _ {R : Type 0} (W : World R) (F : Features) (C : Context R) where
  -- The bytes are the body of a function of the type with this index: declarations of locals and then this code, with an `end`; and these
  -- are its surroundings, with the parameters and those locals.
  pub record IsCodeOf (n : ℕ) (bytes : List ℕ) (B : Surroundings R) (c : Code) : Type 0 where
    pub signature : Signature R
    pub shared : Bool
    pub declarations : List Declaration
    pub locals : List (Local R)
    pub instructions : List (Instruction ℕ)
    pub behind : List ℕ
    pub is_function : option_map (λ d. d.comp) (declared_at W F C n) >>= signature_of ≡ Some signature
    pub is_shared : option_map (λ d. d.shared) (declared_at W F C n) ≡ Some shared
    pub listed : list_at declaration_at bytes ≡ Some (declarations, behind)
    pub declared : declared_locals F C.types declarations ≡ Some locals
    pub written : Are instructions behind []
    pub code : Is instructions c
    pub surroundings : B ≡ body_in F C shared (map local_taken signature.takes ++ locals)

  module _ (P : Primitives R) (parts : Parts) where
    -- A function of the host, of a type of functions; or one of the module, with the code of its body.
    pub data IsFunctionOf (I : Instance) (f : Function R) : Type 0 where
      of_host : {k : ℕ} (g : Signature R) → signature_in W f.type ≡ Some g → f.definition ≡ hosted k → IsFunctionOf I f
      of_module :
          {B : Surroundings R} {c : Code} (i n : ℕ) (bytes : List ℕ) → slice_get parts.functions i ≡ Some n → slice_get parts.bodies i ≡ Some bytes
          → slice_get C.types n ≡ Some f.type → IsCodeOf n bytes B c → f.definition ≡ defined B I c → IsFunctionOf I f

    -- A store of an instance of the module: each function is one of the module or of the host; what was thrown is typed; and by its indices
    -- the module finds what it declares.
    pub record IsInstance (S : Store R) (I : Instance) : Type 0 where
      pub functions : (a : ℕ) (f : Function R) → slice_get S.functions a ≡ Some f → IsFunctionOf I f
      pub exceptions : (a : ℕ) (e : Exception R) → slice_get S.exceptions a ≡ Some e → IsTypedException W S e
      pub fits : (shared : Bool) (locals : List (Local R)) → InstanceFits W P S (body_in F C shared locals) I

-- a function that is called with these arguments, and nothing below them
abbrev pub called_with : {R : Type 0} → List (Value R) → Store R → State R
called_with vs S = record { operands = vs; locals = []; store = S }

-- It is never stuck, and what it gives is of its results' types.
pub record RunsWell {R : Type 0} (W : World R) (P : Primitives R) (a : ℕ) (g : Signature R) (s : State R) : Type 0 where
  pub never_stuck : (n : ℕ) → run W P n (invokes a) s ≡ leaves stuck → ⊥
  pub results : (n : ℕ) (t : State R) → run W P n (invokes a) s ≡ falls_through t → HaveTypes W t.store t.operands (vals g.gives)

abbrev pub context_in : {F : Features} {bytes : List ℕ} → IsValidModule F bytes → Context ℕ
context_in m = context_of (index_spaces m.well_formed.types.types m.well_formed.parts) m.typed.numbering m.well_formed.parts

-- the world of its types, under their numbers
abbrev pub world_in : {F : Features} {bytes : List ℕ} → IsValidModule F bytes → World ℕ
world_in m = world_of nat_eq (context_in m)

-- Where shared types are off: in each store of an instance of a valid module, where plain instructions, tables and the host keep their
-- promises, each function that is called with arguments of its types runs well.
abbrev pub ValidModulesNeverGetStuck : Type 0
ValidModulesNeverGetStuck =
    (F : Features) (bytes : List ℕ) (m : IsValidModule F bytes) → F.shared_everything_threads ≡ false
    → (P : Primitives ℕ) → KeepsPromises (world_in m) P
    → (S : Store ℕ) (I : Instance) → IsInstance (world_in m) F (context_in m) P m.well_formed.parts S I
    → (a : ℕ) (f : Function ℕ) (g : Signature ℕ) (vs : List (Value ℕ)) → slice_get S.functions a ≡ Some f → signature_in (world_in m) f.type ≡ Some g
    → HaveTypes (world_in m) S vs (vals g.takes) → RunsWell (world_in m) P a g (called_with vs S)
