-- Constant expressions over other identities of types.
use Rattle.std.proofs.Common.{◌≡◌, refl, sym, ap, ◌∙◌, ℕ, true, List, map, Option, Some, None, option_map, slice_get, ◌&&◌}
use Rattle.std.specs.List.{All}
use Rattle.std.proofs.lemmas.List.Elements.{All-weaker}
use Rattle.std.proofs.lemmas.Option.{slice_get-map}
use Rattle.wasm_spec.specs.Features.{Features}
use Rattle.wasm_spec.specs.MatchingTests.{World}
use Rattle.wasm_spec.specs.Syntax.{Global, map_global}
use Rattle.wasm_operators.specs.Instructions as instruction
use Rattle.wasm_operators.specs.Instructions.{Instruction}
use Rattle.wasm_operators.specs.WasmOperatorsPlain.declared.variables.VariableOperator.TheVariants.{LocalGet, LocalSet, LocalTee, GlobalGet, GlobalSet}
use Rattle.wasm_spec_steps.specs.WasmSpecRules.Contexts.{Context}
use Rattle.wasm_spec_steps.specs.Bodies.{Surroundings, map_surroundings}
use Rattle.wasm_spec_steps.specs.ConstantExpressions.{is_constant}
use Rattle.wasm_spec_steps.specs.ConstantRules.{may_be_read, is_readable, is_allowed, IsConstantExpression}
use Rattle.wasm_spec_steps.specs.Machine.{State, map_state}
use Rattle.wasm_spec_steps.specs.Renaming.{Renames}
use Rattle.wasm_spec_steps.specs.Steps.{steps_in, is_finished}
use Rattle.wasm_spec_steps.proofs.StepsRenamed.{steps_in-map, is_finished-map}
use Rattle.wasm_spec_validity.specs.OtherContexts.{elsewhere, ConstantsRename}
use Rattle.wasm_spec_validity.proofs.ConstantContexts.{steps_same}

none : {P X : Type 0} (x : X) → None ≡ Some x → P
none x e = absurd cc

-- a value behind a map comes from one before it
from_map : {X Y : Type 0} (g : X → Y) (o : Option X) (y : Y) → option_map g o ≡ Some y → (x : X) × (o ≡ Some x) × (g x ≡ y)
from_map g None y e = none y e
from_map g (Some x) y e = (x, refl, cc)

module _ {R S : Type 0} (f : R → S) (F : Features) (imported : ℕ) where
  read-map : (x : ℕ) (o : Option (Global R)) → may_be_read F imported x (option_map (map_global f) o) ≡ may_be_read F imported x o
  read-map x None = refl
  read-map x (Some g) = refl

  readable-map : (gs : List (Global R)) (op : Instruction ℕ) → is_readable F imported (map (map_global f) gs) op ≡ is_readable F imported gs op
  readable-map gs (instruction.variable (GlobalGet x)) = ap (may_be_read F imported x) (slice_get-map (map_global f) gs x) ∙ read-map x (slice_get gs x)
  readable-map gs (instruction.variable (GlobalSet x)) = refl
  readable-map gs (instruction.variable (LocalGet x)) = refl
  readable-map gs (instruction.variable (LocalSet x)) = refl
  readable-map gs (instruction.variable (LocalTee x)) = refl
  readable-map gs (instruction.control op) = refl
  readable-map gs (instruction.legacy op) = refl
  readable-map gs (instruction.call op) = refl
  readable-map gs (instruction.parametric op) = refl
  readable-map gs (instruction.table op) = refl
  readable-map gs (instruction.access op m) = refl
  readable-map gs (instruction.memory op) = refl
  readable-map gs (instruction.constant op) = refl
  readable-map gs (instruction.numeric op) = refl
  readable-map gs (instruction.saturating op) = refl
  readable-map gs (instruction.reference op) = refl
  readable-map gs (instruction.cast op) = refl
  readable-map gs (instruction.conversion op) = refl
  readable-map gs (instruction.structure op) = refl
  readable-map gs (instruction.array op) = refl
  readable-map gs (instruction.vector op values) = refl
  readable-map gs (instruction.atomic op values) = refl
  readable-map gs (instruction.wide op) = refl
  readable-map gs (instruction.shared op values) = refl
  readable-map gs (instruction.continuation op) = refl

module _ {R S : Type 0} (f : R → S) (W : World R) (V : World S) (h : Renames f W V) (B : Surroundings R) (D : Context S) (imported : ℕ) where
  abbrev E : Surroundings S
  E = elsewhere (map_surroundings f B) D

  allowed-map : (op : Instruction ℕ) → is_allowed E imported op ≡ is_allowed B imported op
  allowed-map op = ap (λ b. is_constant B.features op && b) (readable-map f B.features imported B.context.globals op)

  allowed_there : (ops : List (Instruction ℕ)) → All (λ op. is_allowed B imported op ≡ true) ops → All (λ op. is_allowed E imported op ≡ true) ops
  allowed_there ops a = All-weaker (λ op. is_allowed B imported op ≡ true) (λ op. is_allowed E imported op ≡ true) (λ op e. allowed-map op ∙ e) ops a

  allowed_back : (ops : List (Instruction ℕ)) → All (λ op. is_allowed E imported op ≡ true) ops → All (λ op. is_allowed B imported op ≡ true) ops
  allowed_back ops a = All-weaker (λ op. is_allowed E imported op ≡ true) (λ op. is_allowed B imported op ≡ true) (λ op e. sym (allowed-map op) ∙ e) ops a

  -- the way of allowed instructions
  way : (ops : List (Instruction ℕ)) (s : State R) → All (λ op. is_allowed E imported op ≡ true) ops → steps_in V E ops (map_state f s) ≡ option_map (map_state f) (steps_in W B ops s)
  way ops s a = steps_same V (map_surroundings f B) D imported ops (map_state f s) a ∙ steps_in-map f W V h B ops s

  module _ (s : State R) (bytes more : List ℕ) where
    there : (t : State R) → IsConstantExpression W B imported s bytes t more → IsConstantExpression V E imported (map_state f s) bytes (map_state f t) more
    there t e = record {
      instructions = e.instructions;
      written = e.written;
      allowed = allowed_there e.instructions e.allowed;
      typed = way e.instructions s (allowed_there e.instructions e.allowed) ∙ ap (option_map (map_state f)) e.typed;
      finished = is_finished-map f t ∙ e.finished;
    }

    back : (u : State S) → IsConstantExpression V E imported (map_state f s) bytes u more → (t : State R) × IsConstantExpression W B imported s bytes t more × (map_state f t ≡ u)
    back u e =
        let x = from_map (map_state f) (steps_in W B e.instructions s) u (sym (way e.instructions s e.allowed) ∙ e.typed) in (
          x.0,
          record {
            instructions = e.instructions;
            written = e.written;
            allowed = allowed_back e.instructions e.allowed;
            typed = x.1;
            finished = sym (is_finished-map f x.0) ∙ ap is_finished x.2 ∙ e.finished;
          },
          x.2,
        )

pub constants_rename : {R S : Type 0} → ConstantsRename R S
constants_rename f W V h B D imported s bytes more = record { there = there f W V h B D imported s bytes more; back = back f W V h B D imported s bytes more }
