-- Bodies, constant expressions and modules are valid exactly where the rules type their instructions.
use Rattle.std.specs.Prelude.{◌≡◌, ◌↔◌, ℕ, false, List, []}
use Rattle.wasm_spec.specs.Syntax.{Val}
use Rattle.wasm_spec.specs.Features.{Features}
use Rattle.wasm_spec.specs.MatchingTests.{World}
use Rattle.wasm_spec_steps.specs.WasmSpecRules.Contexts.{Context}
use Rattle.wasm_operators.specs.Control.{value_block}
use Rattle.wasm_spec_steps.specs.Bodies.{Surroundings}
use Rattle.wasm_spec_steps.specs.ConstantRules.{IsConstantExpression}
use Rattle.wasm_spec_steps.specs.FunctionBodies.{IsBodyOfFunction}
use Rattle.wasm_spec_steps.specs.Machine.{State}
use Rattle.wasm_spec_steps.specs.Steps.{start}
use Rattle.wasm_spec_validity.specs.Modules.{IsValidModule}
use Rattle.wasm_spec_instructions.specs.ValueTypes.{IsInOrder}
use Rattle.wasm_spec_instructions.specs.Laws.{HasNoSharing}
use Rattle.wasm_laws_soundness.specs.BodiesByRules.{IsTypedBody, IsTypedConstant}
use Rattle.wasm_laws_soundness.specs.ModulesByRules.{IsValidByRules}

-- A body that the rules type is one that the machine accepts; and where nothing is shared, the other way round.
pub record BodyIsTyped {R : Type 0} (W : World R) (F : Features) (C : Context R) (n : ℕ) (bytes : List ℕ) : Type 0 where
  pub complete : IsTypedBody W F C n bytes → IsBodyOfFunction W F C n bytes
  pub sound : HasNoSharing W F → IsBodyOfFunction W F C n bytes → IsTypedBody W F C n bytes

abbrev pub BodiesAreTyped : (R : Type 0) → Type 0
BodiesAreTyped R = (W : World R) (F : Features) (C : Context R) (n : ℕ) (bytes : List ℕ) → IsInOrder W → BodyIsTyped W F C n bytes

-- A constant expression is accepted exactly where the rules type it, with shared types or without.
abbrev pub ConstantsAreTyped : (R : Type 0) → Type 0
ConstantsAreTyped R =
    (W : World R) (B : Surroundings R) (imported : ℕ) (v : Val R) (bytes : List ℕ) → IsInOrder W
    → ((last : State R) × IsConstantExpression W B imported (start (value_block v)) bytes last []) ↔ IsTypedConstant W B imported v bytes

-- A module whose constant expressions and bodies the rules type is valid; and where shared types are off, the other way round.
pub record ModuleIsTyped (F : Features) (bytes : List ℕ) : Type 0 where
  pub complete : IsValidByRules F bytes → IsValidModule F bytes
  pub sound : F.shared_everything_threads ≡ false → IsValidModule F bytes → IsValidByRules F bytes

abbrev pub ModulesAreTyped : Type 0
ModulesAreTyped = (F : Features) (bytes : List ℕ) → ModuleIsTyped F bytes
