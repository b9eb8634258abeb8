-- What the definition of valid modules says, as facts that a contract can name.
use Rattle.std.specs.Prelude.{◌≡◌, ◌↔◌, ℕ, nat_eq, Bool, List, [], take, Some}
use Rattle.std.specs.List.{Contains}
use Rattle.wasm_spec.specs.Features.{Features}
use Rattle.wasm_spec.specs.MatchingTests.{World}
use Rattle.wasm_spec.specs.Syntax.{Val}
use Rattle.wasm_spec.specs.Trees.{DefType}
use Rattle.wasm_operators.specs.Control.{value_block}
use Rattle.wasm_spec_steps.specs.WasmSpecRules.Contexts.{Context}
use Rattle.wasm_spec_steps.specs.WasmSpecRules.IndexSpaces.{IndexSpaces}
use Rattle.wasm_spec_steps.specs.WasmSpecRules.Modules.{IsWellFormed}
use Rattle.wasm_spec_steps.specs.WasmSpecRules.Parts.{Parts, Expression, expressions_of}
use Rattle.wasm_spec_steps.specs.WasmSpecRules.Worlds.{world_of}
use Rattle.wasm_spec_steps.specs.Bodies.{Surroundings}
use Rattle.wasm_spec_steps.specs.ConstantRules.{IsConstantExpression}
use Rattle.wasm_spec_steps.specs.Machine.{State}
use Rattle.wasm_spec_steps.specs.Steps.{start}
use Rattle.wasm_spec_validity.specs.Expressions.{expression_at}
use Rattle.wasm_spec_validity.specs.Typing.{around, IsConstant}
use Rattle.wasm_spec_validity.specs.Modules.{Numbering, context_of, imported_globals, IsValidModule}

-- Each list of types has a numbering.
abbrev pub TypesAreNumbered : Type 0
TypesAreNumbered = (types : List DefType) → Numbering types

-- A numbering tells the types of its list apart.
abbrev pub NumbersTellTypesApart : Type 0
NumbersTellTypesApart = (types : List DefType) (n : Numbering types) (a b : DefType) → Contains types a → Contains types b → n.number a ≡ n.number b → a ≡ b

-- Where nothing has to be typed, the other rules suffice.
abbrev pub PlainModulesAreValid : Type 0
PlainModulesAreValid = (F : Features) (bytes : List ℕ) (m : IsWellFormed expression_at F bytes)
    → expressions_of m.parts ≡ [] → m.parts.bodies ≡ [] → IsValidModule F bytes

-- An expression is read whole: what the bytes begin with is a constant expression of a type exactly where the bytes of an expression,
-- as they are read in a module's sections, are one by themselves; and what follows is the same.
abbrev pub ExpressionsAreWhole : (R : Type 0) → Type 0
ExpressionsAreWhole R =
    (W : World R) (B : Surroundings R) (imported : ℕ) (v : Val R) (bytes : List ℕ) (t : State R) (more : List ℕ)
    → IsConstantExpression W B imported (start (value_block v)) bytes t more
    ↔ ((e : Expression) × (expression_at bytes ≡ Some (e, more)) × IsConstantExpression W B imported (start (value_block v)) e t [])

-- A constant expression in the context of the Core Specification: the first globals alone, so many as are visible, and as referenced the
-- functions that occur in the module outside of its bodies.
abbrev pub with_globals : {R : Type 0} → ℕ → Context R → Context R
with_globals visible C = record C { globals = take visible C.globals }

abbrev pub IsConstantAsReferenced : {R : Type 0} → (R → R → Bool) → Features → Context R → ℕ → ℕ → Val R → Expression → Type 0
IsConstantAsReferenced {R} same F C imported visible v e =
    (last : State R) × IsConstantExpression (world_of same C) (around F (with_globals visible C)) imported (start (value_block v)) e last []

-- It is one exactly where it is one with each function referenced: what it names occurs in the module, since it does.
abbrev pub OwnReferencesSuffice : Type 0
OwnReferencesSuffice =
    (F : Features) (C : IndexSpaces) (n : Numbering C.types) (parts : Parts) (e : Expression) → Contains (expressions_of parts) e → (visible : ℕ) (v : Val ℕ)
    → IsConstant nat_eq F (context_of C n parts) (imported_globals parts) visible v e
    ↔ IsConstantAsReferenced nat_eq F (context_of C n parts) (imported_globals parts) visible v e
