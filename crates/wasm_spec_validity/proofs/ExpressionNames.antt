-- What a constant expression names is what the instructions name that it is typed by.
use Rattle.std.proofs.Common.{◌≡◌, ap, ℕ, List, Some}
use Rattle.std.specs.List.{flat_map}
use Rattle.wasm_spec.specs.MatchingTests.{World}
use Rattle.wasm_spec.specs.Syntax.{Val}
use Rattle.wasm_operators.specs.Control.{value_block}
use Rattle.wasm_spec_steps.specs.WasmSpecRules.Parts.{Expression}
use Rattle.wasm_spec_steps.specs.Bodies.{Surroundings}
use Rattle.wasm_spec_steps.specs.ConstantRules.{IsConstantExpression}
use Rattle.wasm_spec_steps.specs.Machine.{State}
use Rattle.wasm_spec_steps.specs.Steps.{start}
use Rattle.wasm_spec_validity.specs.Expressions.{expression_at, functions_named, named}
use Rattle.wasm_spec_validity.proofs.ExpressionTests.{determined}
use Rattle.wasm_spec_validity.proofs.WholeExpressions.{whole}

pub named_as_typed : {R : Type 0} (W : World R) (B : Surroundings R) (imported : ℕ) (v : Val R) (bytes : List ℕ) (t : State R) (more : List ℕ) (x : IsConstantExpression W B imported (start (value_block v)) bytes t more)
    → (e : Expression) × (expression_at bytes ≡ Some (e, more)) × (flat_map functions_named x.instructions ≡ named e)
unfolding named
named_as_typed W B imported v bytes t more x =
    let w = whole W B imported v bytes t more x in
    (w.0, w.1, ap (flat_map functions_named) (determined x.instructions w.0 w.2))
