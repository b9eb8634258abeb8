-- The way through the bytes finds the constant expressions of a type.
use Rattle.std.proofs.Common.{◌≡◌, refl, ap, ℕ, List, Option, Some, None}
use Rattle.std.specs.Option.{option_map}
use Rattle.wasm_spec.specs.Syntax.{Val}
use Rattle.wasm_spec.specs.Features.{Features}
use Rattle.wasm_spec_rules.specs.Contexts.{Context}
use Rattle.wasm_readers_types.specs.WasmReadersValues.declared.indices.UnpackedIndex.{UnpackedIndex}
use Rattle.wasm_operators.specs.Control.{value_block}
use Rattle.wasm_spec_steps.specs.Machine.{State}
use Rattle.wasm_spec_steps.specs.Steps.{start}
use Rattle.wasm_validator_resources.specs.Answers.{world}
use Rattle.wasm_validator_constants.specs.Constants.{constant_from}
use Rattle.wasm_validator_constants.proofs.ExpressionBytes as constants
use Rattle.wasm_validator_segments.specs.Expressions.{around_constants, behind_expression, IsExpressionOf, ExpressionsAreFound}

module _ (C : Context UnpackedIndex) (F : Features) (n : ℕ) where
  found_by : (v : Val UnpackedIndex) (bytes more : List ℕ) (o : Option (State UnpackedIndex × List ℕ)) → constant_from (world C) (around_constants C F) n (start (value_block v)) bytes ≡ o
      → option_map (λ x. x.1) o ≡ Some more → IsExpressionOf C F n v bytes more
  found_by v bytes more None e f = absurd cc
  found_by v bytes more (Some (s, next)) e f =
      let same : next ≡ more = cc in
      let whole : constant_from (world C) (around_constants C F) n (start (value_block v)) bytes ≡ Some (s, more) = cc in
      record { last = s; is = constants.finds (world C) (around_constants C F) n (start (value_block v)) bytes s more whole }

  found : (v : Val UnpackedIndex) (bytes more : List ℕ) → behind_expression C F n v bytes ≡ Some more → IsExpressionOf C F n v bytes more
  unfolding behind_expression
  found v bytes more e = found_by v bytes more (constant_from (world C) (around_constants C F) n (start (value_block v)) bytes) refl e

  is_found : (v : Val UnpackedIndex) (bytes more : List ℕ) → IsExpressionOf C F n v bytes more → behind_expression C F n v bytes ≡ Some more
  unfolding behind_expression
  is_found v bytes more x = ap (option_map (λ (p : State UnpackedIndex × List ℕ). p.1)) (constants.are_found (world C) (around_constants C F) n (start (value_block v)) bytes x.last more x.is)

  pub are_found : ExpressionsAreFound C F n
  are_found v bytes more = (found v bytes more, is_found v bytes more)
