-- Core Specification 3.0, Binary Format, Instructions, Expressions: instructions up to the `end` that belongs to no block among
-- them. Where an `else` may stand is left to validation, and so is where a `delegate` may, which ends a block as `end` does.
use Rattle.std.specs.Prelude.{ℕ, zero, suc, ◌+◌, ◌-◌, ◌==◌, if◌then◌else◌, List, length, take, Option, Some, None}
use Rattle.std.specs.Option.{option_map, option_and_then}
use Rattle.wasm_operators.specs.Control.{Control, end_, block, loop, if_, try_table}
use Rattle.wasm_operators.specs.Legacy.{Legacy, try_, delegate}
use Rattle.wasm_operators.specs.Instructions.{Instruction, control, legacy, instruction_at}
use Rattle.wasm_operators.specs.declared.expressions.Nesting.{Nesting}
use Rattle.wasm_operators.specs.declared.expressions.Nesting.TheVariants.{Opens, Closes, Delegates, Keeps}

-- whether a control instruction begins a block or ends one
abbrev pub nesting_of_control : {R : Type 0} → Control R → Nesting
nesting_of_control (block b) = Opens
nesting_of_control (loop b) = Opens
nesting_of_control (if_ b) = Opens
nesting_of_control (try_table b cs) = Opens
nesting_of_control end_ = Closes
nesting_of_control _ = Keeps

abbrev pub nesting_of_legacy : {R : Type 0} → Legacy R → Nesting
nesting_of_legacy (try_ b) = Opens
nesting_of_legacy (delegate l) = Delegates
nesting_of_legacy _ = Keeps

abbrev pub nesting_of : {R : Type 0} → Instruction R → Nesting
nesting_of (control op) = nesting_of_control op
nesting_of (legacy op) = nesting_of_legacy op
nesting_of _ = Keeps

-- the number of open blocks behind an instruction; nothing where it ends the expression
abbrev pub depth_after : Nesting → ℕ → Option ℕ
depth_after Opens depth = Some (depth + 1)
depth_after Closes depth = if depth == 0 then None else Some (depth - 1)
depth_after Delegates depth = Some (depth - 1)
depth_after Keeps depth = Some depth

-- goes on at a depth, or ends before these bytes
abbrev pub go_on : (ℕ → Option (List ℕ)) → List ℕ → Option ℕ → Option (List ℕ)
go_on go more (Some depth) = go depth
go_on go more None = Some more

module _ {R : Type 0} (to : ℕ → R) where
  -- the bytes behind an expression of at most so many instructions, of which so many blocks are open
  abbrev pub behind_from : ℕ → ℕ → List ℕ → Option (List ℕ)
  behind_from zero depth bytes = None
  behind_from (suc most) depth bytes =
      option_and_then (λ i. go_on (λ d. behind_from most d i.1) i.1 (depth_after (nesting_of i.0) depth)) (instruction_at to bytes)

  -- the bytes behind an expression; each instruction takes at least a byte
  unfoldable pub behind_expression : List ℕ → Option (List ℕ)
  behind_expression bytes = behind_from (length bytes) 0 bytes

  -- the bytes of an expression with its `end`, and those behind it
  unfoldable pub expression_at : List ℕ → Option (List ℕ × List ℕ)
  expression_at bytes = option_map (λ more. (take (length bytes - length more) bytes, more)) (behind_expression bytes)
