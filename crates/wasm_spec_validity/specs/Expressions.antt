-- Constant expressions in a module's sections: the instructions up to the first `end`. It closes them, since none that may stand in a
-- constant expression opens a frame. Core Specification 3.0, Binary Format, Instructions (Expressions).
use Rattle.std.specs.Prelude.{ℕ, zero, suc, Bool, true, false, ◌-◌, if◌then◌else◌, List, [], ◌∷◌, length, take, Option, Some, None}
use Rattle.std.specs.List.{flat_map}
use Rattle.std.specs.Option.{option_map, option_and_then}
use Rattle.wasm_spec_steps.specs.WasmSpecRules.Parts.{Expression}
use Rattle.wasm_operators.specs.Control.{end_}
use Rattle.wasm_operators.specs.References.{ref_func}
use Rattle.wasm_operators.specs.Instructions.{Instruction, control, reference, instruction_at}

abbrev pub is_end : Instruction ℕ → Bool
is_end (control end_) = true
is_end _ = false

-- the bytes behind the first `end`, which is one of so many instructions at the most
abbrev pub behind_end : ℕ → List ℕ → Option (List ℕ)
behind_end zero bytes = None
behind_end (suc most) bytes = option_and_then (λ i. if is_end i.0 then Some i.1 else behind_end most i.1) (instruction_at (λ n. n) bytes)

-- the bytes of the expression that the bytes begin with, and those behind it; each instruction takes at least a byte
unfoldable pub expression_at : List ℕ → Option (Expression × List ℕ)
expression_at bytes = option_map (λ more. (take (length bytes - length more) bytes, more)) (behind_end (length bytes) bytes)

-- the instructions that the bytes begin with, so many at the most
abbrev pub instructions_of : ℕ → List ℕ → List (Instruction ℕ)
instructions_of zero bytes = []
instructions_of (suc most) bytes = elim (instruction_at (λ n. n) bytes) [ None ↦ [] | Some i ↦ i.0 ∷ instructions_of most i.1 ]

abbrev pub functions_named : Instruction ℕ → List ℕ
functions_named (reference (ref_func x)) = x ∷ []
functions_named _ = []

-- the functions that an expression names
unfoldable pub named : Expression → List ℕ
named e = flat_map functions_named (instructions_of (length e) e)
