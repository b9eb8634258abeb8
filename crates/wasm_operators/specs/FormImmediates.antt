-- What follows the number of an operator on vectors, and of an atomic one.
-- Core Specification 3.0, Binary Format, Instructions, Vector Instructions and Memory Instructions; Threads, Binary Format, Instructions,
-- Atomic Memory Instructions.
use Rattle.std.specs.Prelude.{ℕ, ◌==◌, if◌then◌else◌, Bool, true, false, List, Option, Some, None, is_some}
use Rattle.std.specs.Option.{option_map, option_and_then}
use Rattle.wasm_operators_proposals.specs.WasmOperatorsPlain.WasmSpec.Values.{byte_at}
use Rattle.wasm_operators_proposals.specs.WasmOperatorsPlain.Memories.{memarg_at}
use Rattle.wasm_operators_proposals.specs.WasmOperatorsPlain.Constants.{bits_128_at}
use Rattle.wasm_operators_proposals.specs.WasmOperatorsPlain.declared.memories.MemArg.{MemArg}
use Rattle.wasm_operators_proposals.specs.WasmOperatorsAtomic.WasmOperatorsVector.declared.forms.Immediates.{Immediates}
use Rattle.wasm_operators_proposals.specs.WasmOperatorsAtomic.WasmOperatorsVector.declared.forms.Immediates.TheVariants as form
use Rattle.wasm_operators_proposals.specs.WasmOperatorsAtomic.WasmOperatorsVector.declared.forms.Form.{Form}
use Rattle.wasm_operators_proposals.specs.WasmOperatorsAtomic.WasmOperatorsVector.declared.forms.Form.TheVariants.{Compute, Access}
use Rattle.wasm_operators.specs.declared.immediates.ImmediateValues.{ImmediateValues}
use Rattle.wasm_operators.specs.declared.immediates.ImmediateValues.TheVariants.{Nothing, Lane, Lanes, MemArg as ArgAlone, MemArgLane}

-- the byte zero
abbrev pub zero_at : List ℕ → Option (ImmediateValues × List ℕ)
zero_at bytes = option_and_then (λ b. if b.0 == 0 then Some (Nothing, b.1) else None) (byte_at bytes)

-- a byte for the index of a lane, and sixteen of them
abbrev pub values_at : Immediates → List ℕ → Option (ImmediateValues × List ℕ)
values_at form.Nothing bytes = Some (Nothing, bytes)
values_at form.Zero bytes = zero_at bytes
values_at (form.Lane n) bytes = option_map (λ l. (Lane l.0, l.1)) (byte_at bytes)
values_at form.Lanes bytes = option_map (λ v. (Lanes v.0, v.1)) (bits_128_at bytes)

-- a memory argument, without and with the index of a lane
abbrev pub behind_memarg : Bool → MemArg → List ℕ → Option (ImmediateValues × List ℕ)
behind_memarg true m bytes = option_map (λ l. (MemArgLane m l.0, l.1)) (byte_at bytes)
behind_memarg false m bytes = Some (ArgAlone m, bytes)

abbrev pub place_at : Bool → List ℕ → Option (ImmediateValues × List ℕ)
place_at has_lane bytes = option_and_then (λ m. behind_memarg has_lane m.0 m.1) (memarg_at bytes)

-- by the operator's form
abbrev pub immediates_at : Form → List ℕ → Option (ImmediateValues × List ℕ)
immediates_at (Compute i t g) bytes = values_at i bytes
immediates_at (Access a lanes t g) bytes = place_at (is_some lanes) bytes
