-- The operators of the legacy exception-handling proposal, Binary Format: `try` with its `catch` and `catch_all`, `delegate` and `rethrow`.
-- Blocks are not taken together with their bodies. A type index x in a type is read as `to x`.
use Rattle.std.specs.Prelude.{ℕ, ◌==◌, if◌then◌else◌, List, Option, None}
use Rattle.std.specs.Option.{option_map}
use Rattle.wasm_operators_proposals.specs.WasmOperatorsPlain.Immediates.{alone, one_index}
use Rattle.wasm_operators.specs.Control.{Block, block_at}

-- a tag follows `catch`, and a label `rethrow` and `delegate`
pub data Legacy (R : Type 0) : Type 0 where
  try_ : Block R → Legacy R
  catch_ rethrow delegate : ℕ → Legacy R
  catch_all : Legacy R

abbrev pub legacy_opcode : {R : Type 0} → Legacy R → ℕ
legacy_opcode (try_ b) = 0x06
legacy_opcode (catch_ x) = 0x07
legacy_opcode (rethrow l) = 0x09
legacy_opcode (delegate l) = 0x18
legacy_opcode catch_all = 0x19

module _ {R : Type 0} (to : ℕ → R) where
  -- by their byte
  unfoldable pub legacy_from : ℕ → List ℕ → Option (Legacy R × List ℕ)
  legacy_from b bytes =
      if b == 0x06 then option_map (λ t. (try_ t.0, t.1)) (block_at to bytes)
      else (if b == 0x07 then one_index catch_ bytes
      else (if b == 0x09 then one_index rethrow bytes
      else (if b == 0x18 then one_index delegate bytes
      else (if b == 0x19 then alone catch_all bytes
      else None))))
