-- A body that is valid, byte by byte.
use Rattle.std.specs.Prelude.{true, nat_eq, [], ◌∷◌}
use Rattle.wasm_spec_rules.specs.WasmSpec.TypeExamples.{features}
use Rattle.wasm_spec_rules.specs.Worlds.{world_of}
use Rattle.wasm_spec_steps.specs.FunctionBodies.{IsBodyOfFunction}
use Rattle.wasm_spec_steps.specs.Samples.{context}

-- of the type 2, from i32 and i64 to i32: no locals of its own, and `i64.const 0`, `local.set 1`, `local.get 0`
abbrev pub ParametersAreLocals : Type 0
ParametersAreLocals = IsBodyOfFunction (world_of nat_eq context) (features true) context 2 (0 ∷ 0x42 ∷ 0 ∷ 0x21 ∷ 1 ∷ 0x20 ∷ 0 ∷ 0x0b ∷ [])
