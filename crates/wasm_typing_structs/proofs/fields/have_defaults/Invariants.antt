use Rattle.std.proofs.Common.{◌≡◌, drop, map}
use Rattle.wasm_readers_types.specs.WasmReadersValues.SeenValues.{field_of}
use Rattle.wasm_typing_checks.specs.WasmSpecSteps.Meanings.{all_have_defaults}
use Rattle.wasm_typing_structs.proofs.fields.have_defaults.Given as goal

abbrev pub invariant-defaulting : goal.invariant-defaulting
invariant-defaulting l = all_have_defaults (map field_of l.fields) ≡ all_have_defaults (map field_of (drop l.i l.fields))
