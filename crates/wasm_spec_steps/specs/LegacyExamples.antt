-- Bodies that are valid and bodies that aren't: the operators of the legacy exception-handling proposal.
use Rattle.std.specs.Prelude.{ℕ, ◌≡◌, true, false, List, [], ◌∷◌}
use Rattle.wasm_spec_rules.specs.WasmSpec.Syntax.{i32}
use Rattle.wasm_spec_rules.specs.WasmSpec.TypeExamples.{features}
use Rattle.wasm_operators.specs.Control.{Block, empty_block, value_block, func_block, else_, if_, br}
use Rattle.wasm_operators.specs.Legacy.{try_, catch_, delegate, rethrow, catch_all}
use Rattle.wasm_operators.specs.Instructions.{Instruction, control, legacy, variable}
use Rattle.wasm_operators.specs.WasmOperatorsPlain.declared.variables.VariableOperator.TheVariants.{LocalGet, LocalSet}
use Rattle.wasm_spec_steps.specs.ConstantExpressions.{is_constant}
use Rattle.wasm_spec_steps.specs.Samples.{body, runs, gives_i32, an_i32, an_i64, dropped, trap, an_end, in_block, all_pass, none_pass}

abbrev pub in_try : Block ℕ → Instruction ℕ
in_try b = legacy (try_ b)

-- a `try` that gives nothing, with this body and what is caught
abbrev pub trying : List (Instruction ℕ) → List (Instruction ℕ)
trying ops = in_try empty_block ∷ ops

-- local 2 is set, or is read, before these
abbrev pub set_it : List (Instruction ℕ) → List (Instruction ℕ)
set_it ops = variable (LocalGet 0) ∷ variable (LocalSet 2) ∷ ops

abbrev pub get_it : List (Instruction ℕ) → List (Instruction ℕ)
get_it ops = variable (LocalGet 2) ∷ dropped ∷ ops

-- The first tag holds nothing, and the second one an i32.
abbrev pub Tries : Type 0
Tries =
    all_pass (
    runs (trying (an_end ∷ [])) ∷
    runs (trying (legacy catch_all ∷ an_end ∷ [])) ∷
    runs (trying (legacy (catch_ 0) ∷ legacy (catch_ 1) ∷ dropped ∷ legacy catch_all ∷ an_end ∷ [])) ∷
    gives_i32 (in_try (value_block i32) ∷ an_i32 ∷ legacy (catch_ 1) ∷ an_end ∷ []) ∷
    gives_i32 (in_try (value_block i32) ∷ an_i32 ∷ control (br 0) ∷ legacy catch_all ∷ an_i32 ∷ control (br 0) ∷ an_end ∷ []) ∷
    gives_i32 (an_i32 ∷ an_i64 ∷ in_try (func_block 2) ∷ dropped ∷ legacy (catch_ 1) ∷ an_end ∷ []) ∷
    runs (trying (set_it (get_it (legacy catch_all ∷ an_end ∷ [])))) ∷
    runs (trying (legacy (delegate 0) ∷ [])) ∷
    gives_i32 (in_try (value_block i32) ∷ an_i32 ∷ legacy (delegate 0) ∷ []) ∷
    runs (trying (trying (legacy (delegate 1) ∷ an_end ∷ []))) ∷
    runs (trying (legacy catch_all ∷ legacy (rethrow 0) ∷ an_end ∷ [])) ∷
    gives_i32 (in_try (value_block i32) ∷ an_i32 ∷ legacy (catch_ 1) ∷ in_block empty_block ∷ legacy (rethrow 1) ∷ an_end ∷ an_end ∷ []) ∷
    []) ≡ true

abbrev pub NoTries : Type 0
NoTries =
    none_pass (
    runs (in_block empty_block ∷ legacy (catch_ 0) ∷ an_end ∷ []) ∷
    runs (in_block empty_block ∷ legacy catch_all ∷ an_end ∷ []) ∷
    runs (trying (legacy catch_all ∷ legacy (catch_ 0) ∷ an_end ∷ [])) ∷
    runs (trying (legacy catch_all ∷ legacy catch_all ∷ an_end ∷ [])) ∷
    gives_i32 (in_try (value_block i32) ∷ an_i64 ∷ legacy (catch_ 1) ∷ an_end ∷ []) ∷
    gives_i32 (in_try (value_block i32) ∷ legacy (catch_ 1) ∷ an_end ∷ []) ∷
    runs (trying (an_i32 ∷ legacy (catch_ 0) ∷ an_end ∷ [])) ∷
    runs (trying (legacy (catch_ 1) ∷ an_end ∷ [])) ∷
    gives_i32 (in_try (value_block i32) ∷ an_i32 ∷ legacy (catch_ 0) ∷ an_end ∷ []) ∷
    gives_i32 (in_try (value_block i32) ∷ an_i32 ∷ legacy catch_all ∷ an_end ∷ []) ∷
    runs (trying (legacy (catch_ 2) ∷ trap ∷ an_end ∷ [])) ∷
    runs (trying (legacy (catch_ 3) ∷ trap ∷ an_end ∷ [])) ∷
    runs (trying (set_it (legacy catch_all ∷ get_it (an_end ∷ [])))) ∷
    runs (trying (legacy (catch_ 0) ∷ set_it (legacy catch_all ∷ get_it (an_end ∷ [])))) ∷
    runs (trying (legacy catch_all ∷ legacy (delegate 0) ∷ [])) ∷
    runs (in_block empty_block ∷ legacy (delegate 0) ∷ []) ∷
    runs (trying (legacy (delegate 1) ∷ [])) ∷
    runs (trying (trying (legacy (delegate 2) ∷ an_end ∷ []))) ∷
    gives_i32 (in_try (value_block i32) ∷ an_i64 ∷ legacy (delegate 0) ∷ []) ∷
    runs (trying (legacy (rethrow 0) ∷ an_end ∷ [])) ∷
    runs (trying (legacy catch_all ∷ in_block empty_block ∷ legacy (rethrow 0) ∷ an_end ∷ an_end ∷ [])) ∷
    runs (trying (legacy catch_all ∷ an_end ∷ legacy (rethrow 0) ∷ [])) ∷
    runs (trying (legacy catch_all ∷ legacy (rethrow 2) ∷ an_end ∷ [])) ∷
    runs (trying (control else_ ∷ an_end ∷ [])) ∷
    runs (an_i32 ∷ control (if_ empty_block) ∷ legacy catch_all ∷ an_end ∷ []) ∷
    []) ≡ true

-- They need both features, and none is one of constant expressions.
abbrev pub TriesNeedFeatures : Type 0
TriesNeedFeatures =
    none_pass (
    body (record (features true) { legacy_exceptions = false }) 0 (trying (an_end ∷ [])) ∷
    body (record (features true) { exceptions = false }) 0 (trying (an_end ∷ [])) ∷
    is_constant (features true) (in_try empty_block) ∷
    is_constant (features true) (legacy (catch_ 0)) ∷
    is_constant (features true) (legacy catch_all) ∷
    is_constant (features true) (legacy (delegate 0)) ∷
    is_constant (features true) (legacy (rethrow 0)) ∷
    []) ≡ true
