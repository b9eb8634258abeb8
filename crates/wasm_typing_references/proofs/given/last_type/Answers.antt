use Rattle.std.proofs.Common.{length, refl, ◌∙◌, ap}
use Rattle.wasm_typing_control.specs.WasmReadersTypes.WasmReadersValues.SeenValues.{val_of}
use Rattle.wasm_typing_control.specs.WasmTypingChecks.WasmTypingStacks.SeenTypeWords.{val_in}
use Rattle.wasm_typing_references.proofs.OperandsOnTop.{is_last}
use Rattle.wasm_typing_references.proofs.given.last_type.Goals as goal

pub returns-else-count-eq0 : goal.returns-else-count-eq0
returns-else-count-eq0 c =
    rw c.in-Many.is (is_last c.in-Many.types.now (length c.in-Many.types.now) c.index-types-count.result (val_in c.new.result) refl c.if-count-eq0.false (c.new.ensures ∙ ap val_of c.index-types-count.is))
