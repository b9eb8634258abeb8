-- Core Specification 3.0, Binary Format, Instructions, Control Instructions: calls.
use Rattle.std.specs.Prelude.{ℕ, ◌==◌, if◌then◌else◌, List, Option, None}
use Rattle.wasm_operators_plain.specs.Immediates.{one_index, two_indices}
use Rattle.wasm_operators_plain.specs.declared.calls.CallOperator.{CallOperator}
use Rattle.wasm_operators_plain.specs.declared.calls.CallOperator.TheVariants.{Call, CallIndirect, ReturnCall, ReturnCallIndirect, CallRef, ReturnCallRef}

-- calls by their byte
unfoldable pub call_from : ℕ → List ℕ → Option (CallOperator × List ℕ)
call_from b bytes =
    if b == 0x10 then one_index Call bytes
    else (if b == 0x11 then two_indices CallIndirect bytes
    else (if b == 0x12 then one_index ReturnCall bytes
    else (if b == 0x13 then two_indices ReturnCallIndirect bytes
    else (if b == 0x14 then one_index CallRef bytes
    else (if b == 0x15 then one_index ReturnCallRef bytes
    else None)))))
