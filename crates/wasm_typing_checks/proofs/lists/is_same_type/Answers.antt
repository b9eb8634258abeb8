use Rattle.std.proofs.Common.{◌≡◌, ap}
use Rattle.std.specs.Bool.{Decides}
use Rattle.wasm_validator_resources.specs.WasmReadersTypes.WasmReadersValues.SeenValues.{val_of}
use Rattle.wasm_validator_resources.specs.WasmReadersTypes.WasmReadersValues.ValuesExact.{val-exact}
use Rattle.wasm_typing_checks.proofs.lists.is_same_type.Goals as goal

pub returns : goal.returns
returns c =
    let h : Decides c.eq.result (c.args.ty.now ≡ c.args.other.now) = rw c.eq.ensures (val-exact c.args.ty.now c.args.other.now) in
    λ e. ap val_of (h.0 e)
