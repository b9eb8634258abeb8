use Rattle.std.proofs.Common.{ℕ, ◌<◌, get_or}
use Rattle.wasm_readers_types.specs.WasmReadersValues.declared.values.ValType.{ValType}
use Rattle.wasm_validator_type_list.specs.GroupTypes.{ValsMatch}
use Rattle.wasm_validator_type_list.proofs.type_list.matching.all_vals_match.Given as goal

abbrev pub invariant-vals : goal.invariant-vals
invariant-vals g l = (k : ℕ) (d e : ValType) → k < l.i → ValsMatch l.types.groups l.a_group.index l.b_group.index (get_or l.a k d) (get_or l.b k e)
