use Rattle.std.proofs.Common.{◌≡◌, drop, map}
use Rattle.wasm_validator_handles.specs.Names.{name_in}
use Rattle.wasm_validator_handles.proofs.names.find_name.Given as goal

abbrev pub invariant-flags : goal.invariant-flags
invariant-flags l = name_in (map (λ f. (f.name.now, f.value.0)) l.flags) l.bits ≡ name_in (map (λ f. (f.name.now, f.value.0)) (drop l.k l.flags)) l.bits
