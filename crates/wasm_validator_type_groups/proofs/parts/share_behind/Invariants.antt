use Rattle.std.proofs.Common.{◌≡◌, ◌++◌, take, map}
use Rattle.wasm_validator_type_groups.specs.Parts.{seen}
use Rattle.wasm_validator_type_groups.proofs.parts.share_behind.Given as goal

abbrev pub invariant-parts : goal.invariant-parts
invariant-parts g l = map seen l.shared.items ≡ map seen l.fn.shared.items ++ map seen (take l.part-index l.part-items)
