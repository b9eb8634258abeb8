use Rattle.std.proofs.Common.{◌≡◌, drop, map}
use Rattle.std.specs.List.{list_all}
use Rattle.wasm_readers_types.specs.SeenTypes.{sub_of}
use Rattle.wasm_validator_canonical.specs.Indices.{extends_at_most_one}
use Rattle.wasm_validator_canonical.proofs.type_canonicalizer.sub_types.extend_at_most_one.Given as goal

abbrev pub invariant-loop-ty : goal.invariant-loop-ty
invariant-loop-ty g l = list_all extends_at_most_one (map sub_of l.types) ≡ list_all extends_at_most_one (map sub_of (drop l.ty-index l.types))
