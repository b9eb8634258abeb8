-- What a clone of a function type or of a structure type is.
use Rattle.wasm_readers_types.specs.TypesFaithful.{func-faithful, struct-faithful}

pub ruleset clones = (func-faithful, struct-faithful)
