-- How names are hashed.
use Rattle.std.specs.Hash.{le_bytes}
use Rattle.std.specs.Hash.DefaultHasher as sip
use Rattle.std.specs.declared.hash.DefaultHasher.{DefaultHasher}
use Rattle.wasm_validator_types.specs.declared.name_keys.NameKey.{NameKey}

-- the state of SipHash behind the key
abbrev pub keyed : NameKey → DefaultHasher
keyed s = sip.write sip.initial (le_bytes 8 s.key)
