-- What a field holds as a value, and which value types have a default. Core Specification 3.0, Validation, Types, Defaultable Types, and
-- Execution, Runtime Structure, Values.
use Rattle.std.specs.Prelude.{Bool, true, Option}
use Rattle.std.specs.declared.option.Option.TheVariants.{None, Some}
use Rattle.wasm_spec.specs.Syntax.{Ref, Val, i32, reference, Storage, i8, i16, unpacked}

module _ {R : Type 0} where
  -- what a field holds as a value
  abbrev pub unpack : Storage R → Val R
  unpack i8 = i32
  unpack i16 = i32
  unpack (unpacked v) = v

  -- value types that have a default: numbers, vectors, and references that may be null
  abbrev pub has_default : Val R → Bool
  has_default (reference r) = r.nullable
  has_default _ = true

  -- the reference type that a value type is
  abbrev pub reference_in : Val R → Option (Ref R)
  reference_in (reference r) = Some r
  reference_in _ = None
