-- Core Specification 3.0, Binary Format, Instructions, Reference Instructions: conversions and unboxed integers.
use Rattle.std.specs.Prelude.{ℕ, ◌==◌, if◌then◌else◌, Option, Some, None}
use Rattle.wasm_operators_plain.specs.declared.conversions.ConversionOperator.{ConversionOperator}
use Rattle.wasm_operators_plain.specs.declared.conversions.ConversionOperator.TheVariants.{AnyConvertExtern, ExternConvertAny, RefI31, I31GetS, I31GetU, RefI31Shared}

-- by their number behind the prefix fb
abbrev pub conversion_from : ℕ → Option ConversionOperator
conversion_from n =
    if n == 26 then Some AnyConvertExtern
    else (if n == 27 then Some ExternConvertAny
    else (if n == 28 then Some RefI31
    else (if n == 29 then Some I31GetS
    else (if n == 30 then Some I31GetU
    else None))))

-- by its number behind the prefix fe, of the proposal for shared references
abbrev pub shared_from : ℕ → Option ConversionOperator
shared_from n = if n == 0x72 then Some RefI31Shared else None
