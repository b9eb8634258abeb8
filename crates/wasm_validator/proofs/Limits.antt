-- The public constants are the limits of the definitions.
use Rattle.std.proofs.Common.{refl, sym, ap, Bool, if◌then◌else◌}
use Rattle.wasm_validator.specs.Limits.{ConstantsAreLimits}

pub constants_are_limits : ConstantsAreLimits
constants_are_limits = record {
  types = refl;
  imports = refl;
  functions = refl;
  tables = λ F e. ap (λ (b : Bool). if b then 100 else 1) (sym e);
  memories = λ F e. ap (λ (b : Bool). if b then 100 else 1) (sym e);
  globals = refl;
  tags = refl;
  exports = refl;
  elements = refl;
  segments = refl;
}
