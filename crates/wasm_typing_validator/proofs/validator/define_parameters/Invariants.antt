use Rattle.std.proofs.Common.{◌≡◌, ◌++◌, take}
use Rattle.wasm_typing_validator.proofs.LocalDefinitions.{parameters}
use Rattle.wasm_typing_validator.proofs.validator.define_parameters.Given as goal

abbrev pub invariant-defining : goal.invariant-defining
invariant-defining g l = record {
  content : l.locals.content ≡ l.initial.locals.content ++ parameters (take l.i l.params);
  inits : l.locals.inits ≡ l.initial.locals.inits;
}
