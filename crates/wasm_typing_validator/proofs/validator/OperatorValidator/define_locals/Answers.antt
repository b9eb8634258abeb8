use Rattle.std.proofs.Common.{refl}
use Rattle.wasm_typing_validator.proofs.LocalDeclarations.{declared_as}
use Rattle.wasm_typing_validator.proofs.validator.OperatorValidator.define_locals.Goals as goal

pub returns-clause-defined : goal.returns-clause-defined
returns-clause-defined g c = declared_as _ _ _ _ _ _ c.in-Some.ensures c.if-self.false (c.if-not-has_room.ensures.0 refl) c.in_ok-define.ensures.ok
