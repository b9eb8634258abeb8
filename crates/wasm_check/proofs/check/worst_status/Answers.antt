use Rattle.std.proofs.Common.{inl, refl, arith}
use Rattle.wasm_check.proofs.check.worst_status.Goals as goal

pub places-init : goal.places-init
places-init c = record { known = omega arith; worst = record { above = λ k l. absurd (omega (arith, l)); some = inl refl } }
