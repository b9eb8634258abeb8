-- What holds where a call succeeds, and where it fails.
use Rattle.std.proofs.Common.{Result, Ok, Err}
use Rattle.std.specs.Result.{OnOk, OnErr}

pub on_err : {X E P : Type 0} (r : Result X E) → P → OnErr r P
on_err (Ok x) p = tt
on_err (Err e) p = p

-- what follows in both cases
pub either : {X E P Q S : Type 0} (r : Result X E) → OnOk r P → OnErr r Q → (P → S) → (Q → S) → S
either (Ok x) p q f g = f p
either (Err e) p q f g = g q
