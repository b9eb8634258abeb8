-- What modules keep where `crate_limits` asks for it, besides the clauses of a `try_table`. Core Specification 3.0, Appendix, Implementation
-- Limitations, Syntactic Limits; the numbers are those of the Rust crate's readers.
use Rattle.std.specs.Prelude.{ℕ, ◌≤◌, nat_le, Bool, true, ◌&&◌, List, length, IsTrue}
use Rattle.wasm_spec.specs.Syntax.{Comp, func, struct}
use Rattle.wasm_spec.specs.Features.{Features}
pub use Rattle.wasm_spec.specs.Limits.{most_params, most_results, most_fields, most_clauses, most_name_bytes}
use Rattle.wasm_spec.specs.ValueTypes.{implies}

-- so many are no more than these, where the limits are asked for
abbrev pub is_within : Features → ℕ → ℕ → Bool
is_within F most count = implies F.crate_limits (nat_le count most)

-- a composite type has no more parameters, results and fields
abbrev pub is_limited : {R : Type 0} → Features → Comp R → Bool
is_limited F (func ps rs) = is_within F most_params (length ps) && is_within F most_results (length rs)
is_limited F (struct xs) = is_within F most_fields (length xs)
is_limited F _ = true

-- a name has no more bytes
abbrev pub IsShortName : Features → List ℕ → Type 0
IsShortName F name = IsTrue F.crate_limits → length name ≤ most_name_bytes
