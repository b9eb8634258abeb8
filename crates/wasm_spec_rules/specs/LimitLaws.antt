-- Laws of the limits that `crate_limits` asks for, as facts that a contract can name.
use Rattle.std.specs.Prelude.{ℕ, ◌≡◌, ◌≤◌, ◌↔◌, true, false, List, length, Option}
use Rattle.wasm_readers_errors.specs.WasmSpec.Syntax.{Val, Field, Comp, func, struct, Sub}
use Rattle.wasm_readers_errors.specs.WasmSpec.Features.{Features}
use Rattle.wasm_readers_errors.specs.WasmSpec.GroupRules.{TypeRules}
use Rattle.wasm_readers_errors.specs.WasmSpec.CrateLimits.{is_limited, IsShortName}

-- the same proposals without the limits
abbrev pub without_limits : Features → Features
without_limits F = record F { crate_limits = false }

-- Where limits aren't asked for, every composite type and every name keeps them; where they are, these are they. They only take away: a
-- type that keeps the rules with them keeps them without.
pub record AreOptIn (R : Type 0) (F : Features) : Type 0 where
  pub any_type : F.crate_limits ≡ false → (c : Comp R) → is_limited F c ≡ true
  pub any_name : F.crate_limits ≡ false → (name : List ℕ) → IsShortName F name
  pub functions : F.crate_limits ≡ true → (ps rs : List (Val R)) → (is_limited F (func ps rs) ≡ true) ↔ ((length ps ≤ 1000) × (length rs ≤ 1000))
  pub structures : F.crate_limits ≡ true → (xs : List (Field R)) → (is_limited F (struct xs) ≡ true) ↔ (length xs ≤ 10000)
  pub names : F.crate_limits ≡ true → (name : List ℕ) → IsShortName F name ↔ (length name ≤ 100000)
  pub types_without : (D : R → Option (Sub R)) (a : R) (s : Sub R) → TypeRules F D a s → TypeRules (without_limits F) D a s

abbrev pub LimitsAreOptIn : (R : Type 0) → Type 0
LimitsAreOptIn R = (F : Features) → AreOptIn R F
