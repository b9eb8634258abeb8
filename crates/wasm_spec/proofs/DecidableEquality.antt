-- Whatever has a code has a decidable equality, defined types too.
use Rattle.std.proofs.Common.{◌≡◌, refl, ap, ℕ, arith}
use Rattle.std.proofs.Math.Decide.{ℕ_discrete}
use Rattle.std.specs.Coded.{Coded}
use base.Stored.{Gv, gnil, gnum, gcons}
use Rattle.wasm_spec.specs.Trees.{DefType}
use Rattle.wasm_spec.specs.TreeCode.{coded_type}

abbrev sort : Gv → ℕ
sort gnil = 0
sort (gnum n) = 1
sort (gcons a b) = 2

abbrev number : Gv → ℕ
number (gnum n) = n
number _ = 0

abbrev first : Gv → Gv
first (gcons a b) = a
first _ = gnil

abbrev second : Gv → Gv
second (gcons a b) = b
second _ = gnil

other : (a b : Gv) → ¬ (sort a ≡ sort b) → Dec (a ≡ b)
other a b h = no (λ e. h (ap sort e))

both : (a b c d : Gv) → Dec (a ≡ c) → Dec (b ≡ d) → Dec (gcons a b ≡ gcons c d)
both a b c d (yes e) (yes f) = yes (λ i. gcons (e i) (f i))
both a b c d (no h) _ = no (λ e. h (ap first e))
both a b c d _ (no h) = no (λ e. h (ap second e))

same_number : (m n : ℕ) → Dec (m ≡ n) → Dec (gnum m ≡ gnum n)
same_number m n (yes e) = yes (ap gnum e)
same_number m n (no h) = no (λ e. h (ap number e))

stored_discrete : Discrete Gv
stored_discrete gnil gnil = yes refl
stored_discrete (gnum m) (gnum n) = same_number m n (ℕ_discrete m n)
stored_discrete (gcons a b) (gcons c d) = both a b c d (stored_discrete a c) (stored_discrete b d)
stored_discrete a b = other a b (λ e. omega (arith, e))

pub decided : {A : Type 0} → Coded A → Discrete A
decided c x y = elim (stored_discrete (c.code x) (c.code y)) [ yes e ↦ yes (c.inj x y e) | no h ↦ no (λ e. h (ap c.code e)) ]

pub type_discrete : Discrete DefType
type_discrete = decided coded_type
