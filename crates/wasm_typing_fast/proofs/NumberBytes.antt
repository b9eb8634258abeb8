-- Signed numbers that are passed byte by byte.
use Rattle.std.proofs.Common.{◌≡◌, ◌≤◌, ◌<◌, ◌+◌, ◌-◌, ◌^◌, ℕ, ℤ, Bool, true, false, List, [], ◌∷◌, ◌∙◌, ◌⊎◌, inl, inr, ap, refl, subst, arith, lit<, lit≤}
use Rattle.std.specs.Option.{option_map}
use Rattle.std.specs.Prelude.{Option, Some, None, Result, Ok, Err, OnErr, nat_lt, nat_le}
use Rattle.std.proofs.lemmas.Bool.Decides.{nat_tests}
use Rattle.std.proofs.lemmas.Bool.{cases_order}
use Rattle.std.proofs.Math.Nat.{pow-le-pow_right}
use Rattle.wasm_spec.specs.Values.{signed_at}
use Rattle.wasm_typing_fast.specs.SignedNumbers.{behind_signed, PassesShort, Precedes, HasNoNumber}

-- six bits and a sign fit in seven bits or more
fits : (bits : ℕ) → 7 ≤ bits → 2 ^ 6 ≤ 2 ^ (bits - 1)
fits bits h = let k : 6 ≤ bits - 1 = omega arith in pow-le-pow_right (lit< tt) k

module _ (bits b : ℕ) (bytes more : List ℕ) where
  below_64 : 7 ≤ bits → bytes ≡ b ∷ more → nat_lt b (2 ^ 6) ≡ true → behind_signed bits bytes ≡ Some more
  unfolding behind_signed
  below_64 h e f =
      let k : 2 ^ 6 ≤ 2 ^ (bits - 1) = fits bits h in
      let t : nat_lt b (2 ^ (bits - 1)) ≡ true = grind (arith, nat_tests) in
      rw (e, f, t) refl

  from_64 : 7 ≤ bits → bytes ≡ b ∷ more → nat_lt b (2 ^ 6) ≡ false → nat_lt b (2 ^ 7) ≡ true → behind_signed bits bytes ≡ Some more
  unfolding behind_signed
  from_64 h e f l =
      let k : 2 ^ 6 ≤ 2 ^ (bits - 1) = fits bits h in
      let t : nat_le (2 ^ 7) (b + 2 ^ (bits - 1)) ≡ true = grind (arith, nat_tests) in
      rw (e, f, l, t) refl

  -- the last byte
  last : (t : Bool) → 7 ≤ bits → bytes ≡ b ∷ more → b < 128 → nat_lt b (2 ^ 6) ≡ t → behind_signed bits bytes ≡ Some more
  last true h e l f = below_64 h e f
  last false h e l f = let k : nat_lt b (2 ^ 7) ≡ true = grind (arith, nat_tests) in from_64 h e f k

  one_more : (o : Option (ℤ × List ℕ)) → 7 < bits → bytes ≡ b ∷ more → 128 ≤ b → signed_at (bits - 7) more ≡ o → behind_signed bits bytes ≡ option_map (λ n. n.1) o
  unfolding behind_signed
  one_more None h e l f =
      let j : nat_lt b (2 ^ 6) ≡ false = grind (arith, nat_tests) in
      let k : nat_lt b (2 ^ 7) ≡ false = grind (arith, nat_tests) in
      let t : nat_lt 7 bits ≡ true = grind (arith, nat_tests) in
      rw (e, j, k, t, f) refl
  one_more (Some n) h e l f =
      let j : nat_lt b (2 ^ 6) ≡ false = grind (arith, nat_tests) in
      let k : nat_lt b (2 ^ 7) ≡ false = grind (arith, nat_tests) in
      let t : nat_lt 7 bits ≡ true = grind (arith, nat_tests) in
      rw (e, j, k, t, f) refl

  -- a byte before the last
  before : 7 < bits → bytes ≡ b ∷ more → 128 ≤ b → behind_signed bits bytes ≡ behind_signed (bits - 7) more
  unfolding behind_signed
  before h e l = one_more (signed_at (bits - 7) more) h e l refl

  -- one for which there are too few bits
  too_few : bits ≤ 7 → bytes ≡ b ∷ more → 128 ≤ b → behind_signed bits bytes ≡ None
  unfolding behind_signed
  too_few h e l =
      let j : nat_lt b (2 ^ 6) ≡ false = grind (arith, nat_tests) in
      let k : nat_lt b (2 ^ 7) ≡ false = grind (arith, nat_tests) in
      let t : nat_lt 7 bits ≡ false = grind (arith, nat_tests) in
      rw (e, j, k, t) refl

ends_here : (bits b : ℕ) (bytes more : List ℕ) → 7 ≤ bits → bytes ≡ b ∷ more → b < 128 → behind_signed bits bytes ≡ Some more
ends_here bits b bytes more h e l = last bits b bytes more (nat_lt b (2 ^ 6)) h e l refl

pub pass_one : (b : ℕ) (bytes more : List ℕ) → bytes ≡ b ∷ more → b < 128 → PassesShort bytes more
unfolding PassesShort
pass_one b bytes more e l bits h = ends_here bits b bytes more (omega arith) e l

pub pass_two : (b c : ℕ) (bytes second more : List ℕ) → bytes ≡ b ∷ second → 128 ≤ b → second ≡ c ∷ more → c < 128 → PassesShort bytes more
unfolding PassesShort
pass_two b c bytes second more e k i l bits h = before bits b bytes second (omega arith) e k ∙ (ends_here (bits - 7) c second more (omega arith) i l)

pub pass_three : (b c d : ℕ) (bytes second third more : List ℕ) → bytes ≡ b ∷ second → 128 ≤ b → second ≡ c ∷ third → 128 ≤ c → third ≡ d ∷ more → d < 128 → PassesShort bytes more
unfolding PassesShort
pass_three b c d bytes second third more e k i m j l bits h =
    before bits b bytes second (omega arith) e k
    ∙ before (bits - 7) c second third (omega arith) i m
    ∙ ends_here (bits - 7 - 7) d third more (omega arith) j l

pub pass_four : (b c d f : ℕ) (bytes second third fourth more : List ℕ) → bytes ≡ b ∷ second → 128 ≤ b → second ≡ c ∷ third → 128 ≤ c → third ≡ d ∷ fourth → 128 ≤ d → fourth ≡ f ∷ more → f < 128 → PassesShort bytes more
unfolding PassesShort
pass_four b c d f bytes second third fourth more e k i m j n q l bits h =
    before bits b bytes second (omega arith) e k
    ∙ before (bits - 7) c second third (omega arith) i m
    ∙ before (bits - 7 - 7) d third fourth (omega arith) j n
    ∙ ends_here (bits - 7 - 7 - 7) f fourth more (omega arith) q l

-- four bytes before the last
pub pass_on : (b c d f : ℕ) (bytes second third fourth more : List ℕ) → bytes ≡ b ∷ second → 128 ≤ b → second ≡ c ∷ third → 128 ≤ c → third ≡ d ∷ fourth → 128 ≤ d → fourth ≡ f ∷ more → 128 ≤ f → Precedes bytes more
unfolding Precedes
pass_on b c d f bytes second third fourth more e k i m j n q l bits h =
    let s : bits - 7 - 7 - 7 - 7 ≡ bits - 28 = omega arith in
    before bits b bytes second (omega arith) e k
    ∙ before (bits - 7) c second third (omega arith) i m
    ∙ before (bits - 7 - 7) d third fourth (omega arith) j n
    ∙ before (bits - 7 - 7 - 7) f fourth more (omega arith) q l
    ∙ ap (λ k. behind_signed k more) s

-- what holds where a call fails
pub on_err : {X E P : Type 0} (r : Result X E) → P → OnErr r P
on_err (Ok x) p = tt
on_err (Err e) p = p

-- no byte at all, and one that has more behind it
pub none_here : (bytes : List ℕ) → bytes ≡ [] → HasNoNumber bytes
unfolding HasNoNumber behind_signed
none_here bytes e bits = rw e refl

none_by : (b bits : ℕ) (bytes more : List ℕ) → HasNoNumber more → bytes ≡ b ∷ more → 128 ≤ b → (bits ≡ 7) ⊎ ((bits < 7) ⊎ (7 < bits)) → behind_signed bits bytes ≡ None
unfolding HasNoNumber
none_by b bits bytes more h e l (inl k) = too_few bits b bytes more (omega (arith, k)) e l
none_by b bits bytes more h e l (inr (inl k)) = too_few bits b bytes more (omega (arith, k)) e l
none_by b bits bytes more h e l (inr (inr k)) = before bits b bytes more k e l ∙ h (bits - 7)

pub none_behind : (b : ℕ) (bytes more : List ℕ) → HasNoNumber more → bytes ≡ b ∷ more → 128 ≤ b → HasNoNumber bytes
unfolding HasNoNumber
none_behind b bytes more h e l bits = none_by b bits bytes more h e l (cases_order bits 7)

pub ruleset passes = (pass_one, pass_two, pass_three, pass_four, pass_on, none_here, none_behind)

pub none_at : (bits : ℕ) (bytes : List ℕ) → HasNoNumber bytes → behind_signed bits bytes ≡ None
unfolding HasNoNumber
none_at bits bytes h = h bits

-- the last byte, by its bits
module _ (b : ℕ) (bytes more : List ℕ) where
  pub four_low : bytes ≡ b ∷ more → b < 8 → behind_signed 4 bytes ≡ Some more
  unfolding behind_signed
  four_low e l =
      let j : nat_lt b 64 ≡ true = grind (arith, nat_tests) in
      let k : nat_lt b 8 ≡ true = grind (arith, nat_tests) in
      rw (e, j, k) refl

  pub four_high : bytes ≡ b ∷ more → 120 ≤ b → b < 128 → behind_signed 4 bytes ≡ Some more
  unfolding behind_signed
  four_high e h l =
      let i : nat_lt b 64 ≡ false = grind (arith, nat_tests) in
      let j : nat_lt b 128 ≡ true = grind (arith, nat_tests) in
      let k : nat_le 128 (b + 8) ≡ true = grind (arith, nat_tests) in
      rw (e, i, j, k) refl

  four_between : (t : Bool) → nat_lt b 64 ≡ t → bytes ≡ b ∷ more → 8 ≤ b → b < 120 → behind_signed 4 bytes ≡ None
  unfolding behind_signed
  four_between true j e h l = let k : nat_lt b 8 ≡ false = grind (arith, nat_tests) in rw (e, j, k) refl
  four_between false i e h l =
      let j : nat_lt b 128 ≡ true = grind (arith, nat_tests) in
      let k : nat_le 128 (b + 8) ≡ false = grind (arith, nat_tests) in
      rw (e, i, j, k) refl

  pub four_middle : bytes ≡ b ∷ more → 8 ≤ b → b < 120 → behind_signed 4 bytes ≡ None
  four_middle e h l = four_between (nat_lt b 64) refl e h l

  pub four_more : bytes ≡ b ∷ more → 128 ≤ b → behind_signed 4 bytes ≡ None
  four_more e h = too_few 4 b bytes more (lit≤ tt) e h

  pub eight_short : bytes ≡ b ∷ more → b < 128 → behind_signed 8 bytes ≡ Some more
  eight_short e l = ends_here 8 b bytes more (lit≤ tt) e l

  sign_low : bytes ≡ b ∷ more → b ≡ 0 → behind_signed 1 bytes ≡ Some more
  unfolding behind_signed
  sign_low e f = rw (e, f) refl

  sign_high : bytes ≡ b ∷ more → b ≡ 127 → behind_signed 1 bytes ≡ Some more
  unfolding behind_signed
  sign_high e f = rw (e, f) refl

  sign_below : (t : Bool) → nat_lt b 64 ≡ t → bytes ≡ b ∷ more → 0 < b → b < 127 → behind_signed 1 bytes ≡ None
  unfolding behind_signed
  sign_below true j e h l = let k : nat_lt b 1 ≡ false = grind (arith, nat_tests) in rw (e, j, k) refl
  sign_below false j e h l =
      let i : nat_lt b 128 ≡ true = grind (arith, nat_tests) in
      let k : nat_le 128 (b + 1) ≡ false = grind (arith, nat_tests) in
      rw (e, j, i, k) refl

  sign_by : (b ≡ 0) ⊎ ((b < 0) ⊎ (0 < b)) → (b ≡ 127) ⊎ ((b < 127) ⊎ (127 < b)) → bytes ≡ b ∷ more → (b ≡ 0 → ⊥) → (b ≡ 127 → ⊥) → behind_signed 1 bytes ≡ None
  sign_by (inl k) y e h l = absurd (h k)
  sign_by (inr (inl k)) y e h l = absurd (omega (arith, k))
  sign_by (inr (inr k)) (inl m) e h l = absurd (l m)
  sign_by (inr (inr k)) (inr (inl m)) e h l = sign_below (nat_lt b 64) refl e k m
  sign_by (inr (inr k)) (inr (inr m)) e h l = too_few 1 b bytes more (lit≤ tt) e (omega (arith, m))

  pub sign_none : bytes ≡ b ∷ more → (b ≡ 0 → ⊥) → (b ≡ 127 → ⊥) → behind_signed 1 bytes ≡ None
  sign_none e h l = sign_by (cases_order b 0) (cases_order b 127) e h l

  pub eight_not : bytes ≡ b ∷ more → 128 ≤ b → behind_signed 1 more ≡ None → behind_signed 8 bytes ≡ None
  eight_not e h f = before 8 b bytes more (lit< tt) e h ∙ f

module _ (b c : ℕ) (bytes second more : List ℕ) where
  pub eight_low : bytes ≡ b ∷ second → 128 ≤ b → second ≡ c ∷ more → c ≡ 0 → behind_signed 8 bytes ≡ Some more
  eight_low e h i f = before 8 b bytes second (lit< tt) e h ∙ sign_low c second more i f

  pub eight_high : bytes ≡ b ∷ second → 128 ≤ b → second ≡ c ∷ more → c ≡ 127 → behind_signed 8 bytes ≡ Some more
  eight_high e h i f = before 8 b bytes second (lit< tt) e h ∙ sign_high c second more i f

pub ruleset lasts = (four_low, four_high, eight_short, eight_low, eight_high, none_here, none_at)

-- whole numbers
pub short_32 : (bytes more : List ℕ) → PassesShort bytes more → behind_signed 32 bytes ≡ Some more
unfolding PassesShort
short_32 bytes more h = h 32 (lit< tt)

pub long_32 : (bytes second more : List ℕ) → Precedes bytes second → behind_signed 4 second ≡ Some more → behind_signed 32 bytes ≡ Some more
unfolding Precedes
long_32 bytes second more h e = h 32 (lit< tt) ∙ e

pub short_64 : (bytes more : List ℕ) → PassesShort bytes more → behind_signed 64 bytes ≡ Some more
unfolding PassesShort
short_64 bytes more h = h 64 (lit< tt)

pub middle_64 : (bytes second more : List ℕ) → Precedes bytes second → PassesShort second more → behind_signed 64 bytes ≡ Some more
unfolding Precedes PassesShort
middle_64 bytes second more h k = h 64 (lit< tt) ∙ k 36 (lit< tt)

pub long_64 : (bytes second third more : List ℕ) → Precedes bytes second → Precedes second third → behind_signed 8 third ≡ Some more → behind_signed 64 bytes ≡ Some more
unfolding Precedes
long_64 bytes second third more h k e = h 64 (lit< tt) ∙ k 36 (lit< tt) ∙ e

-- and none
pub none_32 : (bytes second : List ℕ) → Precedes bytes second → behind_signed 4 second ≡ None → behind_signed 32 bytes ≡ None
unfolding Precedes
none_32 bytes second h e = h 32 (lit< tt) ∙ e

pub middle_none : (bytes second : List ℕ) → Precedes bytes second → HasNoNumber second → behind_signed 64 bytes ≡ None
unfolding Precedes HasNoNumber
middle_none bytes second h k = h 64 (lit< tt) ∙ k 36

pub none_64 : (bytes second third : List ℕ) → Precedes bytes second → Precedes second third → behind_signed 8 third ≡ None → behind_signed 64 bytes ≡ None
unfolding Precedes
none_64 bytes second third h k e = h 64 (lit< tt) ∙ k 36 (lit< tt) ∙ e

pub ruleset wholes = (short_32, long_32, short_64, middle_64, long_64, none_at, none_32, middle_none, none_64)
