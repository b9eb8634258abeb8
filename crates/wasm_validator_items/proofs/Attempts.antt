-- Attempts whose value passes a test.
use Rattle.std.proofs.Common.{◌≡◌, refl, ℕ, Bool, true, false, ◌&&◌, if◌then◌else◌, List, Option, Some, None, option_map}
use Rattle.std.specs.Option.{option_and_then}

-- what is behind a value that passes the test
abbrev pub behind_where : {V : Type 0} → (V → Bool) → Option (V × List ℕ) → Option (List ℕ)
behind_where test o = option_and_then (λ x. if test x.0 then Some x.1 else None) o

-- a state, and the bytes behind
abbrev pub beside : {S : Type 0} → List ℕ → S → S × List ℕ
beside more t = (t, more)

-- what is behind a value, with what is added of it
abbrev pub added : {S V : Type 0} → (V → Option S) → Option (V × List ℕ) → Option (S × List ℕ)
added add o = option_and_then (λ x. option_map (beside x.1) (add x.0)) o

-- nothing, whatever is attempted first
pub always_none : {V W : Type 0} (f : V → Option W) → ((x : V) → f x ≡ None) → (o : Option V) → option_and_then f o ≡ None
always_none f e None = refl
always_none f e (Some x) = e x

-- an attempt with another form of the value
pub then_mapped : {V W X : Type 0} (f : W → Option X) (g : V → W) (o : Option V) → option_and_then f (option_map g o) ≡ option_and_then (λ x. f (g x)) o
then_mapped f g None = refl
then_mapped f g (Some x) = refl

-- an attempt after two
pub then_then : {V W X : Type 0} (f : W → Option X) (g : V → Option W) (o : Option V) → option_and_then f (option_and_then g o) ≡ option_and_then (λ x. option_and_then f (g x)) o
then_then f g None = refl
then_then f g (Some x) = refl

pub map_then : {V W X : Type 0} (f : W → X) (g : V → Option W) (o : Option V) → option_map f (option_and_then g o) ≡ option_and_then (λ x. option_map f (g x)) o
map_then f g None = refl
map_then f g (Some x) = refl

-- the same attempts in the place of these
pub then_same : {V W : Type 0} (f g : V → Option W) → ((x : V) → f x ≡ g x) → (o : Option V) → option_and_then f o ≡ option_and_then g o
then_same f g e None = refl
then_same f g e (Some x) = e x

-- a test before the value is read, and one of the value
tested : {S : Type 0} (b : Bool) (more : List ℕ) (w : Option S)
    → option_and_then (λ m. option_map (beside m) w) (if b then Some more else None) ≡ option_map (beside more) (if b then w else None)
tested true more w = refl
tested false more w = refl

pub both_tests : {S V : Type 0} (valid : Bool) (test : V → Bool) (w : Option S) (o : Option (V × List ℕ))
    → (if valid then option_and_then (λ more. option_map (beside more) w) (behind_where test o) else None)
    ≡ added (λ x. if valid && test x then w else None) o
both_tests true test w None = refl
both_tests true test w (Some x) = tested (test x.0) x.1 w
both_tests false test w None = refl
both_tests false test w (Some x) = refl

-- a test alone
pub one_test : {S : Type 0} (valid : Bool) (more : List ℕ) (w : Option S)
    → (if valid then option_map (beside more) w else None) ≡ option_map (beside more) (if valid && true then w else None)
one_test true more w = refl
one_test false more w = refl
