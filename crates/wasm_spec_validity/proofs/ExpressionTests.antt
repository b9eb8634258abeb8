-- The instructions of an expression are those that its bytes read as, so that a computation tells whether it is one.
use Rattle.std.proofs.Common.{◌≡◌, refl, sym, ap, ◌∙◌, subst, ℕ, zero, suc, ◌≤◌, Bool, true, false, ◌&&◌, List, [], ◌∷◌, length, Option, Some, None, arith}
use Rattle.std.specs.List.{All}
use Rattle.std.proofs.lemmas.List.Elements.{All-nil, All-cons, All-head, All-tail}
use Rattle.wasm_spec.specs.MatchingTests.{World}
use Rattle.wasm_operators.specs.Instructions.{Instruction, instruction_at}
use Rattle.wasm_spec_steps.specs.WasmSpecRules.Attempts.{passes}
use Rattle.wasm_spec_steps.specs.Bodies.{Surroundings}
use Rattle.wasm_spec_steps.specs.ConstantRules.{is_allowed, IsConstantExpression}
use Rattle.wasm_spec_steps.specs.Machine.{State}
use Rattle.wasm_spec_steps.specs.Sequences.{Are}
use Rattle.wasm_spec_steps.specs.Steps.{steps_in, is_finished}
use Rattle.wasm_spec_validity.specs.Expressions.{instructions_of}
use Rattle.wasm_spec_validity.proofs.WholeExpressions.{rest_of}

no : false ≡ true → ⊥
no e = cc

-- no bytes, no instructions
none_in : (most : ℕ) → instructions_of most [] ≡ []
unfolding instruction_at
none_in zero = refl
none_in (suc m) = refl

one_more : (m : ℕ) (bytes next : List ℕ) (op : Instruction ℕ) → instruction_at (λ n. n) bytes ≡ Some (op, next) → instructions_of (suc m) bytes ≡ op ∷ instructions_of m next
one_more m bytes next op e = rw (e, instructions_of) refl

determined_by : (most : ℕ) (ops : List (Instruction ℕ)) (bytes : List ℕ) → length bytes ≤ most → Are ops bytes [] → instructions_of most bytes ≡ ops
determined_by most [] bytes enough are = ap (instructions_of most) are ∙ none_in most
determined_by zero (op ∷ ops) bytes enough are = let less = (rest_of bytes are.0 op are.1).shorter in absurd (omega (arith, less, enough))
determined_by (suc m) (op ∷ ops) bytes enough are =
    let less = (rest_of bytes are.0 op are.1).shorter in
    one_more m bytes are.0 op are.1 ∙ ap (λ os. op ∷ os) (determined_by m ops are.0 (omega (arith, less, enough)) are.2)

pub determined : (ops : List (Instruction ℕ)) (bytes : List ℕ) → Are ops bytes [] → ops ≡ instructions_of (length bytes) bytes
determined ops bytes are = sym (determined_by (length bytes) ops bytes (omega arith) are)

abbrev every : {X : Type 0} → (X → Bool) → List X → Bool
every test [] = true
every test (x ∷ xs) = test x && every test xs

both : (a b : Bool) → (a && b) ≡ true → (a ≡ true) × (b ≡ true)
both true b e = (refl, e)
both false b e = absurd (no e)

and : (a b : Bool) → a ≡ true → b ≡ true → (a && b) ≡ true
and a b e f = rw (e, f) refl

all-every : {X : Type 0} (test : X → Bool) (xs : List X) → All (λ x. test x ≡ true) xs → every test xs ≡ true
all-every test [] h = refl
all-every test (x ∷ xs) h = and (test x) (every test xs) (All-head (λ y. test y ≡ true) x xs h) (all-every test xs (All-tail (λ y. test y ≡ true) x xs h))

every-all : {X : Type 0} (test : X → Bool) (xs : List X) → every test xs ≡ true → All (λ x. test x ≡ true) xs
every-all test [] h = All-nil (λ y. test y ≡ true)
every-all test (x ∷ xs) h = let p = both (test x) (every test xs) h in All-cons (λ y. test y ≡ true) x xs p.0 (every-all test xs p.1)

-- whether the instructions lead to the end
abbrev pub leads : {R : Type 0} → World R → Surroundings R → List (Instruction ℕ) → State R → Bool
leads W B ops s = passes is_finished (steps_in W B ops s)

pub leads-if : {R : Type 0} (W : World R) (B : Surroundings R) (ops : List (Instruction ℕ)) (s t : State R) → steps_in W B ops s ≡ Some t → is_finished t ≡ true → leads W B ops s ≡ true
leads-if W B ops s t e f = ap (passes is_finished) e ∙ f

-- whether the bytes are a constant expression
abbrev pub is_constant_expression : {R : Type 0} → World R → Surroundings R → ℕ → State R → List ℕ → Bool
is_constant_expression W B imported s bytes = every (is_allowed B imported) (instructions_of (length bytes) bytes) && leads W B (instructions_of (length bytes) bytes) s

pub is_constant-if : {R : Type 0} (W : World R) (B : Surroundings R) (imported : ℕ) (s t : State R) (bytes : List ℕ) → IsConstantExpression W B imported s bytes t [] → is_constant_expression W B imported s bytes ≡ true
is_constant-if W B imported s t bytes x =
    let same = determined x.instructions bytes x.written in
    let allowed : every (is_allowed B imported) x.instructions ≡ true = all-every (is_allowed B imported) x.instructions x.allowed in
    let all = and (every (is_allowed B imported) x.instructions) (leads W B x.instructions s) allowed (leads-if W B x.instructions s t x.typed x.finished) in
    subst (λ (ops : List (Instruction ℕ)). (every (is_allowed B imported) ops && leads W B ops s) ≡ true) same all

-- whether all bytes are read as so many instructions at the most
abbrev pub are_all_read : ℕ → List ℕ → Bool
are_all_read most [] = true
are_all_read zero (b ∷ bytes) = false
are_all_read (suc most) (b ∷ bytes) = elim (instruction_at (λ n. n) (b ∷ bytes)) [ None ↦ false | Some i ↦ are_all_read most i.1 ]

abbrev ReadAll : ℕ → Type 0
ReadAll m = (bytes : List ℕ) → are_all_read m bytes ≡ true → Are (instructions_of m bytes) bytes []

read_first : (m : ℕ) → ReadAll m → (o : Option (Instruction ℕ × List ℕ)) (bytes : List ℕ) → instruction_at (λ n. n) bytes ≡ o
    → (elim o [ None ↦ false | Some i ↦ are_all_read m i.1 ]) ≡ true → Are (elim o [ None ↦ [] | Some i ↦ i.0 ∷ instructions_of m i.1 ]) bytes []
read_first m all None bytes e f = absurd (no f)
read_first m all (Some i) bytes e f = (i.1, e, all i.1 f)

read_all : (m : ℕ) → ReadAll m
read_all m [] e = subst (λ (ops : List (Instruction ℕ)). Are ops [] []) (sym (none_in m)) refl
read_all zero (b ∷ bytes) e = absurd (no e)
read_all (suc m) (b ∷ bytes) e = read_first m (read_all m) (instruction_at (λ n. n) (b ∷ bytes)) (b ∷ bytes) refl e

-- the instructions that these bytes are
pub all_of : (bytes : List ℕ) → are_all_read (length bytes) bytes ≡ true → Are (instructions_of (length bytes) bytes) bytes []
all_of bytes e = read_all (length bytes) bytes e

passed : {X : Type 0} (test : X → Bool) (o : Option X) → passes test o ≡ true → (x : X) × (o ≡ Some x) × (test x ≡ true)
passed test None e = absurd (no e)
passed test (Some x) e = (x, refl, e)

pub last_of : {R : Type 0} (W : World R) (B : Surroundings R) (ops : List (Instruction ℕ)) (s : State R) → leads W B ops s ≡ true → (t : State R) × (steps_in W B ops s ≡ Some t) × (is_finished t ≡ true)
last_of W B ops s e = passed is_finished (steps_in W B ops s) e

pub is_constant-by : {R : Type 0} (W : World R) (B : Surroundings R) (imported : ℕ) (s : State R) (bytes : List ℕ) → are_all_read (length bytes) bytes ≡ true → is_constant_expression W B imported s bytes ≡ true
    → (t : State R) × IsConstantExpression W B imported s bytes t []
is_constant-by W B imported s bytes read e =
    let p = both (every (is_allowed B imported) (instructions_of (length bytes) bytes)) (leads W B (instructions_of (length bytes) bytes) s) e in
    let l = last_of W B (instructions_of (length bytes) bytes) s p.1 in
    (l.0, record { instructions = instructions_of (length bytes) bytes; written = all_of bytes read; allowed = every-all (is_allowed B imported) (instructions_of (length bytes) bytes) p.0; typed = l.1; finished = l.2 })
