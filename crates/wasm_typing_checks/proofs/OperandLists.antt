-- Lists of types that operands are checked against, and that are pushed.
use Rattle.std.proofs.Common.{◌≡◌, ℕ, ◌-◌, ◌+◌, ◌<◌, List, [], ◌∷◌, length, take, drop, map, get_or, refl, arith, sym, ◌∙◌, ap}
use Rattle.std.specs.Prelude.{zero, suc, Some, None}
use Rattle.std.proofs.lemmas.List.{length-drop, take_all}
use Rattle.std.proofs.lemmas.Option.{slice_get-get_or}
use Rattle.wasm_validator_resources.specs.WasmSpec.MatchingTests.{World}
use Rattle.wasm_validator_resources.specs.WasmSpec.Syntax.{Val}
use Rattle.wasm_validator_resources.specs.WasmReadersTypes.WasmReadersValues.SeenValues.{val_of}
use Rattle.wasm_validator_resources.specs.WasmReadersTypes.WasmReadersValues.declared.indices.UnpackedIndex.{UnpackedIndex}
use Rattle.wasm_validator_resources.specs.WasmReadersTypes.WasmReadersValues.declared.values.ValType.{ValType}
use Rattle.wasm_typing_stacks.specs.WasmSpecSteps.Machine.{State, bottom, pop_any, pop_val, pop_vals}
use Rattle.wasm_typing_checks.proofs.OperandLookups.{bottom_match, from_on, one_popped}

-- one type more from the end, that matches or doesn't
last_types : (vs : List ValType) (n : ℕ) (v : ValType) (x : Val UnpackedIndex) → n < length vs → x ≡ val_of (get_or vs n v) → map val_of (drop n vs) ≡ x ∷ map val_of (drop (n + 1) vs)
last_types vs n v x h e = ap (map val_of) (from_on vs n (get_or vs n v) (slice_get-get_or vs n v h)) ∙ ap (λ y. y ∷ map val_of (drop (n + 1) vs)) (sym e)

one_more_popped : (W : World UnpackedIndex) (vs : List ValType) (n : ℕ) (v : ValType) (x : Val UnpackedIndex) (s t u : State UnpackedIndex) → n < length vs → x ≡ val_of (get_or vs n v) → pop_vals W (map val_of (drop (n + 1) vs)) s ≡ Some t → pop_val W x t ≡ Some u → pop_vals W (map val_of (drop n vs)) s ≡ Some u
one_more_popped W vs n v x s t u h e p q = ap (λ ws. pop_vals W ws s) (last_types vs n v x h e) ∙ rw p q

one_not_popped : (W : World UnpackedIndex) (vs : List ValType) (n : ℕ) (v : ValType) (x : Val UnpackedIndex) (s t : State UnpackedIndex) → n < length vs → x ≡ val_of (get_or vs n v) → pop_vals W (map val_of (drop (n + 1) vs)) s ≡ Some t → pop_val W x t ≡ None → pop_vals W (map val_of (drop n vs)) s ≡ None
one_not_popped W vs n v x s t h e p q = ap (λ ws. pop_vals W ws s) (last_types vs n v x h e) ∙ rw p q

-- where the last types aren't found none are
front_not_popped : (W : World UnpackedIndex) (vs : List ValType) (n : ℕ) (s : State UnpackedIndex) → pop_vals W (map val_of (drop n vs)) s ≡ None → pop_vals W (map val_of vs) s ≡ None
front_not_popped W [] zero s e = e
front_not_popped W [] (suc n) s e = e
front_not_popped W (v ∷ vs) zero s e = e
front_not_popped W (v ∷ vs) (suc n) s e = rw (front_not_popped W vs n s e) refl

never_popped : (W : World UnpackedIndex) (vs : List ValType) (n : ℕ) (v : ValType) (x : Val UnpackedIndex) (s t : State UnpackedIndex) → n < length vs → x ≡ val_of (get_or vs n v) → pop_vals W (map val_of (drop (n + 1) vs)) s ≡ Some t → pop_val W x t ≡ None → pop_vals W (map val_of vs) s ≡ None
never_popped W vs n v x s t h e p q = front_not_popped W vs n s (one_not_popped W vs n v x s t h e p q)

before_last : (n i : ℕ) → i < n → n - (i + 1) ≡ n - 1 - i
before_last n i h = omega arith

after_last : (n i : ℕ) → i < n → n - i ≡ n - 1 - i + 1
after_last n i h = omega arith

within : (n i : ℕ) → i < n → n - 1 - i < n
within n i h = omega arith

-- the same, counted from the end
pub next_popped : (W : World UnpackedIndex) (vs : List ValType) (i : ℕ) (v : ValType) (x : Val UnpackedIndex) (s t u : State UnpackedIndex) → i < length vs → x ≡ val_of (get_or vs (length vs - 1 - i) v) → pop_vals W (map val_of (drop (length vs - i) vs)) s ≡ Some t → pop_val W x t ≡ Some u → pop_vals W (map val_of (drop (length vs - (i + 1)) vs)) s ≡ Some u
next_popped W vs i v x s t u h e p q =
    let a : pop_vals W (map val_of (drop (length vs - 1 - i + 1) vs)) s ≡ Some t = ap (λ n. pop_vals W (map val_of (drop n vs)) s) (sym (after_last _ i h)) ∙ p in
    ap (λ n. pop_vals W (map val_of (drop n vs)) s) (before_last _ i h) ∙ one_more_popped W vs (length vs - 1 - i) v x s t u (within _ i h) e a q

pub next_not_popped : (W : World UnpackedIndex) (vs : List ValType) (i : ℕ) (v : ValType) (x : Val UnpackedIndex) (s t : State UnpackedIndex) → i < length vs → x ≡ val_of (get_or vs (length vs - 1 - i) v) → pop_vals W (map val_of (drop (length vs - i) vs)) s ≡ Some t → pop_val W x t ≡ None → pop_vals W (map val_of vs) s ≡ None
next_not_popped W vs i v x s t h e p q =
    let a : pop_vals W (map val_of (drop (length vs - 1 - i + 1) vs)) s ≡ Some t = ap (λ n. pop_vals W (map val_of (drop n vs)) s) (sym (after_last _ i h)) ∙ p in
    never_popped W vs (length vs - 1 - i) v x s t (within _ i h) e a q

-- where any more may be taken
pub all_taken : (W : World UnpackedIndex) (vs : List ValType) (n : ℕ) (s t : State UnpackedIndex) → pop_vals W (map val_of (drop n vs)) s ≡ Some t → pop_any t ≡ Some (bottom, t) → pop_vals W (map val_of vs) s ≡ Some t
all_taken W [] zero s t e b = e
all_taken W [] (suc n) s t e b = e
all_taken W (v ∷ vs) zero s t e b = e
all_taken W (v ∷ vs) (suc n) s t e b = rw (all_taken W vs n s t e b) (one_popped W (val_of v) t t bottom b refl)

all_behind : (vs : List ValType) (n : ℕ) → take (length vs - n) (drop n vs) ≡ drop n vs
all_behind vs n = let l : length (drop n vs) ≡ length vs - n = length-drop n vs in take_all (length vs - n) (drop n vs) (omega (arith, l))

-- the same, where the last types are a slice
pub last_taken : (W : World UnpackedIndex) (vs : List ValType) (n : ℕ) (s t : State UnpackedIndex) → pop_vals W (map val_of (take (length vs - n) (drop n vs))) s ≡ Some t → pop_any t ≡ Some (bottom, t) → pop_vals W (map val_of vs) s ≡ Some t
last_taken W vs n s t e b = all_taken W vs n s t (ap (λ ws. pop_vals W (map val_of ws) s) (sym (all_behind vs n)) ∙ e) b

pub ruleset last_looks = (last_taken)

pub ruleset list_checks = (next_popped, next_not_popped, all_taken, bottom_match)
