-- Operands that are looked at below others.
use Rattle.std.proofs.Common.{◌≡◌, ◌≢◌, ℕ, ◌-◌, ◌+◌, ◌≤◌, ◌==◌, Bool, true, false, List, [], ◌∷◌, length, drop, map, refl, add-one, arith, sym, ◌∙◌, ap}
use Rattle.std.specs.Option.{option_map}
use Rattle.std.specs.Prelude.{zero, suc, slice_get, Some, None}
use Rattle.std.proofs.lemmas.Bool.Decides.{nat_tests}
use Rattle.std.proofs.lemmas.List.{length-drop, length-map}
use Rattle.std.proofs.lemmas.Option.{slice_get-map, slice_get_within}
use Rattle.wasm_validator_resources.specs.WasmReadersTypes.WasmReadersValues.declared.indices.UnpackedIndex.{UnpackedIndex}
use Rattle.wasm_validator_resources.specs.WasmSpec.MatchingTests.{World}
use Rattle.wasm_validator_resources.specs.WasmSpec.Syntax.{Val}
use Rattle.wasm_typing_stacks.specs.WasmSpecSteps.Machine.{Operand, State, pop_any, pop_val, popped, bottom, matches_operand}
use Rattle.wasm_typing_stacks.specs.SeenOperands.{operand_of}
use Rattle.wasm_typing_stacks.specs.SeenBlocks.{frames_seen}
use Rattle.wasm_typing_stacks.specs.BodyStacks.{below}
use Rattle.wasm_typing_stacks.specs.TypeWords.{val_at}
use Rattle.wasm_typing_stacks.specs.Words.{operand_at}
use Rattle.wasm_typing_stacks.specs.SeenTypeWords.{val_in}
use Rattle.wasm_typing_stacks.specs.declared.type_word.TypeWord.{TypeWord}
use Rattle.wasm_typing_stacks.specs.declared.word.Word.{Word}
use Rattle.wasm_typing_stacks.specs.declared.stacks.Frame.{Frame}

-- the state of these stacks
abbrev pub made : List Word → Bool → Frame → List Frame → List ℕ → State UnpackedIndex
made ops b x xs inits = record { operands = map operand_of ops; frames = frames_seen b x xs; inits = inits }

pub same : (a b : ℕ) → a ≡ b → (a == b) ≡ true
same a b e = grind (arith, nat_tests)

pub differ : (a b : ℕ) → a ≢ b → (a == b) ≡ false
differ a b e = grind (arith, nat_tests)

left : (ops : List Word) (k : ℕ) → length (drop k (map operand_of ops)) ≡ length ops - k
left ops k = length-drop k (map operand_of ops) ∙ ap (λ n. n - k) (length-map ops operand_of)

-- the operands from one on, and those past the last
from_on_suc : {X : Type 0} (xs : List X) (k : ℕ) (x : X) → slice_get xs k ≡ Some x → drop k xs ≡ x ∷ drop (suc k) xs
from_on_suc [] k x e = cc
from_on_suc (y ∷ ys) zero x e = let h : y ≡ x = cc in ap (λ z. z ∷ ys) h
from_on_suc (y ∷ ys) (suc k) x e = from_on_suc ys k x e

pub from_on : {X : Type 0} (xs : List X) (k : ℕ) (x : X) → slice_get xs k ≡ Some x → drop k xs ≡ x ∷ drop (k + 1) xs
from_on xs k x e = rw add-one (from_on_suc xs k x e)

pub past : {X : Type 0} (xs : List X) (k : ℕ) → slice_get xs k ≡ None → drop k xs ≡ []
past [] zero e = refl
past [] (suc k) e = refl
past (y ∷ ys) zero e = cc
past (y ∷ ys) (suc k) e = past ys k e

as_popped : (ops : List Word) (b : Bool) (x : Frame) (xs : List Frame) (inits : List ℕ) (k : ℕ) → b ≡ true
    → pop_any (below k (made ops b x xs inits)) ≡ popped (length (drop k (map operand_of ops)) == x.height) x.unreachable (drop k (map operand_of ops)) (below k (made ops b x xs inits))
as_popped ops true x xs inits k e = refl
as_popped ops false x xs inits k e = cc

pub no_frame : (ops : List Word) (b : Bool) (x : Frame) (xs : List Frame) (inits : List ℕ) (k : ℕ) → b ≡ false → pop_any (below k (made ops b x xs inits)) ≡ None
no_frame ops true x xs inits k e = cc
no_frame ops false x xs inits k e = refl

pub look_past : (ops : List Word) (b : Bool) (x : Frame) (xs : List Frame) (inits : List ℕ) (k : ℕ) → b ≡ true → length ops - k ≡ x.height → x.unreachable ≡ false → pop_any (below k (made ops b x xs inits)) ≡ None
look_past ops b x xs inits k e h u = as_popped ops b x xs inits k e ∙ rw (same _ _ (left ops k ∙ h), u) refl

pub look_bottom : (ops : List Word) (b : Bool) (x : Frame) (xs : List Frame) (inits : List ℕ) (k : ℕ) → b ≡ true → length ops - k ≡ x.height → x.unreachable ≡ true → pop_any (below k (made ops b x xs inits)) ≡ Some (bottom, below k (made ops b x xs inits))
look_bottom ops b x xs inits k e h u = as_popped ops b x xs inits k e ∙ rw (same _ _ (left ops k ∙ h), u) refl

pub look_nothing : (ops : List Word) (b : Bool) (x : Frame) (xs : List Frame) (inits : List ℕ) (k : ℕ) → b ≡ true → length ops - k ≢ x.height → slice_get ops k ≡ None → pop_any (below k (made ops b x xs inits)) ≡ None
look_nothing ops b x xs inits k e h u =
    let d = past (map operand_of ops) k (slice_get-map operand_of ops k ∙ ap (option_map operand_of) u) in
    as_popped ops b x xs inits k e ∙ rw (differ _ _ (λ q. h (sym (left ops k) ∙ q)), d) refl

pub look_within : (ops : List Word) (b : Bool) (x : Frame) (xs : List Frame) (inits : List ℕ) (k : ℕ) (o : Word) → b ≡ true → length ops - k ≢ x.height → slice_get ops k ≡ Some o → pop_any (below k (made ops b x xs inits)) ≡ Some (operand_of o, below (k + 1) (made ops b x xs inits))
look_within ops b x xs inits k o e h u =
    let d = from_on (map operand_of ops) k (operand_of o) (slice_get-map operand_of ops k ∙ ap (option_map operand_of) u) in
    as_popped ops b x xs inits k e ∙ rw (differ _ _ (λ q. h (sym (left ops k) ∙ q)), d) refl

pub one_more : (ops : List Word) (k : ℕ) (o : Word) → slice_get ops k ≡ Some o → k + 1 ≤ length (map operand_of ops)
one_more ops k o e = let h = slice_get_within ops k o e in rw (length-map ops operand_of) (omega arith)

pub ruleset looks = (no_frame, look_past, look_bottom, look_nothing, look_within, one_more, length-map)

-- checks of what was looked at
pub nothing_popped : (W : World UnpackedIndex) (v : Val UnpackedIndex) (s : State UnpackedIndex) → pop_any s ≡ None → pop_val W v s ≡ None
nothing_popped W v s e = rw e refl

pub one_popped : (W : World UnpackedIndex) (v : Val UnpackedIndex) (s t : State UnpackedIndex) (o : Operand UnpackedIndex) → pop_any s ≡ Some (o, t) → true ≡ matches_operand W o v → pop_val W v s ≡ Some t
one_popped W v s t o e h = rw (e, ← h) refl

pub other_popped : (W : World UnpackedIndex) (v : Val UnpackedIndex) (s t : State UnpackedIndex) (o : Operand UnpackedIndex) → pop_any s ≡ Some (o, t) → false ≡ matches_operand W o v → pop_val W v s ≡ None
other_popped W v s t o e h = rw (e, ← h) refl

pub ruleset checks = (nothing_popped, one_popped, other_popped)

-- an operand and a type of the same numbers as two that match
pub same_match : (W : World UnpackedIndex) (o w : Word) (t u : TypeWord) → o.bits ≡ w.bits → t.bits ≡ u.bits → matches_operand W (operand_of w) (val_in u) ≡ true → true ≡ matches_operand W (operand_of o) (val_in t)
same_match W o w t u a b e = sym e ∙ ap (λ n. matches_operand W (operand_at n) (val_at u.bits)) (sym a) ∙ ap (λ n. matches_operand W (operand_at o.bits) (val_at n)) (sym b)

pub bottom_match : (W : World UnpackedIndex) (o : Operand UnpackedIndex) (v : Val UnpackedIndex) → o ≡ bottom → matches_operand W o v ≡ true
bottom_match W o v e = rw e refl

pub ruleset matches_again = (same_match)
