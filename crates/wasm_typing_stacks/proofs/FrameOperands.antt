-- Operands that are taken, and frames that are opened and left.
use Rattle.std.proofs.Common.{◌≡◌, ℕ, ◌-◌, ◌≤◌, true, false, Bool, List, [], ◌∷◌, length, drop, map, refl, sym, arith}
use Rattle.std.specs.Prelude.{slice_get, Some, None}
use Rattle.std.proofs.lemmas.List.{drop-map, length-map}
use Rattle.wasm_spec_steps.specs.Machine as machine
use Rattle.wasm_typing_stacks.specs.SeenOperands.{operand_of}
use Rattle.wasm_typing_stacks.specs.SeenBlocks.{frame_of, frames_seen}
use Rattle.wasm_typing_stacks.specs.declared.word.Word.{Word}
use Rattle.wasm_typing_stacks.specs.declared.stacks.Frame.{Frame}

pub taken_away : (ops : List Word) (k : ℕ) → map operand_of (drop k ops) ≡ drop k (map operand_of ops)
taken_away ops k = sym (drop-map operand_of k ops)

pub ruleset takes = (taken_away, length-map)

all_dropped : {X : Type 0} (xs : List X) → drop (length xs) xs ≡ []
all_dropped [] = refl
all_dropped (x ∷ xs) = all_dropped xs

pub cleared : {X : Type 0} (xs : List X) → drop (length xs - 0) xs ≡ []
cleared xs = let e : length xs - 0 ≡ length xs = omega arith in rw e (all_dropped xs)

pub ruleset clears = (cleared)

pub first_opened : (b : Bool) (x y : Frame) (xs ys : List Frame) → b ≡ false → ys ≡ [] → frame_of x ∷ map frame_of ys ≡ frame_of x ∷ frames_seen b y xs
first_opened true x y xs ys e h = cc
first_opened false x y xs ys e h = rw h refl

pub next_opened : (b : Bool) (x y : Frame) (xs ys : List Frame) → b ≡ true → ys ≡ y ∷ xs → frame_of x ∷ map frame_of ys ≡ frame_of x ∷ frames_seen b y xs
next_opened true x y xs ys e h = rw h refl
next_opened false x y xs ys e h = cc

pub ruleset opens = (first_opened, next_opened, cleared, length-map)

pub back_in : (b : Bool) (x y : Frame) (xs ys : List Frame) → b ≡ true → slice_get xs 0 ≡ Some y → ys ≡ drop 1 xs → frames_seen b y ys ≡ drop 1 (frames_seen b x xs)
back_in true x y [] ys e f g = cc
back_in true x y (z ∷ xs) ys e f g = let h : z ≡ y = cc in rw (g, h) refl
back_in false x y xs ys e f g = cc

pub last_out : (b : Bool) (x : Frame) (xs : List Frame) → b ≡ true → slice_get xs 0 ≡ None → [] ≡ drop 1 (frames_seen b x xs)
last_out true x [] e f = refl
last_out true x (z ∷ xs) e f = cc
last_out false x xs e f = cc

pub ruleset closes = (back_in, last_out)

pub stopped : (b : Bool) (ops : List Word) (x : Frame) (xs : List Frame) (inits : List ℕ) → b ≡ true
    → machine.become_unreachable (record { operands = map operand_of ops; frames = frames_seen b x xs; inits = inits })
    ≡ Some (record { operands = map operand_of (drop (length ops - x.height) ops); frames = frames_seen b (record x { unreachable = true }) xs; inits = inits })
stopped true ops x xs inits e = rw (length-map ops operand_of, drop-map operand_of (length ops - x.height) ops) refl
stopped false ops x xs inits e = cc

pub ruleset stops = (stopped)
