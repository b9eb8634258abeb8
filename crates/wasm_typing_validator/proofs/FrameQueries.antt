-- What is asked of the frames of a validator.
use Rattle.std.proofs.Common.{◌≡◌, refl, sym, ap, ◌∙◌, ℕ, zero, suc, ◌+◌, ◌-◌, ◌<◌, ◌≤◌, ◌^◌, Bool, true, false, List, [], ◌∷◌, length, map, take, Some, None, option_map, slice_get, arith}
use Rattle.std.proofs.lemmas.List.{length-map}
use Rattle.std.proofs.lemmas.Option.{slice_get-map}
use Rattle.wasm_readers_types.specs.WasmReadersValues.declared.indices.UnpackedIndex.{UnpackedIndex}
use Rattle.wasm_operators.specs.Control.{Block}
use Rattle.wasm_operators.specs.declared.control.FrameKind.{FrameKind}
use Rattle.wasm_operators.specs.declared.control.FrameKind.TheVariants as frame
use Rattle.wasm_typing_families.specs.WasmTypingBlocks.WasmTypingChecks.WasmSpecSteps.Machine as machine
use Rattle.wasm_typing_arity.specs.ArityQueries.{kind_of}
use Rattle.wasm_typing_families.specs.WasmTypingBlocks.WasmTypingChecks.WasmTypingStacks.SeenBlocks as stacks
use Rattle.wasm_typing_families.specs.WasmTypingBlocks.WasmTypingChecks.WasmTypingStacks.SeenBlocks.{frame_of, frames_seen}
use Rattle.wasm_typing_families.specs.WasmTypingBlocks.WasmTypingChecks.WasmTypingStacks.declared.stacks.Frame.{Frame}
use Rattle.wasm_typing_validator.specs.ModuleAnswers.{label_seen}

-- kinds of frames are the same to both layers
pub same_kind : (k : FrameKind) → kind_of k ≡ stacks.kind_of k
same_kind frame.Block = refl
same_kind frame.If = refl
same_kind frame.Else = refl
same_kind frame.Loop = refl
same_kind frame.TryTable = refl
same_kind frame.LegacyTry = refl
same_kind frame.LegacyCatch = refl
same_kind frame.LegacyCatchAll = refl

-- kept items, and the first one behind them
slice_get-take : {X : Type 0} (n k : ℕ) (xs : List X) → k < n → slice_get (take n xs) k ≡ slice_get xs k
slice_get-take zero k xs l = absurd (omega (arith, l))
slice_get-take (suc n) k [] l = refl
slice_get-take (suc n) zero (x ∷ xs) l = refl
slice_get-take (suc n) (suc k) (x ∷ xs) l = slice_get-take n k xs (omega (arith, l))

slice_get-past : {X : Type 0} (n : ℕ) (xs : List X) → slice_get (take n xs) n ≡ None
slice_get-past zero xs = refl
slice_get-past (suc n) [] = refl
slice_get-past (suc n) (x ∷ xs) = slice_get-past n xs

few_kept : {X : Type 0} (n : ℕ) (xs : List X) → length xs ≤ n → length (take n xs) ≡ length xs
few_kept zero [] l = refl
few_kept (suc n) [] l = refl
few_kept zero (x ∷ xs) l = absurd (omega (arith, l))
few_kept (suc n) (x ∷ xs) l = ap suc (few_kept n xs (omega (arith, l)))

many_kept : {X : Type 0} (n : ℕ) (xs : List X) → n ≤ length xs → length (take n xs) ≡ n
many_kept zero xs l = refl
many_kept (suc n) [] l = absurd (omega (arith, l))
many_kept (suc n) (x ∷ xs) l = ap suc (many_kept n xs (omega (arith, l)))

-- how many frames are open
opened : (is_open : Bool) (x : Frame) (xs : List Frame) → is_open ≡ true → length (map label_seen (frames_seen is_open x xs)) ≡ length xs + 1
opened true x xs e =
    let h : length (map label_seen (map frame_of xs)) ≡ length (map frame_of xs) = length-map (map frame_of xs) label_seen in
    let g : length (map frame_of xs) ≡ length xs = length-map xs frame_of in
    omega (arith, h, g)
opened false x xs e = absurd cc

pub few_counted : (is_open : Bool) (x : Frame) (xs : List Frame) (k : ℕ) → is_open ≡ true → k ≡ length xs → k < 2 ^ 32 - 1 → k + 1 ≡ length (take (2 ^ 32 - 1) (map label_seen (frames_seen is_open x xs)))
few_counted is_open x xs k e h l =
    let t : length (map label_seen (frames_seen is_open x xs)) ≡ length xs + 1 = opened is_open x xs e in
    let f : length (take (2 ^ 32 - 1) (map label_seen (frames_seen is_open x xs))) ≡ length (map label_seen (frames_seen is_open x xs)) = few_kept (2 ^ 32 - 1) (map label_seen (frames_seen is_open x xs)) (omega (arith, t, h, l)) in
    sym (f ∙ t ∙ ap (λ n. n + 1) (sym h))

pub many_counted : (is_open : Bool) (x : Frame) (xs : List Frame) (k : ℕ) → is_open ≡ true → k ≡ length xs → 2 ^ 32 - 1 ≤ k → 2 ^ 32 - 1 ≡ length (take (2 ^ 32 - 1) (map label_seen (frames_seen is_open x xs)))
many_counted is_open x xs k e h l =
    let t : length (map label_seen (frames_seen is_open x xs)) ≡ length xs + 1 = opened is_open x xs e in
    sym (many_kept (2 ^ 32 - 1) (map label_seen (frames_seen is_open x xs)) (omega (arith, t, h, l)))

-- a frame by its label
label_at : (n k : ℕ) (fs : List (machine.Frame UnpackedIndex)) → k < n → slice_get (take n (map label_seen fs)) k ≡ option_map label_seen (slice_get fs k)
label_at n k fs l = slice_get-take n k (map label_seen fs) l ∙ slice_get-map label_seen fs k

pub label_there : (fs : List (machine.Frame UnpackedIndex)) (k : ℕ) (x : Frame) (b : Block UnpackedIndex) → k < 2 ^ 32 - 1 → b ≡ stacks.block_in x.block → Some (frame_of x) ≡ slice_get fs k
    → Some (b, kind_of x.kind) ≡ slice_get (take (2 ^ 32 - 1) (map label_seen fs)) k
label_there fs k x b l e h =
    let j : kind_of x.kind ≡ stacks.kind_of x.kind = same_kind x.kind in
    rw (e, j) (ap (option_map label_seen) h ∙ sym (label_at (2 ^ 32 - 1) k fs l))

pub no_label : (fs : List (machine.Frame UnpackedIndex)) (k : ℕ) → k < 2 ^ 32 - 1 → None ≡ slice_get fs k → None ≡ slice_get (take (2 ^ 32 - 1) (map label_seen fs)) k
no_label fs k l h = ap (option_map label_seen) h ∙ sym (label_at (2 ^ 32 - 1) k fs l)

pub none_behind : (fs : List (machine.Frame UnpackedIndex)) (k : ℕ) → k ≡ 2 ^ 32 - 1 → None ≡ slice_get (take (2 ^ 32 - 1) (map label_seen fs)) k
none_behind fs k e = rw e (sym (slice_get-past (2 ^ 32 - 1) (map label_seen fs)))

pub ruleset kinds = (same_kind)
