-- What a fast step tells of an operator by its first byte, for those who note blocks and branches.
use Rattle.std.specs.Prelude.{◌≡◌, ◌≤◌, ◌<◌, ◌==◌, ℕ, Bool, true, false, nat_lt, if◌then◌else◌, List, [], ◌∷◌, Option, Some, None, Result, Ok, Err, ⊤}
use Rattle.wasm_typing_fast.specs.WasmTypingControl.declared.not_taken.NotTaken.{NotTaken}
use Rattle.wasm_typing_fast.specs.WasmTypingControl.declared.not_taken.NotTaken.TheVariants as not_taken
use Rattle.wasm_typing_steps.specs.declared.told.Told.{Told}
use Rattle.wasm_typing_steps.specs.declared.told.Told.TheVariants.{Quiet, Opens, OpensLoop, OpensThen, Closes, Branches, BranchesPerhaps, Left, NoMemory}

-- whether a step was taken that is told so
abbrev pub is_taken : Told → Bool
is_taken Left = false
is_taken NoMemory = false
is_taken _ = true

-- where one was, and where none was
abbrev pub OnTaken : Told → Type 0 → Type 0
OnTaken t P = is_taken t ≡ true → P

abbrev pub OnLeft : Told → Type 0 → Type 0
OnLeft t P = is_taken t ≡ false → P

-- what is told where none was, by the reason
abbrev pub left_for : NotTaken → Told
left_for not_taken.Left = Left
left_for not_taken.OutOfMemory = NoMemory

-- by a first byte: unreachable and nop, block, loop, if, end, br, br_if, return and calls, drop and select, and all from local.get to
-- the last numeric operator. Of others no fast step is taken: else, exceptions, br_table, tail calls, and what has a prefix.
abbrev pub told_of : ℕ → Option Told
told_of b =
    if nat_lt b 0x02 then Some Quiet
    else (if b == 0x02 then Some Opens
    else (if b == 0x03 then Some OpensLoop
    else (if b == 0x04 then Some OpensThen
    else (if nat_lt b 0x0b then None
    else (if b == 0x0b then Some Closes
    else (if b == 0x0c then Some Branches
    else (if b == 0x0d then Some BranchesPerhaps
    else (if b == 0x0e then None
    else (if nat_lt b 0x12 then Some Quiet
    else (if nat_lt b 0x1a then None
    else (if nat_lt b 0x1c then Some Quiet
    else (if nat_lt b 0x20 then None
    else (if nat_lt b 0xd0 then Some Quiet
    else None)))))))))))))

-- by the bytes that an operator begins
unfoldable pub told_at : List ℕ → Option Told
told_at [] = None
told_at (b ∷ bytes) = told_of b

-- a step that is told so, if it is taken
unfoldable pub told_as : Result (Unit {0}) NotTaken → Told → Told
told_as (Ok x) t = t
told_as (Err e) t = left_for e

-- where a step was taken, it is told what this first byte says
unfoldable pub Tells : Told → ℕ → Type 0
Tells t b = OnTaken t (told_of b ≡ Some t)

-- where a step is taken, its opcode is that of a variable, of a load or a store, of a constant or of a numeric operator
unfoldable pub IsPlain : Result (Unit {0}) NotTaken → ℕ → Type 0
IsPlain (Ok x) b = (0x20 ≤ b) × (b < 0xd0)
IsPlain (Err e) b = ⊤
