-- What contracts see of locals: each with its type and whether it is set when its function begins, and those that were set since.
use Rattle.std.specs.Prelude.{◌≤◌, ℕ, zero, suc, ◌-◌, ◌^◌, ◌%◌, nat_lt, List, [], ◌∷◌, ◌++◌, replicate, ⊤}
use Rattle.wasm_operators_plain.specs.WasmReadersTypes.WasmReadersValues.declared.indices.UnpackedIndex.{UnpackedIndex}
use Rattle.wasm_typing_stacks.specs.TypeWords.{val_at}
use Rattle.wasm_spec_steps.specs.Bodies.{Local}
use Rattle.wasm_typing_stacks.specs.declared.local_word.LocalWord.{LocalWord}
use Rattle.wasm_typing_stacks.specs.declared.runs.Run.{Run}

abbrev pub local_of : LocalWord → Local UnpackedIndex
local_of w = record { content = val_at (w.bits % 2 ^ 38); set = nat_lt w.bits (2 ^ 38) }

-- runs of like locals, each with the place behind its last
abbrev pub spread : ℕ → List Run → List (Local UnpackedIndex)
spread start [] = []
spread start (r ∷ rs) = replicate (r.end - start) (local_of r.local) ++ spread r.end rs

abbrev pub Ascend : ℕ → List Run → Type 0
Ascend start [] = ⊤
Ascend start (r ∷ rs) = (start ≤ r.end) × Ascend r.end rs

-- the place behind so many runs
abbrev pub end_of : ℕ → ℕ → List Run → ℕ
end_of start zero rs = start
end_of start (suc k) [] = start
end_of start (suc k) (r ∷ rs) = end_of r.end k rs

-- the place behind all of them
abbrev pub end_of_all : ℕ → List Run → ℕ
end_of_all start [] = start
end_of_all start (r ∷ rs) = end_of_all r.end rs

pub record Held : Type 0 where
  pub content : List (Local UnpackedIndex)
  pub inits : List ℕ
