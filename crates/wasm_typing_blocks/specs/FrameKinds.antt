-- A frame that begins again as one of another kind.
use Rattle.std.specs.Prelude.{false, ◌-◌, List, [], ◌∷◌, length, drop}
use Rattle.wasm_readers_types.specs.WasmReadersValues.declared.indices.UnpackedIndex.{UnpackedIndex}
use Rattle.wasm_typing_control.specs.WasmTypingChecks.WasmSpecSteps.Machine.{Kind, Frame, State}

abbrev pub again_in : Kind → List (Frame UnpackedIndex) → State UnpackedIndex → State UnpackedIndex
again_in k [] s = s
again_in k (x ∷ xs) s =
    let inits = drop (length s.inits - x.init_height) s.inits in
    record s { frames = record x { kind = k; unreachable = false; init_height = length inits } ∷ xs; inits = inits }

-- the innermost frame, of this kind, with the locals that it set forgotten
unfoldable pub again : Kind → State UnpackedIndex → State UnpackedIndex
again k s = again_in k s.frames s
