-- Operators by how many indices follow their opcode: none, one or two. Core Specification 3.0, Binary Format, Instructions.
use Rattle.std.specs.Prelude.{ℕ, ◌==◌, if◌then◌else◌, List, Option, Some, None}
use Rattle.std.specs.Option.{option_map, option_and_then}
use Rattle.wasm_readers.specs.WasmSpec.Values.{u32_at}
use Rattle.wasm_operators_plain.specs.declared.structs.StructOperator.{StructOperator}
use Rattle.wasm_operators_plain.specs.declared.structs.StructOperator.TheVariants.{StructNew, StructNewDefault, StructGet, StructGetS, StructGetU, StructSet, StructNewDesc, StructNewDefaultDesc}
use Rattle.wasm_operators_plain.specs.declared.arrays.ArrayOperator.{ArrayOperator}
use Rattle.wasm_operators_plain.specs.declared.arrays.ArrayOperator.TheVariants.{ArrayNew, ArrayNewDefault, ArrayNewFixed, ArrayNewData, ArrayNewElem, ArrayGet, ArrayGetS, ArrayGetU, ArraySet, ArrayLen, ArrayFill, ArrayCopy, ArrayInitData, ArrayInitElem}

-- none, one or two indices, as a pair with 0 for what isn't there
unfoldable pub indices_at : ℕ → List ℕ → Option ((ℕ × ℕ) × List ℕ)
indices_at n bytes =
    if n == 0 then Some ((0, 0), bytes)
    else (if n == 1 then option_map (λ i. ((i.0, 0), i.1)) (u32_at bytes)
    else option_and_then (λ i. option_map (λ j. ((i.0, j.0), j.1)) (u32_at i.1)) (u32_at bytes))

-- an operator with as many indices as it has, or none where no operator is known
abbrev pub with_indices : {X : Type 0} → Option ℕ → (ℕ → ℕ → X) → List ℕ → Option (X × List ℕ)
with_indices None op bytes = None
with_indices (Some count) op bytes = option_map (λ x. (op x.0.0 x.0.1, x.1)) (indices_at count bytes)

-- instructions on structures: how many indices the one of a number has, and the one with its indices
unfoldable pub struct_indices : ℕ → Option ℕ
struct_indices n =
    if n == 0 then Some 1
    else (if n == 1 then Some 1
    else (if n == 2 then Some 2
    else (if n == 3 then Some 2
    else (if n == 4 then Some 2
    else (if n == 5 then Some 2
    else (if n == 32 then Some 1
    else (if n == 33 then Some 1
    else None)))))))

unfoldable pub struct_with : ℕ → ℕ → ℕ → StructOperator
struct_with n i j =
    if n == 0 then StructNew i
    else (if n == 1 then StructNewDefault i
    else (if n == 2 then StructGet i j
    else (if n == 3 then StructGetS i j
    else (if n == 4 then StructGetU i j
    else (if n == 5 then StructSet i j
    else (if n == 32 then StructNewDesc i
    else StructNewDefaultDesc i))))))

-- instructions on arrays: how many indices the one of a number has, and the one with its indices
unfoldable pub array_indices : ℕ → Option ℕ
array_indices n =
    if n == 6 then Some 1
    else (if n == 7 then Some 1
    else (if n == 8 then Some 2
    else (if n == 9 then Some 2
    else (if n == 10 then Some 2
    else (if n == 11 then Some 1
    else (if n == 12 then Some 1
    else (if n == 13 then Some 1
    else (if n == 14 then Some 1
    else (if n == 15 then Some 0
    else (if n == 16 then Some 1
    else (if n == 17 then Some 2
    else (if n == 18 then Some 2
    else (if n == 19 then Some 2
    else None)))))))))))))

unfoldable pub array_with : ℕ → ℕ → ℕ → ArrayOperator
array_with n i j =
    if n == 6 then ArrayNew i
    else (if n == 7 then ArrayNewDefault i
    else (if n == 8 then ArrayNewFixed i j
    else (if n == 9 then ArrayNewData i j
    else (if n == 10 then ArrayNewElem i j
    else (if n == 11 then ArrayGet i
    else (if n == 12 then ArrayGetS i
    else (if n == 13 then ArrayGetU i
    else (if n == 14 then ArraySet i
    else (if n == 15 then ArrayLen
    else (if n == 16 then ArrayFill i
    else (if n == 17 then ArrayCopy i j
    else (if n == 18 then ArrayInitData i j
    else ArrayInitElem i j))))))))))))
