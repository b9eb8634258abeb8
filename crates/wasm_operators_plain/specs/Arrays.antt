-- Core Specification 3.0, Binary Format, Instructions, Aggregate Instructions: arrays.
use Rattle.std.specs.Prelude.{ℕ, ◌==◌, if◌then◌else◌, List, Option, None}
use Rattle.wasm_operators_plain.specs.Immediates.{alone, one_index, two_indices}
use Rattle.wasm_operators_plain.specs.declared.arrays.ArrayOperator.{ArrayOperator}
use Rattle.wasm_operators_plain.specs.declared.arrays.ArrayOperator.TheVariants.{ArrayNew, ArrayNewDefault, ArrayNewFixed, ArrayNewData, ArrayNewElem, ArrayGet, ArrayGetS, ArrayGetU, ArraySet, ArrayLen, ArrayFill, ArrayCopy, ArrayInitData, ArrayInitElem}

-- instructions on arrays by their number behind the prefix fb
unfoldable pub array_from : ℕ → List ℕ → Option (ArrayOperator × List ℕ)
array_from n bytes =
    if n == 6 then one_index ArrayNew bytes
    else (if n == 7 then one_index ArrayNewDefault bytes
    else (if n == 8 then two_indices ArrayNewFixed bytes
    else (if n == 9 then two_indices ArrayNewData bytes
    else (if n == 10 then two_indices ArrayNewElem bytes
    else (if n == 11 then one_index ArrayGet bytes
    else (if n == 12 then one_index ArrayGetS bytes
    else (if n == 13 then one_index ArrayGetU bytes
    else (if n == 14 then one_index ArraySet bytes
    else (if n == 15 then alone ArrayLen bytes
    else (if n == 16 then one_index ArrayFill bytes
    else (if n == 17 then two_indices ArrayCopy bytes
    else (if n == 18 then two_indices ArrayInitData bytes
    else (if n == 19 then two_indices ArrayInitElem bytes
    else None)))))))))))))
