-- Lists of operands that are pushed one by one.
use Rattle.std.proofs.Common.{◌≡◌, List, [], ◌∷◌, ◌++◌, map, refl, sym, ◌∙◌, ap}
use Rattle.std.specs.Prelude.{reverse}
use Rattle.std.proofs.lemmas.List.{append_assoc, map-append, reverse-append}
use Rattle.wasm_operators_plain.specs.WasmSpec.Syntax.{Val}
use Rattle.wasm_operators_plain.specs.WasmReadersTypes.WasmReadersValues.declared.indices.UnpackedIndex.{UnpackedIndex}
use Rattle.wasm_spec_steps.specs.Machine.{Operand, known, pushed_onto}

-- what is pushed stands in front, the last on top
pub pushed_reverse : (vs : List (Val UnpackedIndex)) (xs : List (Operand UnpackedIndex)) → pushed_onto vs xs ≡ reverse (map known vs) ++ xs
pushed_reverse [] xs = refl
pushed_reverse (v ∷ vs) xs =
    let a : reverse (known v ∷ map known vs) ≡ reverse (map known vs) ++ known v ∷ [] = reverse-append (known v ∷ []) (map known vs) in
    pushed_reverse vs (known v ∷ xs) ∙ sym (append_assoc (reverse (map known vs)) (known v ∷ []) xs) ∙ ap (λ zs. zs ++ xs) (sym a)

pub map_reverse : {X Y : Type 0} (f : X → Y) (xs : List X) → map f (reverse xs) ≡ reverse (map f xs)
map_reverse f [] = refl
map_reverse f (x ∷ xs) =
    let a : reverse (x ∷ xs) ≡ reverse xs ++ x ∷ [] = reverse-append (x ∷ []) xs in
    let b : reverse (f x ∷ map f xs) ≡ reverse (map f xs) ++ f x ∷ [] = reverse-append (f x ∷ []) (map f xs) in
    ap (map f) a ∙ map-append f (reverse xs) (x ∷ []) ∙ ap (λ zs. zs ++ f x ∷ []) (map_reverse f xs) ∙ sym b
