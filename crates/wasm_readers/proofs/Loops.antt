-- What loops over items keep.
use Rattle.std.proofs.Common.{◌≡◌, refl, ℕ, zero, suc, ◌-◌, ◌<◌, List, [], ◌∷◌, ◌++◌, map, Option, Some, None, append_assoc, arith}
use Rattle.std.specs.Option.{option_map}
use Rattle.wasm_readers_bytes.specs.WasmSpec.Values.{many_at}

-- what was read before, and what is still read
abbrev pub with_front : {V : Type 0} → List V → Option (List V × List ℕ) → Option (List V × List ℕ)
with_front front read = option_map (λ xs. (front ++ xs.0, xs.1)) read

-- one more item goes to the end of the front
with_one_more : {V : Type 0} (front : List V) (v : V) (read : Option (List V × List ℕ)) → with_front (front ++ v ∷ []) read ≡ with_front front (option_map (λ xs. (v ∷ xs.0, xs.1)) read)
with_one_more front v None = refl
with_one_more front v (Some xs) = λ i. Some (append_assoc front (v ∷ []) xs.0 i, xs.1)

map-push : {T V : Type 0} (value : T → V) (items : List T) (item : T) → map value (items ++ item ∷ []) ≡ map value items ++ value item ∷ []
map-push value [] item = refl
map-push value (x ∷ xs) item = λ i. value x ∷ map-push value xs item i

pub one_more : {T V : Type 0} (value : T → V) (encoded : List ℕ → Option (V × List ℕ)) (items : List T) (item : T) (left : ℕ) (bytes after : List ℕ)
    → 0 < left → encoded bytes ≡ Some (value item, after)
    → with_front (map value (items ++ item ∷ [])) (many_at encoded (left - 1) after) ≡ with_front (map value items) (many_at encoded left bytes)
one_more value encoded items item zero bytes after h e = absurd (omega arith)
one_more value encoded items item (suc n) bytes after h e =
    let back : suc n - 1 ≡ n = omega arith in
    rw (back, map-push value items item, e) (with_one_more (map value items) (value item) (many_at encoded n after))

-- nothing is read where the next item is refused
pub none_more : {T V : Type 0} (value : T → V) (encoded : List ℕ → Option (V × List ℕ)) (items : List T) (left : ℕ) (bytes : List ℕ)
    → 0 < left → encoded bytes ≡ None → with_front (map value items) (many_at encoded left bytes) ≡ None
none_more value encoded items zero bytes h e = absurd (omega arith)
none_more value encoded items (suc n) bytes h e = rw e refl

-- the bytes behind items that are read
abbrev pub behind : {V : Type 0} → Option (List V × List ℕ) → Option (List ℕ)
behind read = option_map (λ xs. xs.1) read

behind_one : {V : Type 0} (v : V) (read : Option (List V × List ℕ)) → behind read ≡ behind (option_map (λ xs. (v ∷ xs.0, xs.1)) read)
behind_one v None = refl
behind_one v (Some xs) = refl

-- they are the same where one item less is left
pub one_passed : {V : Type 0} (encoded : List ℕ → Option (V × List ℕ)) (v : V) (left : ℕ) (bytes after : List ℕ)
    → 0 < left → encoded bytes ≡ Some (v, after) → behind (many_at encoded (left - 1) after) ≡ behind (many_at encoded left bytes)
one_passed encoded v zero bytes after h e = absurd (omega arith)
one_passed encoded v (suc n) bytes after h e =
    let back : suc n - 1 ≡ n = omega arith in
    rw (back, e) (behind_one v (many_at encoded n after))
