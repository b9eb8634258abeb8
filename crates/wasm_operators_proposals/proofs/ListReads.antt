-- What reading of lists keeps.
use Rattle.std.proofs.Common.{◌≡◌, refl, ap, ◌∙◌, ℕ, zero, suc, ◌-◌, ◌<◌, List, [], ◌∷◌, Option, Some, None, arith}
use Rattle.std.specs.Option.{option_map, option_and_then}
use Rattle.wasm_operators_plain.specs.WasmSpec.Values.{u32_at, many_at, list_at}
use Rattle.wasm_operators_proposals.specs.SeenLists.{begun_by, first_items, GivesFront, behind}

-- what is read behind an item, with that item
abbrev pub starting : {V : Type 0} → V → Option (List V × List ℕ) → Option (List V × List ℕ)
starting v o = option_map (λ xs. (v ∷ xs.0, xs.1)) o

abbrev pub joined : {V : Type 0} → (List ℕ → Option (List V × List ℕ)) → Option (V × List ℕ) → Option (List V × List ℕ)
joined go o = option_and_then (λ x. starting x.0 (go x.1)) o

-- an item before the others moves none of the bytes behind
still : {V : Type 0} (v : V) (o : Option (List V × List ℕ)) → behind o ≡ behind (starting v o)
still v None = refl
still v (Some x) = refl

-- where a list is read its items are the first ones
begun : {V : Type 0} (go : List ℕ → Option (List V × List ℕ)) (others : List ℕ → List V) (more : List ℕ) (o : Option (V × List ℕ))
    → ((b : List ℕ) → behind (go b) ≡ Some more → go b ≡ Some (others b, more)) → behind (joined go o) ≡ Some more → joined go o ≡ Some (begun_by others o, more)
begun go others more None h e = cc
begun {V} go others more (Some x) h e = let all : go x.1 ≡ Some (others x.1, more) = h x.1 (still x.0 (go x.1) ∙ e) in ap (λ (o : Option (List V × List ℕ)). starting x.0 o) all

first : {V : Type 0} (encoded : List ℕ → Option (V × List ℕ)) (n : ℕ) (bytes more : List ℕ) → behind (many_at encoded n bytes) ≡ Some more → many_at encoded n bytes ≡ Some (first_items encoded n bytes, more)
first encoded zero bytes more e = let same : bytes ≡ more = cc in ap (λ (m : List ℕ). Some ([], m)) same
first encoded (suc n) bytes more e = begun (λ b. many_at encoded n b) (λ b. first_items encoded n b) more (encoded bytes) (λ b h. first encoded n b more h) e

-- a list is its count and its items
pub list_of_items : {V : Type 0} (encoded : List ℕ → Option (V × List ℕ)) (bytes : List ℕ) (n : ℕ) (items more : List ℕ)
    → u32_at bytes ≡ Some (n, items) → behind (many_at encoded n items) ≡ Some more → list_at encoded bytes ≡ Some (first_items encoded n items, more)
list_of_items encoded bytes n items more e h = rw e (first encoded n items more h)

pub ruleset list_laws = (list_of_items)

-- one item read
pub one_less : {V : Type 0} (encoded : List ℕ → Option (V × List ℕ)) (left : ℕ) (bytes after : List ℕ) (v : V)
    → 0 < left → encoded bytes ≡ Some (v, after) → behind (many_at encoded (left - 1) after) ≡ behind (many_at encoded left bytes)
one_less encoded zero bytes after v h e = absurd (omega arith)
one_less encoded (suc n) bytes after v h e =
    let back : suc n - 1 ≡ n = omega arith in
    rw (back, e) (still v (many_at encoded n after))

-- the first item is given, and the others are left
pub first_given : {V : Type 0} (encoded : List ℕ → Option (V × List ℕ)) (count : ℕ) (bytes after : List ℕ) (v : V)
    → 0 < count → encoded bytes ≡ Some (v, after) → GivesFront (first_items encoded count bytes) (Some v) (first_items encoded (count - 1) after)
first_given encoded zero bytes after v h e = absurd (omega arith)
first_given encoded (suc n) bytes after v h e = let back : suc n - 1 ≡ n = omega arith in rw (back, e) (refl, refl)

-- nothing is given where none is encoded
pub none_given : {V : Type 0} (encoded : List ℕ → Option (V × List ℕ)) (count : ℕ) (bytes : List ℕ)
    → encoded bytes ≡ None → GivesFront (first_items encoded count bytes) None []
none_given encoded zero bytes e = (refl, refl)
none_given encoded (suc n) bytes e = rw e (refl, refl)

pub ruleset next_laws = (first_given, none_given)
