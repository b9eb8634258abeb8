-- Operators by how many indices they have.
use Rattle.std.proofs.Common.{◌≡◌, ◌∙◌, refl, sym, ap, ℕ, ◌==◌, Bool, true, false, if◌then◌else◌, List, Option, Some, None, Result, Ok, Err, OnErr}
use Rattle.std.specs.Option.{option_map, option_and_then}
use Rattle.wasm_readers.specs.WasmSpec.Values.{u32_at}
use Rattle.wasm_operators_plain.specs.Immediates.{alone, one_index, two_indices}
use Rattle.wasm_operators_plain.specs.Indices.{indices_at, with_indices, struct_indices, struct_with, array_indices, array_with}
use Rattle.wasm_operators_plain.specs.Structs.{struct_from}
use Rattle.wasm_operators_plain.specs.Arrays.{array_from}

-- what is read is an operator with as many indices as it has
pub record By {X : Type 0} (f : Option (X × List ℕ)) (m : Option ℕ) (op : ℕ → ℕ → X) (bytes : List ℕ) : Type 0 where
  pub is : f ≡ with_indices m op bytes

same_if : {X : Type 0} (b : Bool) {f g : Option (X × List ℕ)} {m n : Option ℕ} {p q : ℕ → ℕ → X} {bytes : List ℕ} →
    By f m p bytes → By g n q bytes → By (if b then f else g) (if b then m else n) (λ i j. if b then p i j else q i j) bytes
same_if true h r = h
same_if false h r = r

last_if : {X : Type 0} (b : Bool) {f : Option (X × List ℕ)} {m : Option ℕ} {p : ℕ → ℕ → X} {bytes : List ℕ} →
    By f m p bytes → By (if b then f else None) (if b then m else None) p bytes
last_if true h = h
last_if false h = record { is = refl }

one_in : {X : Type 0} (op : ℕ → X) (o : Option (ℕ × List ℕ)) →
    option_map {U = X × List ℕ} (λ (i : ℕ × List ℕ). (op i.0, i.1)) o
    ≡ option_map {U = X × List ℕ} (λ (x : (ℕ × ℕ) × List ℕ). (op x.0.0, x.1)) (option_map {U = (ℕ × ℕ) × List ℕ} (λ (i : ℕ × List ℕ). ((i.0, 0), i.1)) o)
one_in op None = refl
one_in op (Some i) = refl

none_by : {X : Type 0} (op : X) (bytes : List ℕ) → By (alone op bytes) (Some 0) (λ i j. op) bytes
unfolding indices_at
none_by op bytes = record { is = refl }

one_by : {X : Type 0} (op : ℕ → X) (bytes : List ℕ) → By (one_index op bytes) (Some 1) (λ i j. op i) bytes
unfolding indices_at
one_by op bytes = record { is = one_in op (u32_at bytes) }

second_in : {X : Type 0} (op : ℕ → ℕ → X) (i : ℕ) (o : Option (ℕ × List ℕ)) →
    option_map {U = X × List ℕ} (λ (j : ℕ × List ℕ). (op i j.0, j.1)) o
    ≡ option_map {U = X × List ℕ} (λ (x : (ℕ × ℕ) × List ℕ). (op x.0.0 x.0.1, x.1)) (option_map {U = (ℕ × ℕ) × List ℕ} (λ (j : ℕ × List ℕ). ((i, j.0), j.1)) o)
second_in op i None = refl
second_in op i (Some j) = refl

two_in : {X : Type 0} (op : ℕ → ℕ → X) (o : Option (ℕ × List ℕ)) →
    option_and_then {U = X × List ℕ} (λ (i : ℕ × List ℕ). option_map {U = X × List ℕ} (λ (j : ℕ × List ℕ). (op i.0 j.0, j.1)) (u32_at i.1)) o
    ≡ option_map {U = X × List ℕ} (λ (x : (ℕ × ℕ) × List ℕ). (op x.0.0 x.0.1, x.1)) (option_and_then {U = (ℕ × ℕ) × List ℕ} (λ (i : ℕ × List ℕ). option_map {U = (ℕ × ℕ) × List ℕ} (λ (j : ℕ × List ℕ). ((i.0, j.0), j.1)) (u32_at i.1)) o)
two_in op None = refl
two_in op (Some i) = second_in op i.0 (u32_at i.1)

two_by : {X : Type 0} (op : ℕ → ℕ → X) (bytes : List ℕ) → By (two_indices op bytes) (Some 2) op bytes
unfolding indices_at
two_by op bytes = record { is = two_in op (u32_at bytes) }

pub struct-by_indices : (n : ℕ) (bytes : List ℕ) → By (struct_from n bytes) (struct_indices n) (struct_with n) bytes
unfolding struct_from struct_indices struct_with
struct-by_indices n bytes =
    same_if (n == 0) (one_by _ bytes)
    (same_if (n == 1) (one_by _ bytes)
    (same_if (n == 2) (two_by _ bytes)
    (same_if (n == 3) (two_by _ bytes)
    (same_if (n == 4) (two_by _ bytes)
    (same_if (n == 5) (two_by _ bytes)
    (same_if (n == 32) (one_by _ bytes)
    (last_if (n == 33) (one_by _ bytes))))))))

pub array-by_indices : (n : ℕ) (bytes : List ℕ) → By (array_from n bytes) (array_indices n) (array_with n) bytes
unfolding array_from array_indices array_with
array-by_indices n bytes =
    same_if (n == 6) (one_by _ bytes)
    (same_if (n == 7) (one_by _ bytes)
    (same_if (n == 8) (two_by _ bytes)
    (same_if (n == 9) (two_by _ bytes)
    (same_if (n == 10) (two_by _ bytes)
    (same_if (n == 11) (one_by _ bytes)
    (same_if (n == 12) (one_by _ bytes)
    (same_if (n == 13) (one_by _ bytes)
    (same_if (n == 14) (one_by _ bytes)
    (same_if (n == 15) (none_by _ bytes)
    (same_if (n == 16) (one_by _ bytes)
    (same_if (n == 17) (two_by _ bytes)
    (same_if (n == 18) (two_by _ bytes)
    (last_if (n == 19) (two_by _ bytes))))))))))))))

-- what is read where the operator has so many indices and they stand in the bytes, where they don't, and where there is no operator
pub read_there : {X : Type 0} (f : Option (X × List ℕ)) (m : Option ℕ) (op : ℕ → ℕ → X) (bytes : List ℕ) (count i j : ℕ) (left : List ℕ) (r : X) →
    By f m op bytes → Some count ≡ m → indices_at count bytes ≡ Some ((i, j), left) → r ≡ op i j → f ≡ Some (r, left)
read_there {X = X} f m op bytes count i j left r h s o d =
    let behind : X → Option (X × List ℕ) = λ y. Some (y, left) in
    h.is ∙ (ap (λ (k : Option ℕ). with_indices k op bytes) (sym s)
    ∙ (ap (option_map {U = X × List ℕ} (λ (x : (ℕ × ℕ) × List ℕ). (op x.0.0 x.0.1, x.1))) o ∙ ap behind (sym d)))

pub read_short : {X T E : Type 0} (r : Result T E) (f : Option (X × List ℕ)) (m : Option ℕ) (op : ℕ → ℕ → X) (bytes : List ℕ) (count : ℕ) →
    By f m op bytes → Some count ≡ m → indices_at count bytes ≡ None → OnErr r (f ≡ None)
read_short (Ok y) f m op bytes count h s o = tt
read_short {X = X} (Err y) f m op bytes count h s o =
    h.is ∙ (ap (λ (k : Option ℕ). with_indices k op bytes) (sym s)
    ∙ ap (option_map {U = X × List ℕ} (λ (x : (ℕ × ℕ) × List ℕ). (op x.0.0 x.0.1, x.1))) o)

pub read_nothing : {X : Type 0} (f : Option (X × List ℕ)) (m : Option ℕ) (op : ℕ → ℕ → X) (bytes : List ℕ) → By f m op bytes → None ≡ m → f ≡ None
read_nothing f m op bytes h n = h.is ∙ ap (λ (k : Option ℕ). with_indices k op bytes) (sym n)
