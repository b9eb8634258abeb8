-- What stands under the ids of the module.
use Rattle.std.proofs.Common.{◌≡◌, ◌⊎◌, ⊎_elim, refl, sym, ap, ◌∙◌, ℕ, zero, suc, ◌+◌, ◌<◌, ◌≤◌, Bool, true, false, ◌==◌, if◌then◌else◌, List, [], ◌∷◌, length, map, Option, Some, None, option_map, slice_get, Bor, true≢false, ◌||◌, arith}
use Rattle.std.specs.Prelude.{nat_lt, is_some, IfSome, slice_index_or}
use Rattle.std.specs.List.{list_any}
use Rattle.std.proofs.lemmas.Bool.Decides.{Decides-eqb, Decides-ltb}
use Rattle.std.proofs.lemmas.Option.{slice_get-map, slice_get_read, slice_get_past}
use Rattle.wasm_spec.specs.Syntax.{Sub}
use Rattle.wasm_spec_rules.specs.Attempts.{among}
use Rattle.wasm_spec_rules.specs.Worlds.{declared_in}
use Rattle.wasm_readers_types.specs.SeenTypes.{sub_of}
use Rattle.wasm_readers_types.specs.WasmReadersValues.declared.indices.CoreTypeId.{CoreTypeId}
use Rattle.wasm_readers_types.specs.declared.types.SubType.{SubType}
use Rattle.wasm_readers_types.specs.WasmReadersValues.declared.indices.UnpackedIndex.{UnpackedIndex}
use Rattle.wasm_readers_types.specs.WasmReadersValues.declared.indices.UnpackedIndex.TheVariants.{Module, RecGroup, Id}
use Rattle.wasm_validator_resources.specs.Answers.{id_of, same_index}
use Rattle.examples_own_module.specs.OwnContexts.{under_ids, ids_of}

not_true : (b : Bool) → (b ≡ true → ⊥) → b ≡ false
not_true true h = absurd (h refl)
not_true false h = refl

same_number : (m n : ℕ) → m ≡ n → (m == n) ≡ true
same_number m n e = (Decides-eqb m n).1 e

other_number : (m n : ℕ) → (m ≡ n → ⊥) → (m == n) ≡ false
other_number m n h = not_true (m == n) (λ e. h ((Decides-eqb m n).0 e))

pub length-under : (n : ℕ) (ds : List (Sub UnpackedIndex)) → length (under_ids n ds) ≡ length ds
length-under n [] = refl
length-under n (d ∷ ds) = ap suc (length-under (suc n) ds)

-- the id at a place
pub id_there : (n k : ℕ) (m : ℕ) (ds : List (Sub UnpackedIndex)) → m ≡ n + k → k < length ds → slice_get (ids_of (under_ids n ds)) k ≡ Some (id_of m)
id_there n k m [] e l = absurd (omega (arith, l))
id_there n zero m (d ∷ ds) e l = ap (λ (i : ℕ). Some (id_of i)) (omega (arith, e))
id_there n (suc k) m (d ∷ ds) e l = id_there (suc n) k m ds (omega (arith, e)) (omega (arith, l))

pub no_id_there : (n k : ℕ) (ds : List (Sub UnpackedIndex)) → length ds ≤ k → slice_get (ids_of (under_ids n ds)) k ≡ None
no_id_there n k [] l = refl
no_id_there n zero (d ∷ ds) l = absurd (omega (arith, l))
no_id_there n (suc k) (d ∷ ds) l = no_id_there (suc n) k ds (omega (arith, l))

-- what an id declares
pub id_declares : (n k m : ℕ) (ds : List (Sub UnpackedIndex)) → m ≡ n + k → declared_in same_index (under_ids n ds) (id_of m) ≡ slice_get ds k
id_declares n k m [] e = refl
id_declares n zero m (d ∷ ds) e =
    ap (λ (c : Bool). if c then Some d else declared_in same_index (under_ids (suc n) ds) (id_of m)) (same_number n m (omega (arith, e)))
id_declares n (suc k) m (d ∷ ds) e =
    let other : (n == m) ≡ false = other_number n m (λ f. omega (arith, e, f)) in
    ap (λ (c : Bool). if c then Some d else declared_in same_index (under_ids (suc n) ds) (id_of m)) other ∙ id_declares (suc n) k m ds (omega (arith, e))

-- and what is no id declares nothing
abbrev pub IsNoId : UnpackedIndex → Type 0
IsNoId a = ((x : ℕ) × (a ≡ Module x)) ⊎ ((x : ℕ) × (a ≡ RecGroup x))

apart : (n : ℕ) (a : UnpackedIndex) → IsNoId a → same_index (id_of n) a ≡ false
apart n a h = ⊎_elim (λ (p : (x : ℕ) × (a ≡ Module x)). ap (same_index (id_of n)) p.1) (λ (p : (x : ℕ) × (a ≡ RecGroup x)). ap (same_index (id_of n)) p.1) h

none_declared : (n : ℕ) (a : UnpackedIndex) → IsNoId a → (ds : List (Sub UnpackedIndex)) → declared_in same_index (under_ids n ds) a ≡ None
none_declared n a h [] = refl
none_declared n a h (d ∷ ds) =
    ap (λ (c : Bool). if c then Some d else declared_in same_index (under_ids (suc n) ds) a) (apart n a h) ∙ none_declared (suc n) a h ds

pub no_id_declares : (a : UnpackedIndex) → IsNoId a → (ds : List (Sub UnpackedIndex)) → None ≡ declared_in same_index (under_ids 0 ds) a
no_id_declares a h ds = sym (none_declared 0 a h ds)

module _ {A : Type 0} where
  as_read : (r : Option (Bor (SubType A))) → option_map (λ t. sub_of t.now) r ≡ option_map sub_of (option_map (λ (t : Bor (SubType A)). t.now) r)
  as_read None = refl
  as_read (Some t) = refl

  read : (ts : List (SubType A)) (i : ℕ) (r : Option (Bor (SubType A))) → is_some r ≡ nat_lt i (length ts) → IfSome r (λ t. t.now ≡ slice_index_or ts i t.now) → option_map (λ (t : Bor (SubType A)). t.now) r ≡ slice_get ts i
  read ts i None e h =
      let d = Decides-ltb i (length ts) in
      let other : i < length ts → ⊥ = λ l. true≢false (sym (d.1 l) ∙ sym e) in
      sym (slice_get_past ts i (omega (arith, other)))
  read ts i (Some t) e h =
      let l : i < length ts = (Decides-ltb i (length ts)).0 (sym e) in
      sym (slice_get_read ts (length ts) i t.now refl l h)

  -- what is read at an id's place is what it declares
  pub type_read :
      (ts : List (SubType A)) (id : CoreTypeId) (i : ℕ) (r : Option (Bor (SubType A))) → i ≡ id.index → is_some r ≡ nat_lt i (length ts)
      → IfSome r (λ t. t.now ≡ slice_index_or ts i t.now)
      → option_map (λ t. sub_of t.now) r ≡ declared_in same_index (under_ids 0 (map sub_of ts)) (Id id)
  type_read ts id i r n some value =
      as_read r ∙ ap (option_map sub_of) (read ts i r some value) ∙ sym (slice_get-map sub_of ts i) ∙ ap (slice_get (map sub_of ts)) n
      ∙ sym (id_declares 0 id.index id.index (map sub_of ts) (omega arith))

length-subs : {A : Type 0} (ts : List (SubType A)) → length (map sub_of ts) ≡ length ts
length-subs [] = refl
length-subs (t ∷ ts) = ap suc (length-subs ts)

-- the ids of the types
pub first_ids : {A : Type 0} (ts : List (SubType A)) (i : ℕ) (id : CoreTypeId) → id.index ≡ i → i < length ts → Some (Id id) ≡ slice_get (ids_of (under_ids 0 (map sub_of ts))) i
first_ids ts i id e l =
    sym (id_there 0 i id.index (map sub_of ts) (omega (arith, e)) (omega (arith, l, length-subs ts)))

pub no_further_ids : {A : Type 0} (ts : List (SubType A)) (i : ℕ) → length ts ≤ i → None ≡ slice_get (ids_of (under_ids 0 (map sub_of ts))) i
no_further_ids ts i l = sym (no_id_there 0 i (map sub_of ts) (omega (arith, l, length-subs ts)))

-- how many types there are
pub length-declares : {A : Type 0} (ts : List (SubType A)) → length (under_ids 0 (map sub_of ts)) ≡ length ts
length-declares ts = length-under 0 (map sub_of ts) ∙ length-subs ts

same_turned : (m n : ℕ) → (m == n) ≡ (n == m)
same_turned m n = elim (n == m) as (λ t. (n == m) ≡ t → (m == n) ≡ t) [
  | true ↦ λ e. same_number m n (sym ((Decides-eqb n m).0 e))
  | false ↦ λ e. other_number m n (λ f. true≢false (sym (same_number n m (sym f)) ∙ e))
] refl

pub any_among : (n : ℕ) (ms : List ℕ) → list_any (λ m. m == n) ms ≡ among n ms
any_among n [] = refl
any_among n (m ∷ ms) = ap (λ (b : Bool). b || list_any (λ k. k == n) ms) (same_turned m n) ∙ ap (λ (b : Bool). (n == m) || b) (any_among n ms)
