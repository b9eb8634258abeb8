use Rattle.std.specs.Prelude.{◌≡◌}
use Rattle.std.specs.Bool.{Decides}
use Rattle.std.proofs.Common.{ap, subst, ◌<◌}
use Rattle.std.specs.Coded.{le_prop}
use Rattle.std.specs.Prelude.{ℕ}
use Rattle.std.proofs.Common.{rules}
use denote.Enum.Bare.{same_true, true_same}
use Rattle.wasm_readers_values.specs.Indices.{number_of, number_in, indexed, AreBytes}
use Rattle.wasm_readers_values.specs.contracts.indices.IndexForm as form
use Rattle.wasm_readers_values.specs.contracts.indices.IndexFormPartialEq.TheImpl as form_eq
use Rattle.wasm_readers_values.specs.declared.indices.IndexForm.{IndexForm}
use Rattle.wasm_readers_values.specs.declared.indices.TheConstants.{MAX_IDS}
use Rattle.std.proofs.lemmas.Bool.Decides.{Decides-eqb}
use Rattle.wasm_readers_values.specs.Exactness.{exact-as, and-exact}
use Rattle.wasm_readers_values.specs.contracts.indices.CoreTypeIdPartialEq.TheImpl as id_eq
use Rattle.wasm_readers_values.specs.contracts.indices.PackedIndexPartialEq.TheImpl as packed_eq
use Rattle.wasm_readers_values.specs.declared.indices.CoreTypeId.{CoreTypeId}
use Rattle.wasm_readers_values.specs.declared.indices.PackedIndex.{PackedIndex}
use Rattle.wasm_readers_values.specs.contracts.indices.UnpackedIndexPartialEq.TheImpl.{ghosts}
use Rattle.wasm_readers_values.specs.declared.indices.UnpackedIndex.{UnpackedIndex}
use Rattle.wasm_readers_values.specs.declared.indices.UnpackedIndex.TheVariants.{Module, RecGroup, Id}

pub id-exact : (x y : CoreTypeId) → Decides (id_eq.ghosts.eq x y) (x ≡ y)
id-exact x y = exact-as (Decides-eqb x.index y.index) (λ e i. record { index = e i }) (ap (λ r. r.index))

-- the form and the bytes of a packed index
abbrev pub Bytes : Type 0
Bytes = IndexForm × (ℕ × (ℕ × (ℕ × ℕ)))

abbrev pub key_of : PackedIndex → Bytes
key_of p = (p.form, (p.highest, (p.high, (p.low, p.lowest))))

abbrev pub index_by : Bytes → UnpackedIndex
index_by k = indexed k.0 (number_in k.1.0 k.1.1.0 k.1.1.1.0 k.1.1.1.1)

pub unpacked-exact : (x y : UnpackedIndex) → Decides (ghosts.eq x y) (x ≡ y)
unpacked-exact (Module i) (Module j) = (λ e. ap Module ((Decides-eqb i j).0 e), λ e. (Decides-eqb i j).1 cc)
unpacked-exact (Module i) (RecGroup j) = (λ e. cc, λ e. cc)
unpacked-exact (Module i) (Id j) = (λ e. cc, λ e. cc)
unpacked-exact (RecGroup i) (Module j) = (λ e. cc, λ e. cc)
unpacked-exact (RecGroup i) (RecGroup j) = (λ e. ap RecGroup ((Decides-eqb i j).0 e), λ e. (Decides-eqb i j).1 cc)
unpacked-exact (RecGroup i) (Id j) = (λ e. cc, λ e. cc)
unpacked-exact (Id i) (Module j) = (λ e. cc, λ e. cc)
unpacked-exact (Id i) (RecGroup j) = (λ e. cc, λ e. cc)
unpacked-exact (Id i) (Id j) = (λ e. ap Id ((id-exact i j).0 e), λ e. (id-exact i j).1 cc)

form-exact : (x y : IndexForm) → Decides (form_eq.ghosts.eq x y) (x ≡ y)
form-exact x y = (same_true form.the_type (search rules) x y, true_same form.the_type x y)

-- a packed index, of its form and its bytes
abbrev pub packed_by : (k : Bytes) → AreBytes k.1.0 k.1.1.0 k.1.1.1.0 k.1.1.1.1 → number_of (index_by k) < MAX_IDS → PackedIndex
packed_by k b h = record { form = k.0; highest = k.1.0; high = k.1.1.0; low = k.1.1.1.0; lowest = k.1.1.1.1; bytes = b; fits = h }

bytes-same : {a b c d : ℕ} (x y : AreBytes a b c d) → x ≡ y
bytes-same x y = λ i. record { highest_fits = le_prop x.highest_fits y.highest_fits i; high_fits = le_prop x.high_fits y.high_fits i; low_fits = le_prop x.low_fits y.low_fits i; lowest_fits = le_prop x.lowest_fits y.lowest_fits i }

pub packed-same : (x y : PackedIndex) → key_of x ≡ key_of y → x ≡ y
packed-same x y e =
    let P : Bytes → Type 0 = λ k. (b : AreBytes k.1.0 k.1.1.0 k.1.1.1.0 k.1.1.1.1) (h : number_of (index_by k) < MAX_IDS) → x ≡ packed_by k b h in
    subst P e (λ b h i. packed_by (key_of x) (bytes-same x.bytes b i) (le_prop x.fits h i)) y.bytes y.fits

pub packed-exact : (x y : PackedIndex) → Decides (packed_eq.ghosts.eq x y) (x ≡ y)
packed-exact x y = exact-as
    (and-exact (form-exact x.form y.form) (and-exact (Decides-eqb x.highest y.highest) (and-exact (Decides-eqb x.high y.high) (and-exact (Decides-eqb x.low y.low) (Decides-eqb x.lowest y.lowest)))))
    (λ e. packed-same x y (λ i. (e.0 i, (e.1.0 i, (e.1.1.0 i, (e.1.1.1.0 i, e.1.1.1.1 i))))))
    (λ e. (ap (λ r. r.form) e, (ap (λ r. r.highest) e, (ap (λ r. r.high) e, (ap (λ r. r.low) e, ap (λ r. r.lowest) e)))))
