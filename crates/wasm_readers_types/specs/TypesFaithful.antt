-- A clone of a defined type is the type, whatever its allocator.
use Rattle.std.specs.Prelude.{◌≡◌, List, Option}
use Rattle.std.specs.List.{AllZip}
use Rattle.std.proofs.lemmas.List.Elements.{same_from_all_zip}
use Rattle.wasm_readers_values.specs.declared.indices.PackedIndex.{PackedIndex}
use Rattle.wasm_readers_types.specs.declared.types.FuncType.{FuncType}
use Rattle.wasm_readers_types.specs.declared.types.StructType.{StructType}
use Rattle.wasm_readers_types.specs.declared.types.CompositeType.{CompositeType}
use Rattle.wasm_readers_types.specs.declared.types.SubType.{SubType}
use Rattle.wasm_readers_types.specs.declared.types.RecGroup.{RecGroup}

-- the items of one list are those of the other
abbrev pub SameItems : {T : Type 0} → List T → List T → Type 0
SameItems {T} xs ys = AllZip (λ (x y : T). y ≡ x) xs ys

same-list : {T : Type 0} (xs ys : List T) → SameItems xs ys → ys ≡ xs
same-list xs ys h = same_from_all_zip _ xs ys h (λ x y e. e)

pub func-faithful : {A : Type 0} (x y : FuncType A) → SameItems x.params y.params × SameItems x.results y.results → y ≡ x
func-faithful x y h =
    let params : y.params ≡ x.params = same-list x.params y.params h.0 in
    let results : y.results ≡ x.results = same-list x.results y.results h.1 in
    λ i. record { params = params i; results = results i }

pub struct-faithful : {A : Type 0} (x y : StructType A) → SameItems x.fields y.fields → y ≡ x
struct-faithful x y h =
    let fields : y.fields ≡ x.fields = same-list x.fields y.fields h in
    λ i. record { fields = fields i }

-- below, C says what a clone of an optional index is
module _ (C : Option PackedIndex → Option PackedIndex → Type 0) (same : (x y : Option PackedIndex) → C x y → y ≡ x) {A : Type 0} where
  -- what a clone of a composite type is
  abbrev pub CompositeClone : CompositeType A → CompositeType A → Type 0
  CompositeClone x y = (y.inner ≡ x.inner) × ((y.shared ≡ x.shared) × (C x.descriptor_idx y.descriptor_idx × C x.describes_idx y.describes_idx))

  abbrev pub SubClone : SubType A → SubType A → Type 0
  SubClone x y = (y.is_final ≡ x.is_final) × (SameItems x.supertype_idxs y.supertype_idxs × CompositeClone x.composite_type y.composite_type)

  abbrev pub GroupClone : RecGroup A → RecGroup A → Type 0
  GroupClone x y = (y.is_explicit ≡ x.is_explicit) × AllZip SubClone x.types y.types

  pub composite-faithful : (x y : CompositeType A) → CompositeClone x y → y ≡ x
  composite-faithful x y h =
      let descriptor : y.descriptor_idx ≡ x.descriptor_idx = same _ _ h.1.1.0 in
      let describes : y.describes_idx ≡ x.describes_idx = same _ _ h.1.1.1 in
      λ i. record { inner = h.0 i; shared = h.1.0 i; descriptor_idx = descriptor i; describes_idx = describes i }

  pub sub-faithful : (x y : SubType A) → SubClone x y → y ≡ x
  sub-faithful x y h =
      let supers : y.supertype_idxs ≡ x.supertype_idxs = same-list x.supertype_idxs y.supertype_idxs h.1.0 in
      let composite : y.composite_type ≡ x.composite_type = composite-faithful x.composite_type y.composite_type h.1.1 in
      λ i. record { is_final = h.0 i; supertype_idxs = supers i; composite_type = composite i }

  pub group-faithful : (x y : RecGroup A) → GroupClone x y → y ≡ x
  group-faithful x y h =
      let types : y.types ≡ x.types = same_from_all_zip SubClone x.types y.types h.1 sub-faithful in
      λ i. record { is_explicit = h.0 i; types = types i }
