-- Types that say the same in the abstract syntax are the same: what each function of SeenTypes forgets is nothing.
use Rattle.std.specs.Prelude.{◌≡◌, List, map, refl}
use Rattle.std.specs.Prelude.{Option, option_map}
use Rattle.std.specs.declared.option.Option.TheVariants.{None, Some}
use Rattle.std.proofs.Common.{ap}
use Rattle.wasm_readers_values.specs.declared.indices.PackedIndex.{PackedIndex}
use Rattle.wasm_readers_values.specs.WasmSpec.Syntax as syntax
use Rattle.wasm_readers_values.specs.WasmSpec.Syntax.{Comp, Sub}
use Rattle.wasm_readers_values.specs.SeenValues.{index_of, val_of, field_of}
use Rattle.wasm_readers_types.specs.SeenTypes.{comp_of, sub_of}
use Rattle.wasm_readers_values.specs.declared.indices.UnpackedIndex.{UnpackedIndex}
use Rattle.wasm_readers_types.specs.declared.types.CompositeInnerType.{CompositeInnerType}
use Rattle.wasm_readers_types.specs.declared.types.CompositeInnerType.TheVariants.{Func, Array, Struct, Cont}
use Rattle.wasm_readers_types.specs.declared.types.SubType.{SubType}
use Rattle.wasm_readers_values.specs.ValuesApart.{apart, map-undone, index_back, index-undone, val_back, val-undone, field_back, field-undone}

abbrev comp_back : {A : Type 0} → Comp UnpackedIndex → CompositeInnerType A
comp_back (syntax.func ps rs) = Func (record { params = map val_back ps; results = map val_back rs })
comp_back (syntax.array x) = Array (record { 0 = field_back x })
comp_back (syntax.struct xs) = Struct (record { fields = map field_back xs })
comp_back (syntax.cont i) = Cont (record { 0 = index_back i })

comp-undone : {A : Type 0} (c : CompositeInnerType A) → comp_back (comp_of c) ≡ c
comp-undone (Func f) =
    λ i. Func (record { params = map-undone val_of val_back val-undone f.params i; results = map-undone val_of val_back val-undone f.results i })
comp-undone (Array a) = λ i. Array (record { 0 = field-undone a.0 i })
comp-undone (Struct s) = λ i. Struct (record { fields = map-undone field_of field_back field-undone s.fields i })
comp-undone (Cont c) = λ i. Cont (record { 0 = index-undone c.0 i })

option-undone : (o : Option PackedIndex) → option_map index_back (option_map index_of o) ≡ o
option-undone None = refl
option-undone (Some p) = ap Some (index-undone p)

abbrev sub_back : {A : Type 0} → Sub UnpackedIndex → SubType A
sub_back s = record {
  is_final = s.is_final;
  supertype_idxs = map index_back s.supers;
  composite_type = record { inner = comp_back s.comp; shared = s.shared; descriptor_idx = option_map index_back s.descriptor; describes_idx = option_map index_back s.describes };
}

sub-undone : {A : Type 0} (s : SubType A) → sub_back (sub_of s) ≡ s
sub-undone s = λ i. record {
  is_final = s.is_final;
  supertype_idxs = map-undone index_of index_back index-undone s.supertype_idxs i;
  composite_type = record {
    inner = comp-undone s.composite_type.inner i;
    shared = s.composite_type.shared;
    descriptor_idx = option-undone s.composite_type.descriptor_idx i;
    describes_idx = option-undone s.composite_type.describes_idx i;
  };
}

pub sub_of-apart : {A : Type 0} (x y : SubType A) → sub_of x ≡ sub_of y → x ≡ y
sub_of-apart = apart sub_of sub_back sub-undone

pub subs_of-apart : {A : Type 0} (xs ys : List (SubType A)) → map sub_of xs ≡ map sub_of ys → xs ≡ ys
subs_of-apart = apart (map sub_of) (map sub_back) (map-undone sub_of sub_back sub-undone)
