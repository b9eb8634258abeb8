-- What defined types say, in the abstract syntax over unpacked indices, whatever their allocator A.
use Rattle.std.specs.Prelude.{Bool, true, [], map, option_map}
use Rattle.std.specs.declared.option.Option.TheVariants.{None}
use Rattle.wasm_readers_values.specs.WasmSpec.Syntax as syntax
use Rattle.wasm_readers_values.specs.WasmSpec.Syntax.{Comp, Sub, Rec}
use Rattle.wasm_readers_values.specs.SeenValues.{index_of, val_of, field_of}
use Rattle.wasm_readers_values.specs.declared.indices.UnpackedIndex.{UnpackedIndex}
use Rattle.wasm_readers_types.specs.declared.types.FuncType.{FuncType}
use Rattle.wasm_readers_types.specs.declared.types.ArrayType.{ArrayType}
use Rattle.wasm_readers_types.specs.declared.types.StructType.{StructType}
use Rattle.wasm_readers_types.specs.declared.types.ContType.{ContType}
use Rattle.wasm_readers_types.specs.declared.types.CompositeInnerType.{CompositeInnerType}
use Rattle.wasm_readers_types.specs.declared.types.CompositeInnerType.TheVariants.{Func, Array, Struct, Cont}
use Rattle.wasm_readers_types.specs.declared.types.SubType.{SubType}
use Rattle.wasm_readers_types.specs.declared.types.RecGroup.{RecGroup}

abbrev pub func_of : {A : Type 0} → FuncType A → Comp UnpackedIndex
func_of f = syntax.func (map val_of f.params) (map val_of f.results)

abbrev pub array_of : ArrayType → Comp UnpackedIndex
array_of a = syntax.array (field_of a.0)

abbrev pub struct_of : {A : Type 0} → StructType A → Comp UnpackedIndex
struct_of s = syntax.struct (map field_of s.fields)

abbrev pub cont_of : ContType → Comp UnpackedIndex
cont_of c = syntax.cont (index_of c.0)

abbrev pub comp_of : {A : Type 0} → CompositeInnerType A → Comp UnpackedIndex
comp_of (Func f) = func_of f
comp_of (Array a) = array_of a
comp_of (Struct s) = struct_of s
comp_of (Cont c) = cont_of c

abbrev pub sub_of : {A : Type 0} → SubType A → Sub UnpackedIndex
sub_of s = record {
  is_final = s.is_final;
  supers = map index_of s.supertype_idxs;
  shared = s.composite_type.shared;
  comp = comp_of s.composite_type.inner;
  descriptor = option_map index_of s.composite_type.descriptor_idx;
  describes = option_map index_of s.composite_type.describes_idx;
}

abbrev pub rec_of : {A : Type 0} → RecGroup A → Rec UnpackedIndex
rec_of g = record { is_explicit = g.is_explicit; types = map sub_of g.types }

-- it is a function type
abbrev pub IsFunc : {A : Type 0} → CompositeInnerType A → Type 0
IsFunc (Func f) = Unit {0}
IsFunc (Array a) = ⊥
IsFunc (Struct s) = ⊥
IsFunc (Cont c) = ⊥

-- it is an array type
abbrev pub IsArray : {A : Type 0} → CompositeInnerType A → Type 0
IsArray (Func f) = ⊥
IsArray (Array a) = Unit {0}
IsArray (Struct s) = ⊥
IsArray (Cont c) = ⊥

-- it is a structure type
abbrev pub IsStruct : {A : Type 0} → CompositeInnerType A → Type 0
IsStruct (Func f) = ⊥
IsStruct (Array a) = ⊥
IsStruct (Struct s) = Unit {0}
IsStruct (Cont c) = ⊥

-- the final sub type of a composite type that extends nothing and has no descriptor
abbrev pub final_func : Comp UnpackedIndex → Bool → Sub UnpackedIndex
final_func c shared = record {
  is_final = true;
  supers = [];
  shared = shared;
  comp = c;
  descriptor = None;
  describes = None;
}
