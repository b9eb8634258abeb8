-- What contracts see of operators on references and of casts.
use Rattle.std.specs.Prelude.{true, false}
use Rattle.wasm_operators_proposals.specs.WasmOperatorsPlain.WasmReadersTypes.WasmReadersValues.SeenValues.{heap_of, ref_of}
use Rattle.wasm_operators_proposals.specs.WasmOperatorsPlain.WasmReadersTypes.WasmReadersValues.declared.indices.UnpackedIndex.{UnpackedIndex}
use Rattle.wasm_operators.specs.References as syntax
use Rattle.wasm_operators.specs.References.{Reference, Cast, reference_to}
use Rattle.wasm_operators.specs.declared.references.ReferenceOperator.{ReferenceOperator}
use Rattle.wasm_operators.specs.declared.references.ReferenceOperator.TheVariants as reference
use Rattle.wasm_operators.specs.declared.references.CastOperator.{CastOperator}
use Rattle.wasm_operators.specs.declared.references.CastOperator.TheVariants as cast

abbrev pub reference_of : ReferenceOperator → Reference UnpackedIndex
reference_of (reference.RefNull h) = syntax.ref_null (heap_of h)
reference_of reference.RefIsNull = syntax.ref_is_null
reference_of (reference.RefFunc x) = syntax.ref_func x
reference_of reference.RefEq = syntax.ref_eq
reference_of reference.RefAsNonNull = syntax.ref_as_non_null
reference_of (reference.BrOnNull l) = syntax.br_on_null l
reference_of (reference.BrOnNonNull l) = syntax.br_on_non_null l

abbrev pub cast_of : CastOperator → Cast UnpackedIndex
cast_of (cast.RefTestNonNull h) = syntax.ref_test (reference_to false (heap_of h))
cast_of (cast.RefTestNullable h) = syntax.ref_test (reference_to true (heap_of h))
cast_of (cast.RefCastNonNull h) = syntax.ref_cast (reference_to false (heap_of h))
cast_of (cast.RefCastNullable h) = syntax.ref_cast (reference_to true (heap_of h))
cast_of (cast.BrOnCast l a b) = syntax.br_on_cast l (ref_of a) (ref_of b)
cast_of (cast.BrOnCastFail l a b) = syntax.br_on_cast_fail l (ref_of a) (ref_of b)
cast_of (cast.RefGetDesc x) = syntax.ref_get_desc x
cast_of (cast.RefCastDescEqNonNull h) = syntax.ref_cast_desc_eq (reference_to false (heap_of h))
cast_of (cast.RefCastDescEqNullable h) = syntax.ref_cast_desc_eq (reference_to true (heap_of h))
cast_of (cast.BrOnCastDescEq l a b) = syntax.br_on_cast_desc_eq l (ref_of a) (ref_of b)
cast_of (cast.BrOnCastDescEqFail l a b) = syntax.br_on_cast_desc_eq_fail l (ref_of a) (ref_of b)
