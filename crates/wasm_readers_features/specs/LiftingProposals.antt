-- Which proposal would lift the refusal of an operator, and which one an operator of constant expressions needs.
use Rattle.std.specs.Prelude.{Option, Some, None}
use Rattle.wasm_readers_features.specs.declared.features.WasmFeatures.{WasmFeatures}
use Rattle.wasm_readers_features.specs.declared.features.TheConstants.WasmFeatures.{FLOATS, SIMD, MULTI_VALUE, REFERENCE_TYPES, BULK_MEMORY, EXCEPTIONS, FUNCTION_REFERENCES, GC, SHARED_EVERYTHING_THREADS, CUSTOM_DESCRIPTORS, LEGACY_EXCEPTIONS, EXTENDED_CONST, THREADS, VECTOR_OPERATORS, ATOMIC_OPERATORS, GC_TYPES, STACK_SWITCHING}
use Rattle.wasm_readers_features.specs.declared.operator_rules.OperatorRule.{OperatorRule}
use Rattle.wasm_readers_features.specs.declared.operator_rules.OperatorRule.TheVariants as rule
use Rattle.wasm_readers_features.specs.declared.operator_rules.GatedConstant.{GatedConstant}
use Rattle.wasm_readers_features.specs.declared.operator_rules.GatedConstant.TheVariants as constant
use Rattle.wasm_readers_features.specs.declared.type_rules.ValueTypeRule.{ValueTypeRule}
use Rattle.wasm_readers_features.specs.declared.type_rules.ValueTypeRule.TheVariants as reference

-- The proposal that would lift the refusal of a reference type by this rule. Either of two proposals allows references to
-- types by index; this names one.
abbrev pub lifting_reference : ValueTypeRule → WasmFeatures
lifting_reference reference.ReferenceTypes = REFERENCE_TYPES
lifting_reference reference.IndexReferences = FUNCTION_REFERENCES
lifting_reference reference.ExactReferences = CUSTOM_DESCRIPTORS
lifting_reference reference.SharedReferences = SHARED_EVERYTHING_THREADS
lifting_reference reference.GcTypes = GC_TYPES
lifting_reference reference.NonNullable = FUNCTION_REFERENCES
lifting_reference reference.GcHeapTypes = GC
lifting_reference reference.ExceptionReferences = EXCEPTIONS
lifting_reference reference.ContinuationReferences = STACK_SWITCHING

-- the proposal that would lift a refusal by this rule
abbrev pub lifting : OperatorRule → Option WasmFeatures
lifting rule.Floats = Some FLOATS
lifting rule.Simd = Some SIMD
lifting rule.MultiValue = Some MULTI_VALUE
lifting rule.ReferenceTypes = Some REFERENCE_TYPES
lifting rule.BulkMemory = Some BULK_MEMORY
lifting rule.Exceptions = Some EXCEPTIONS
lifting rule.FunctionReferences = Some FUNCTION_REFERENCES
lifting rule.Gc = Some GC
lifting rule.SharedEverything = Some SHARED_EVERYTHING_THREADS
lifting rule.CustomDescriptors = Some CUSTOM_DESCRIPTORS
lifting rule.CastTypesOfHierarchy = Some CUSTOM_DESCRIPTORS
lifting (rule.ReferenceProposal r) = Some (lifting_reference r)
lifting rule.LocalGlobal = Some GC
lifting rule.VectorOperators = Some VECTOR_OPERATORS
lifting rule.AtomicOperators = Some ATOMIC_OPERATORS
lifting rule.Threads = Some THREADS
lifting rule.LegacyExceptions = Some LEGACY_EXCEPTIONS
lifting rule.StackSwitching = Some STACK_SWITCHING
lifting _ = None

-- The proposal that this operator of constant expressions needs.
-- Core Specification 3.0, Appendix, Change History, Release 3.0: extended constant expressions, and garbage collection.
abbrev pub needed_by : GatedConstant → WasmFeatures
needed_by constant.I32Add = EXTENDED_CONST
needed_by constant.I32Sub = EXTENDED_CONST
needed_by constant.I32Mul = EXTENDED_CONST
needed_by constant.I64Add = EXTENDED_CONST
needed_by constant.I64Sub = EXTENDED_CONST
needed_by constant.I64Mul = EXTENDED_CONST
needed_by constant.StructNew = GC
needed_by constant.StructNewDefault = GC
needed_by constant.StructNewDesc = GC
needed_by constant.StructNewDefaultDesc = GC
needed_by constant.ArrayNew = GC
needed_by constant.ArrayNewDefault = GC
needed_by constant.ArrayNewFixed = GC
needed_by constant.RefI31 = GC
needed_by constant.ExternConvertAny = GC
needed_by constant.AnyConvertExtern = GC
needed_by constant.RefI31Shared = SHARED_EVERYTHING_THREADS
