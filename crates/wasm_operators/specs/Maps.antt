-- Each reference in the types of an instruction renamed.
use Rattle.std.specs.Prelude.{ℕ, List, map}
use Rattle.wasm_operators_proposals.specs.WasmOperatorsPlain.WasmSpec.Syntax.{Ref, map_heap, map_ref, map_val}
use Rattle.wasm_operators.specs.Control.{Block, empty_block, value_block, func_block, Control, unreachable, nop, else_, end_, throw_ref, return_, block, loop, if_, try_table, throw, br, br_if, br_table, Parametric, drop_, select, select_of}
use Rattle.wasm_operators.specs.Legacy.{Legacy, try_, catch_, rethrow, delegate, catch_all}
use Rattle.wasm_operators.specs.References.{Reference, ref_null, ref_is_null, ref_eq, ref_as_non_null, ref_func, br_on_null, br_on_non_null, Cast, ref_test, ref_cast, br_on_cast, br_on_cast_fail, ref_get_desc, ref_cast_desc_eq, br_on_cast_desc_eq, br_on_cast_desc_eq_fail}
use Rattle.wasm_operators.specs.Instructions.{Instruction, control, legacy, call, parametric, variable, table, access, memory, constant, numeric, saturating, reference, cast, conversion, structure, array, vector, atomic, wide, shared, continuation}
use Rattle.wasm_operators.specs.declared.control.Catch.{Catch}

module _ {R S : Type 0} (f : R → S) where
  abbrev pub map_block : Block R → Block S
  map_block empty_block = empty_block
  map_block (value_block v) = value_block (map_val f v)
  map_block (func_block x) = func_block x

  abbrev pub map_try_table : Block R × List Catch → Block S × List Catch
  map_try_table t = (map_block t.0, t.1)

  abbrev pub map_control : Control R → Control S
  map_control unreachable = unreachable
  map_control nop = nop
  map_control else_ = else_
  map_control end_ = end_
  map_control throw_ref = throw_ref
  map_control return_ = return_
  map_control (block b) = block (map_block b)
  map_control (loop b) = loop (map_block b)
  map_control (if_ b) = if_ (map_block b)
  map_control (try_table b cs) = try_table (map_block b) cs
  map_control (throw x) = throw x
  map_control (br l) = br l
  map_control (br_if l) = br_if l
  map_control (br_table ls l) = br_table ls l

  abbrev pub map_legacy : Legacy R → Legacy S
  map_legacy (try_ b) = try_ (map_block b)
  map_legacy (catch_ x) = catch_ x
  map_legacy (rethrow l) = rethrow l
  map_legacy (delegate l) = delegate l
  map_legacy catch_all = catch_all

  abbrev pub map_parametric : Parametric R → Parametric S
  map_parametric drop_ = drop_
  map_parametric select = select
  map_parametric (select_of ts) = select_of (map (map_val f) ts)

  abbrev pub map_reference : Reference R → Reference S
  map_reference (ref_null h) = ref_null (map_heap f h)
  map_reference ref_is_null = ref_is_null
  map_reference ref_eq = ref_eq
  map_reference ref_as_non_null = ref_as_non_null
  map_reference (ref_func x) = ref_func x
  map_reference (br_on_null l) = br_on_null l
  map_reference (br_on_non_null l) = br_on_non_null l

  abbrev pub map_branch : ℕ × Ref R × Ref R → ℕ × Ref S × Ref S
  map_branch x = (x.0, map_ref f x.1, map_ref f x.2)

  abbrev pub map_cast : Cast R → Cast S
  map_cast (ref_test t) = ref_test (map_ref f t)
  map_cast (ref_cast t) = ref_cast (map_ref f t)
  map_cast (br_on_cast l a b) = br_on_cast l (map_ref f a) (map_ref f b)
  map_cast (br_on_cast_fail l a b) = br_on_cast_fail l (map_ref f a) (map_ref f b)
  map_cast (ref_get_desc x) = ref_get_desc x
  map_cast (ref_cast_desc_eq t) = ref_cast_desc_eq (map_ref f t)
  map_cast (br_on_cast_desc_eq l a b) = br_on_cast_desc_eq l (map_ref f a) (map_ref f b)
  map_cast (br_on_cast_desc_eq_fail l a b) = br_on_cast_desc_eq_fail l (map_ref f a) (map_ref f b)

  abbrev pub map_instruction : Instruction R → Instruction S
  map_instruction (control op) = control (map_control op)
  map_instruction (legacy op) = legacy (map_legacy op)
  map_instruction (call op) = call op
  map_instruction (parametric op) = parametric (map_parametric op)
  map_instruction (variable op) = variable op
  map_instruction (table op) = table op
  map_instruction (access op m) = access op m
  map_instruction (memory op) = memory op
  map_instruction (constant op) = constant op
  map_instruction (numeric op) = numeric op
  map_instruction (saturating op) = saturating op
  map_instruction (reference op) = reference (map_reference op)
  map_instruction (cast op) = cast (map_cast op)
  map_instruction (conversion op) = conversion op
  map_instruction (structure op) = structure op
  map_instruction (array op) = array op
  map_instruction (vector op i) = vector op i
  map_instruction (atomic op i) = atomic op i
  map_instruction (wide op) = wide op
  map_instruction (shared op i) = shared op i
  map_instruction (continuation op) = continuation op
