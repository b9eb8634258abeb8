-- The identities of types that stand in what code is checked in, and in a state.
use Rattle.std.specs.Prelude.{◌≡◌, Bool, List, [], ◌∷◌, ◌++◌}
use Rattle.std.specs.List.{flat_map, Contains}
use Rattle.wasm_spec_rules.specs.WasmSpec.Syntax.{Ref, Sub, Table, Global}
use Rattle.wasm_spec_rules.specs.WasmSpec.References.{refs_heap, refs_val, refs_sub}
use Rattle.wasm_spec_rules.specs.Contexts.{Context}
use Rattle.wasm_operators.specs.Control.{Block, empty_block, value_block, func_block}
use Rattle.wasm_spec_steps.specs.Bodies.{Local, Surroundings}
use Rattle.wasm_spec_steps.specs.Machine.{Operand, bottom, bottom_reference, open_reference, known, Frame, State}

module _ {R : Type 0} where
  abbrev pub refs_ref : Ref R → List R
  refs_ref r = refs_heap r.heap

  abbrev pub refs_declared : R × Sub R → List R
  refs_declared d = d.0 ∷ refs_sub d.1

  abbrev pub refs_table : Table R → List R
  refs_table t = refs_ref t.element

  abbrev pub refs_global : Global R → List R
  refs_global g = refs_val g.content

  abbrev pub refs_context : Context R → List R
  refs_context C = C.types ++ (flat_map refs_declared C.declares ++ (flat_map refs_table C.tables ++ (flat_map refs_global C.globals ++ flat_map refs_ref C.elements)))

  abbrev pub refs_local : Local R → List R
  refs_local x = refs_val x.content

  abbrev pub refs_surroundings : Surroundings R → List R
  refs_surroundings B = refs_context B.context ++ flat_map refs_local B.locals

  abbrev pub refs_block : Block R → List R
  refs_block empty_block = []
  refs_block (value_block v) = refs_val v
  refs_block (func_block x) = []

  abbrev pub refs_operand : Operand R → List R
  refs_operand bottom = []
  refs_operand bottom_reference = []
  refs_operand (open_reference k) = []
  refs_operand (known v) = refs_val v

  abbrev pub refs_frame : Frame R → List R
  refs_frame x = refs_block x.block

  abbrev pub refs_state : State R → List R
  refs_state s = flat_map refs_operand s.operands ++ flat_map refs_frame s.frames

-- of these identities, renamed ones are the same exactly where they were
abbrev pub IsOneToOneOn : {R S : Type 0} → (R → R → Bool) → (S → S → Bool) → (R → S) → List R → Type 0
IsOneToOneOn {R} same renamed f ids = (a b : R) → Contains ids a → Contains ids b → renamed (f a) (f b) ≡ same a b
