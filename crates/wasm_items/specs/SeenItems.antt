-- What contracts see of the items that hold expressions: without where they lie.
use Rattle.std.specs.Prelude.{ℕ, List, Option, Some, None}
use Rattle.wasm_readers.specs.WasmSpec.BinarySections as binary
use Rattle.wasm_readers.specs.WasmSpec.Values.{u32_at}
use Rattle.wasm_readers.specs.WasmReadersTypes.SeenExterns.{table_of, global_of}
use Rattle.wasm_readers.specs.WasmReadersTypes.WasmReadersValues.SeenValues.{ref_of}
use Rattle.wasm_readers.specs.WasmReadersTypes.WasmReadersValues.declared.indices.UnpackedIndex.{UnpackedIndex}
use Rattle.wasm_readers.specs.WrittenIndices.{written}
use Rattle.wasm_operators.specs.Expressions.{expression_at}
use Rattle.wasm_operators.specs.SeenLists.{listed}
use Rattle.wasm_items.specs.SeenReaders.{expression_of}
use Rattle.wasm_items.specs.declared.globals.Global.{Global}
use Rattle.wasm_items.specs.declared.tables.Table.{Table}
use Rattle.wasm_items.specs.declared.tables.TableInit.{TableInit}
use Rattle.wasm_items.specs.declared.tables.TableInit.TheVariants as init
use Rattle.wasm_items.specs.declared.data.Data.{Data}
use Rattle.wasm_items.specs.declared.data.DataKind.{DataKind}
use Rattle.wasm_items.specs.declared.data.DataKind.TheVariants as goes
use Rattle.wasm_items.specs.declared.data.WrittenMode.{WrittenMode}
use Rattle.wasm_items.specs.declared.data.WrittenMode.TheVariants as mode
use Rattle.wasm_items.specs.declared.elements.Element.{Element}
use Rattle.wasm_items.specs.declared.elements.ElementItems.{ElementItems}
use Rattle.wasm_items.specs.declared.elements.ElementItems.TheVariants as items
use Rattle.wasm_items.specs.declared.elements.ElementKind.{ElementKind}
use Rattle.wasm_items.specs.declared.elements.ElementKind.TheVariants as kind

abbrev pub global_entry_of : Global → binary.GlobalEntry (List ℕ) UnpackedIndex
global_entry_of g = record { ty = global_of g.ty; init = expression_of g.init_expr }

abbrev pub init_of : TableInit → Option (List ℕ)
init_of init.RefNull = None
init_of (init.Expr e) = Some (expression_of e)

abbrev pub table_entry_of : Table → binary.TableEntry (List ℕ) UnpackedIndex
table_entry_of t = record { ty = table_of t.ty; init = init_of t.init }

abbrev pub written_mode_of : WrittenMode → binary.SegmentMode (List ℕ)
written_mode_of mode.Passive = binary.passive
written_mode_of (mode.Active x e) = binary.active x (expression_of e)

abbrev pub data_mode_of : DataKind → binary.SegmentMode (List ℕ)
data_mode_of goes.Passive = binary.passive
data_mode_of (goes.Active x e) = binary.active (Some x) (expression_of e)

abbrev pub data_of : Data → binary.Data (List ℕ)
data_of d = record { mode = data_mode_of d.kind; bytes = d.bytes.now }

abbrev pub mode_of : ElementKind → binary.SegmentMode (List ℕ)
mode_of kind.Passive = binary.passive
mode_of (kind.Active x e) = binary.active x (expression_of e)
mode_of kind.Declared = binary.declarative

abbrev pub items_of : ElementItems → binary.ElementItems (List ℕ) UnpackedIndex
items_of (items.Functions l) = binary.functions (listed u32_at l)
items_of (items.Expressions ty l) = binary.expressions (ref_of ty) (listed (expression_at written) l)

abbrev pub element_parts_of : ElementKind → ElementItems → binary.Element (List ℕ) UnpackedIndex
element_parts_of k i = record { mode = mode_of k; items = items_of i }

abbrev pub element_of : Element → binary.Element (List ℕ) UnpackedIndex
element_of e = element_parts_of e.kind e.items
