-- How many operands atomic accesses to globals, tables, structures and arrays take and give.
use Rattle.std.specs.Prelude.{ℕ, ◌+◌}
use Rattle.wasm_operators.specs.WasmOperatorsAtomic.declared.shared_forms.SharedForm.{SharedForm}
use Rattle.wasm_operators.specs.WasmOperatorsAtomic.declared.shared_forms.SharedForm.TheVariants as form
use Rattle.wasm_operators.specs.WasmOperatorsAtomic.declared.shared_forms.Access.{Access}
use Rattle.wasm_operators.specs.WasmOperatorsAtomic.declared.shared_forms.Access.TheVariants as access

abbrev pub counts_above : ℕ → Access → ℕ × ℕ
counts_above place access.Get = (place, 1)
counts_above place access.Set = (place + 1, 0)
counts_above place access.Compute = (place + 1, 1)
counts_above place access.Exchange = (place + 1, 1)
counts_above place access.Compare = (place + 2, 1)

abbrev pub counts_of_access : SharedForm → ℕ × ℕ
counts_of_access form.Pause = (0, 0)
counts_of_access (form.Global a) = counts_above 0 a
counts_of_access (form.Table a) = counts_above 1 a
counts_of_access (form.Field a) = counts_above 1 a
counts_of_access form.PackedField = (1, 1)
counts_of_access (form.Element a) = counts_above 2 a
counts_of_access form.PackedElement = (2, 1)
