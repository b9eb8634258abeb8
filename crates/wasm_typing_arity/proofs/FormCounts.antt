-- How many operands operators on vectors, and atomic ones, take and give.
use Rattle.std.proofs.Common.{◌≡◌, refl, ℕ, sym, ap, ◌∙◌, List, [], ◌∷◌, ◌++◌}
use Rattle.std.specs.Prelude.{Option, Some, None}
use Rattle.wasm_operators.specs.WasmOperatorsPlain.declared.memories.MemArg.{MemArg}
use Rattle.wasm_operators.specs.WasmOperatorsAtomic.WasmOperatorsVector.declared.forms.Form.{Form}
use Rattle.wasm_operators.specs.declared.immediates.ImmediateValues.{ImmediateValues}
use Rattle.wasm_operators.specs.WasmOperatorsAtomic.declared.shared_forms.SharedForm.{SharedForm}
use Rattle.wasm_operators.specs.WasmOperatorsAtomic.declared.shared_forms.SharedForm.TheVariants as form
use Rattle.wasm_operators.specs.WasmOperatorsAtomic.declared.shared_forms.Access.{Access}
use Rattle.wasm_operators.specs.WasmOperatorsAtomic.declared.shared_forms.Access.TheVariants as access
use Rattle.wasm_operators.specs.WasmOperatorsProposals.declared.accesses.AccessValues.{AccessValues}
use Rattle.wasm_spec_steps.specs.WasmSpecRules.WasmSpec.Syntax.{i32}
use Rattle.wasm_spec_steps.specs.Actions.{Check, OperandTypes, these, global, table_address, table_element, field, element}
use Rattle.wasm_spec_steps.specs.Forms.{memarg_of, addresses_in, counts_in}
use Rattle.wasm_spec_steps.specs.Shapes.{plain, nothing, one, nullable_to, address_of, form_shape, access_taken, access_given, shared_checks, sharing_shape}
use Rattle.wasm_typing_arity.specs.AccessCounts.{counts_above, counts_of_access}
use Rattle.wasm_typing_arity.specs.Arities.{how_many, arity}
use Rattle.wasm_typing_arity.specs.ArityQueries.{Asked}

address_counted : (M : Asked) (o : Option MemArg) → how_many M (address_of o) ≡ Some (addresses_in o)
address_counted M None = refl
address_counted M (Some m) = refl

pub form_counted : (M : Asked) (cs : List Check) (f : Form) (values : ImmediateValues) (r : ℕ × ℕ) → r ≡ counts_in f values → Some r ≡ arity M (form_shape cs f values)
form_counted M cs f values r e = rw (e, address_counted M (memarg_of values)) refl

-- atomic accesses to globals, tables, structures and arrays
access_counted : (M : Asked) (cs : List Check) (a : Access) (p v : OperandTypes) (n : ℕ) → how_many M p ≡ Some n → how_many M v ≡ Some 1
    → arity M (plain cs (access_taken a p v) (access_given a v)) ≡ Some (counts_above n a)
access_counted M cs access.Get p v n h k = rw (h, k) refl
access_counted M cs access.Set p v n h k = rw (h, k) refl
access_counted M cs access.Compute p v n h k = rw (h, k) refl
access_counted M cs access.Exchange p v n h k = rw (h, k) refl
access_counted M cs access.Compare p v n h k = rw (h, k) refl

counts_told : (M : Asked) (cs : List Check) (f : SharedForm) (v : AccessValues) → arity M (sharing_shape cs f v) ≡ Some (counts_of_access f)
counts_told M cs form.Pause v = refl
counts_told M cs (form.Global a) v = access_counted M (cs ++ shared_checks (form.Global a) v) a nothing (global v.index) 0 refl refl
counts_told M cs (form.Table a) v = access_counted M (cs ++ shared_checks (form.Table a) v) a (table_address v.index) (table_element v.index) 1 refl refl
counts_told M cs (form.Field a) v = access_counted M (cs ++ shared_checks (form.Field a) v) a (one (nullable_to v.index)) (field v.index v.field_index) 1 refl refl
counts_told M cs form.PackedField v = refl
counts_told M cs (form.Element a) v = access_counted M (cs ++ shared_checks (form.Element a) v) a (these (nullable_to v.index ∷ i32 ∷ [])) (element v.index) 2 refl refl
counts_told M cs form.PackedElement v = refl

pub shared_counted : (M : Asked) (cs : List Check) (f : SharedForm) (v : AccessValues) (r : ℕ × ℕ) → r ≡ counts_of_access f → Some r ≡ arity M (sharing_shape cs f v)
shared_counted M cs f v r e = ap (λ (x : ℕ × ℕ). Some x) e ∙ sym (counts_told M cs f v)

pub ruleset counted = (form_counted, shared_counted)
