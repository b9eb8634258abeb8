-- Shared-Everything Threads, Validation, Instructions: what each atomic access reaches, and what it does there.
use Rattle.wasm_operators_atomic.specs.declared.shared.SharedAtomicOperator.{SharedAtomicOperator}
use Rattle.wasm_operators_atomic.specs.declared.shared.SharedAtomicOperator.TheVariants.{Pause, GlobalAtomicGet, GlobalAtomicSet, GlobalAtomicRmwAdd, GlobalAtomicRmwSub, GlobalAtomicRmwAnd, GlobalAtomicRmwOr, GlobalAtomicRmwXor, GlobalAtomicRmwXchg, GlobalAtomicRmwCmpxchg, TableAtomicGet, TableAtomicSet, TableAtomicRmwXchg, TableAtomicRmwCmpxchg, StructAtomicGet, StructAtomicGetS, StructAtomicGetU, StructAtomicSet, StructAtomicRmwAdd, StructAtomicRmwSub, StructAtomicRmwAnd, StructAtomicRmwOr, StructAtomicRmwXor, StructAtomicRmwXchg, StructAtomicRmwCmpxchg, ArrayAtomicGet, ArrayAtomicGetS, ArrayAtomicGetU, ArrayAtomicSet, ArrayAtomicRmwAdd, ArrayAtomicRmwSub, ArrayAtomicRmwAnd, ArrayAtomicRmwOr, ArrayAtomicRmwXor, ArrayAtomicRmwXchg, ArrayAtomicRmwCmpxchg}
use Rattle.wasm_operators_atomic.specs.declared.shared_forms.SharedForm.{SharedForm}
use Rattle.wasm_operators_atomic.specs.declared.shared_forms.SharedForm.TheVariants as form
use Rattle.wasm_operators_atomic.specs.declared.shared_forms.Access.TheVariants as access

-- the form of an operator
abbrev pub shared_form_of : SharedAtomicOperator → SharedForm
shared_form_of Pause = form.Pause
shared_form_of GlobalAtomicGet = form.Global access.Get
shared_form_of GlobalAtomicSet = form.Global access.Set
shared_form_of GlobalAtomicRmwAdd = form.Global access.Compute
shared_form_of GlobalAtomicRmwSub = form.Global access.Compute
shared_form_of GlobalAtomicRmwAnd = form.Global access.Compute
shared_form_of GlobalAtomicRmwOr = form.Global access.Compute
shared_form_of GlobalAtomicRmwXor = form.Global access.Compute
shared_form_of GlobalAtomicRmwXchg = form.Global access.Exchange
shared_form_of GlobalAtomicRmwCmpxchg = form.Global access.Compare
shared_form_of TableAtomicGet = form.Table access.Get
shared_form_of TableAtomicSet = form.Table access.Set
shared_form_of TableAtomicRmwXchg = form.Table access.Exchange
shared_form_of TableAtomicRmwCmpxchg = form.Table access.Compare
shared_form_of StructAtomicGet = form.Field access.Get
shared_form_of StructAtomicGetS = form.PackedField
shared_form_of StructAtomicGetU = form.PackedField
shared_form_of StructAtomicSet = form.Field access.Set
shared_form_of StructAtomicRmwAdd = form.Field access.Compute
shared_form_of StructAtomicRmwSub = form.Field access.Compute
shared_form_of StructAtomicRmwAnd = form.Field access.Compute
shared_form_of StructAtomicRmwOr = form.Field access.Compute
shared_form_of StructAtomicRmwXor = form.Field access.Compute
shared_form_of StructAtomicRmwXchg = form.Field access.Exchange
shared_form_of StructAtomicRmwCmpxchg = form.Field access.Compare
shared_form_of ArrayAtomicGet = form.Element access.Get
shared_form_of ArrayAtomicGetS = form.PackedElement
shared_form_of ArrayAtomicGetU = form.PackedElement
shared_form_of ArrayAtomicSet = form.Element access.Set
shared_form_of ArrayAtomicRmwAdd = form.Element access.Compute
shared_form_of ArrayAtomicRmwSub = form.Element access.Compute
shared_form_of ArrayAtomicRmwAnd = form.Element access.Compute
shared_form_of ArrayAtomicRmwOr = form.Element access.Compute
shared_form_of ArrayAtomicRmwXor = form.Element access.Compute
shared_form_of ArrayAtomicRmwXchg = form.Element access.Exchange
shared_form_of ArrayAtomicRmwCmpxchg = form.Element access.Compare
