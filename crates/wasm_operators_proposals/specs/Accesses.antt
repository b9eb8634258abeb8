-- Shared-Everything Threads, Binary Format, Instructions: what follows the number of an atomic access to a global, a table, a structure or
-- an array: an ordering and an index, and a second index where it is a structure's field that is reached.
use Rattle.std.specs.Prelude.{ℕ, ◌==◌, if◌then◌else◌, Bool, true, false, List, Option, Some, None}
use Rattle.std.specs.Option.{option_map, option_and_then}
use Rattle.wasm_operators_plain.specs.WasmSpec.Values.{u32_at}
use Rattle.wasm_operators_atomic.specs.declared.shared_forms.SharedForm.{SharedForm}
use Rattle.wasm_operators_atomic.specs.declared.shared_forms.SharedForm.TheVariants as form
use Rattle.wasm_operators_proposals.specs.declared.accesses.Ordering.{Ordering}
use Rattle.wasm_operators_proposals.specs.declared.accesses.Ordering.TheVariants.{SeqCst, AcqRel}
use Rattle.wasm_operators_proposals.specs.declared.accesses.AccessValues.{AccessValues}

-- the ordering of a number: all such accesses in one order, or each seen with what came before it
abbrev pub ordering_from : ℕ → Option Ordering
ordering_from n = if n == 0 then Some SeqCst else (if n == 1 then Some AcqRel else None)

unfoldable pub ordering_at : List ℕ → Option (Ordering × List ℕ)
ordering_at bytes = option_and_then (λ n. option_map (λ o. (o, n.1)) (ordering_from n.0)) (u32_at bytes)

abbrev pub reached : Ordering → ℕ → ℕ → AccessValues
reached o x i = record { ordering = o; index = x; field_index = i }

-- the second index
abbrev pub field_behind : Bool → Ordering → ℕ → List ℕ → Option (AccessValues × List ℕ)
field_behind true o x bytes = option_map (λ i. (reached o x i.0, i.1)) (u32_at bytes)
field_behind false o x bytes = Some (reached o x 0, bytes)

unfoldable pub place_of : Bool → List ℕ → Option (AccessValues × List ℕ)
place_of has_field bytes = option_and_then (λ o. option_and_then (λ x. field_behind has_field o.0 x.0 x.1) (u32_at o.1)) (ordering_at bytes)

-- by the operator's form
abbrev pub access_values_at : SharedForm → List ℕ → Option (AccessValues × List ℕ)
access_values_at form.Pause bytes = Some (reached SeqCst 0 0, bytes)
access_values_at (form.Global a) bytes = place_of false bytes
access_values_at (form.Table a) bytes = place_of false bytes
access_values_at (form.Field a) bytes = place_of true bytes
access_values_at form.PackedField bytes = place_of true bytes
access_values_at (form.Element a) bytes = place_of false bytes
access_values_at form.PackedElement bytes = place_of false bytes
