use Rattle.std.proofs.Common.{◌-◌, take}
use Rattle.wasm_spec_side_tables.proofs.EntryPlaces.{Resolves}
use Rattle.wasm_spec_side_tables.proofs.places.resolve_front.Given as goal

abbrev pub invariant-entries : goal.invariant-entries
invariant-entries l = Resolves l.places l.i (take l.count l.initial.entries) (take l.count l.entries)

abbrev pub decreases-entries : goal.decreases-entries
decreases-entries l = l.count - l.i
