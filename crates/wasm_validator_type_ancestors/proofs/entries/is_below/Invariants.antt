use Rattle.std.proofs.Common.{◌≡◌, ℕ, ◌+◌, ◌-◌, ◌≤◌, slice_get, Option, Some}
use Rattle.wasm_validator_type_groups.specs.WasmSpec.Syntax.{Sub}
use Rattle.wasm_validator_type_groups.specs.WasmSpec.SupertypeOrder.{IsDepth}
use Rattle.wasm_validator_type_ancestors.specs.Supers.{Tells}
use Rattle.wasm_validator_type_ancestors.specs.Entries.{supers_of}
use Rattle.wasm_validator_type_ancestors.proofs.Chains.{IsWalk}
use Rattle.wasm_validator_type_ancestors.proofs.entries.is_below.Given as goal

abbrev pub invariant-links : goal.invariant-links
invariant-links g l = record {
  there : slice_get l.entries l.id ≡ Some l.entry;
  from : l.fn.count.links ≤ l.count.links;
  down : l.count.links - l.fn.count.links + l.id ≤ l.fn.from;
  walk : (D : ℕ → Option (Sub ℕ)) → Tells (supers_of l.ids l.entries) D → IsWalk D l.fn.from l.to (l.count.links - l.fn.count.links) l.id;
  deep : (D : ℕ → Option (Sub ℕ)) → Tells (supers_of l.ids l.entries) D → (n : ℕ) → IsDepth D l.fn.from n → n ≤ 63 → l.count.links ≡ l.fn.count.links;
}

abbrev pub decreases-links : goal.decreases-links
decreases-links g l = l.id
