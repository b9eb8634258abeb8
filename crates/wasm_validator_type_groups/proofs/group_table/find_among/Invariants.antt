use Rattle.std.proofs.Common.{◌≡◌, ◌<◌, ℕ, slice_get}
use Rattle.std.specs.declared.option.Option.TheVariants.{Some}
use Rattle.wasm_validator_type_groups.proofs.group_table.find_among.Given as goal

abbrev pub invariant-numbers : goal.invariant-numbers
invariant-numbers g l = (k : ℕ) → k < l.number → slice_get l.groups k ≡ Some l.group → ⊥
