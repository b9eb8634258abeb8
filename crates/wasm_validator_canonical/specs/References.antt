-- Where a reference leads that is written in a group of a module.
use Rattle.std.specs.Prelude.{ℕ, ◌≡◌, ◌+◌, ◌<◌, ◌↔◌, List, length, slice_get, nat_lt, Some, is_ok, IsOk, IfOk, IfErr}
use Rattle.std.specs.declared.result.Result.{Result}
use Rattle.std.specs.declared.result.Result.TheVariants.{Ok}
use Rattle.wasm_readers_errors.specs.declared.error.Refusal.{Refusal}
use Rattle.wasm_readers_types.specs.WasmReadersValues.declared.indices.CoreTypeId.{CoreTypeId}
use Rattle.wasm_readers_types.specs.WasmReadersValues.declared.indices.UnpackedIndex.{UnpackedIndex}
use Rattle.wasm_readers_types.specs.WasmReadersValues.declared.indices.UnpackedIndex.TheVariants.{Module, RecGroup, Id}
use Rattle.wasm_validator_type_list.specs.ListRefusals.{not_in_group}
use Rattle.wasm_validator_canonical.specs.Refusals.{unknown_type}

-- An id leads to itself, an index to the id of the module's type, and a position to that of the group, whose ids have the numbers from start to
-- below end; an index or a position that isn't there is told, at the offset.
abbrev pub LeadsTo : List ℕ → ℕ → ℕ → ℕ → UnpackedIndex → Result CoreTypeId Refusal → Type 0
LeadsTo ids start end offset (Module i) r = IfOk r (λ id. slice_get ids i ≡ Some id.index) × (is_ok r ≡ nat_lt i (length ids)) × IfErr r (λ e. e ≡ unknown_type i offset)
LeadsTo ids start end offset (RecGroup i) r = IfOk r (λ id. id.index ≡ start + i) × (IsOk r ↔ (start + i < end)) × IfErr r (λ e. e ≡ not_in_group i offset)
LeadsTo ids start end offset (Id id) r = r ≡ Ok id
