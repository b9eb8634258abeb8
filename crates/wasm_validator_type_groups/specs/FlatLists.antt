-- Groups kept in one flat list: of each group where it begins and ends, and of each member the number of its group.
use Rattle.std.specs.Prelude.{ℕ, ◌≡◌, ◌≤◌, ◌<◌, ◌+◌, List, map, length, slice_index, slice_index_or, slice_range}
use Rattle.std.specs.List.{All}
use Rattle.std.specs.declared.ops.Range.{Range}
use Rattle.wasm_readers_types.specs.WasmReadersValues.declared.indices.CoreTypeId.{CoreTypeId}
use Rattle.wasm_validator_type_groups.specs.declared.grouped_list.GroupedList.TheInside.{Inside}
use Rattle.wasm_validator_type_groups.specs.Groups.{all_in, first_of, IsInGroup}
use Rattle.wasm_validator_type_groups.specs.Spans.{span}

abbrev pub cut_out : {X : Type 0} → List X → Range CoreTypeId → List X
cut_out xs p = slice_range xs p.start.index p.end.index

abbrev pub cut : {X : Type 0} → List X → List (Range CoreTypeId) → List (List X)
cut xs ps = map (cut_out xs) ps

-- the range is in the list
abbrev pub IsWithin : {X : Type 0} → List X → Range CoreTypeId → Type 0
IsWithin xs p = (p.start.index ≤ p.end.index) × (p.end.index ≤ length xs)

-- the ranges are those of the groups, the groups are all there is, and each member has the number of its group
pub record AreParted {X : Type 0} (xs : List X) (ps : List (Range CoreTypeId)) (os : List ℕ) : Type 0 where
  pub within : All (IsWithin xs) ps
  pub all : all_in (cut xs ps) ≡ xs
  pub spans : (k : ℕ) (d : Range CoreTypeId) → k < length ps → slice_index_or ps k d ≡ span (first_of (cut xs ps) k) (first_of (cut xs ps) (k + 1))
  pub as_many : length os ≡ length xs
  pub owners : (place : ℕ) → place < length xs → IsInGroup (cut xs ps) (slice_index os place) place

module _ {T A : Type 0} where
  abbrev pub groups_of : Inside T A → List (List T)
  groups_of a = cut a.items a.spans

  abbrev pub IsParted : Inside T A → Type 0
  IsParted a = AreParted a.items a.spans a.owners
