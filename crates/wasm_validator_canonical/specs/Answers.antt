-- What the answer of a call says that adds the types of a group.
use Rattle.std.specs.Prelude.{ℕ, ◌≡◌, ◌++◌, Bool, true, false, List, Option, Some, ⊤}
use Rattle.std.specs.declared.result.Result.{Result}
use Rattle.std.specs.declared.result.Result.TheVariants.{Ok, Err}
use Rattle.wasm_spec.specs.Features.{Features}
use Rattle.wasm_spec.specs.Trees.{DefType}
use Rattle.wasm_readers_errors.specs.declared.error.Error.{Error}
use Rattle.wasm_readers_errors.specs.declared.error.Error.TheVariants.{Refused, OutOfMemory}
use Rattle.wasm_readers_errors.specs.declared.error.Refusal.{Refusal}
use Rattle.wasm_validator_type_list.specs.WasmValidatorTypeGroups.declared.elements.RecGroupElements.{RecGroupElements}
use Rattle.wasm_validator_type_list.specs.WasmValidatorTypeGroups.Elements.{ids_left}
use Rattle.wasm_validator_canonical.specs.Groups.{AreValid}

-- A refusal of the content says that nothing can be added so that the types of the list are valid, and one for want of
-- memory nothing.
abbrev pub AddsNothing : Features → Error → Option (List DefType × List ℕ) → Type 0
AddsNothing F (Refused r) next = (q : List DefType × List ℕ) → next ≡ Some q → AreValid F q.0 → ⊥
AddsNothing F OutOfMemory next = ⊤

-- The answered ids are those of the group's types, in the list that it was added to.
abbrev pub AddsIds : Features → Result RecGroupElements Error → Option (List DefType × List ℕ) → List DefType → List ℕ → Type 0
AddsIds F (Ok elements) next us ids = next ≡ Some (us, ids ++ ids_left elements)
AddsIds F (Err e) next us ids = AddsNothing F e next

-- The same where the answer is given by the ids that the module has afterwards.
abbrev pub AddsGroup : {T : Type 0} → Features → Result T Error → Option (List DefType × List ℕ) → List DefType → List ℕ → Type 0
AddsGroup F (Ok x) next us ids = next ≡ Some (us, ids)
AddsGroup F (Err e) next us ids = AddsNothing F e next

-- a refusal of the content says that the test fails, and one for want of memory nothing
abbrev pub Denies : Error → Bool → Type 0
Denies (Refused r) b = b ≡ false
Denies OutOfMemory b = ⊤

-- the content is accepted exactly where the test holds, unless memory is refused
abbrev pub Says : {T : Type 0} → Result T Error → Bool → Type 0
Says (Ok x) b = b ≡ true
Says (Err e) b = Denies e b

-- the call refuses the content with this
abbrev pub IsRefusal : {T : Type 0} → Result T Error → Refusal → Type 0
IsRefusal r refusal = r ≡ Err (Refused refusal)

-- a refusal of the content stands at this offset
abbrev pub IsAt : ℕ → Error → Type 0
IsAt offset (Refused r) = r.offset ≡ offset
IsAt offset OutOfMemory = ⊤
