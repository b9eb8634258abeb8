-- What is noted of a module beside its lists, while its sections are read.
use Rattle.std.specs.Prelude.{ℕ, Bool, List, [], Option, Some, None}
use Rattle.wasm_validator_items.specs.WasmValidatorReferences.References.{marked}
use Rattle.wasm_validator_sections.specs.declared.module_state.ModuleState.{ModuleState}

-- What is noted of a module while its sections are read, beside its lists: the number of data segments that it is to have, if that is
-- written, and which functions count as referenced, by a flag at the function's index.
pub record Noted : Type 0 where
  pub data_count : Option ℕ
  pub referenced : List Bool

abbrev pub nothing_noted : Noted
nothing_noted = record { data_count = None; referenced = [] }

-- some more functions count as referenced; and another data count is written
abbrev pub naming : List ℕ → Noted → Noted
naming xs n = record n { referenced = marked xs n.referenced }

abbrev pub counting : ℕ → Noted → Noted
counting count n = record n { data_count = Some count }

-- nothing more is noted
abbrev pub noting_nothing : Noted → Noted
noting_nothing n = n

-- of the module that is being read
abbrev pub noted_of : {A : Type 0} → ModuleState A → Noted
noted_of m = record { data_count = m.data_count; referenced = m.referenced }
