-- What contracts see of the branches of a `br_table`, as its labels stand in bytes.
use Rattle.std.specs.Prelude.{◌≡◌, ℕ, List, [], ◌∷◌, Option, Some}
use Rattle.wasm_spec.specs.Values.{u32_at, many_at}
use Rattle.wasm_spec_rules.specs.Contexts.{Context}
use Rattle.wasm_spec_rules.specs.Attempts.{◌>>=◌}
use Rattle.wasm_readers_types.specs.WasmReadersValues.declared.indices.UnpackedIndex.{UnpackedIndex}
use Rattle.wasm_operators.specs.Control.{br_table_at}
use Rattle.wasm_spec_steps.specs.Machine.{State}
use Rattle.wasm_spec_side_tables.specs.OnePassTables.{Built}
use Rattle.wasm_validator_side_notes.specs.OperatorNotes.{entry_to, with_entry}

module _ (C : Context UnpackedIndex) (s : State UnpackedIndex) (at n : ℕ) where
  -- the table with an entry of a branch to each of these labels
  abbrev pub with_each : List ℕ → Built → Option Built
  with_each [] T = Some T
  with_each (l ∷ ls) T = entry_to C s T at l n >>= λ e. with_each ls (with_entry T e)

  -- that of so many labels with these bytes behind
  pub record AreBranchedTo (many : ℕ) (bytes more : List ℕ) (T U : Built) : Type 0 where
    pub labels : List ℕ
    pub read : many_at u32_at many bytes ≡ Some (labels, more)
    pub added : with_each labels T ≡ Some U

  -- that of the labels of a `br_table`, and of its default, which is the last
  pub record IsBranchedByTable (bytes : List ℕ) (T U : Built) : Type 0 where
    pub labels : List ℕ
    pub default : ℕ
    pub behind : List ℕ
    pub before : Built
    pub read : br_table_at bytes ≡ Some ((labels, default), behind)
    pub added : with_each labels T ≡ Some before
    pub last : with_each (default ∷ []) before ≡ Some U
