-- Lines with JSON objects.
use Rattle.std.specs.Prelude.{ℕ, ◌≡◌, List, [], ◌∷◌, ◌++◌, Some, codes}
use Rattle.serde_json.specs.Data.{Data, object, string, number, unsigned, member, no_members}
use Rattle.serde_json.specs.Find.{get}
use Rattle.serde_json.specs.Written.{IsInOrder}
use Rattle.wasm_check_reports.specs.declared.summary.Summary.{Summary}

-- The second text is the first with a line behind it, which has this object in JSON.
abbrev pub HasLine : Data → List ℕ → List ℕ → Type 0
HasLine d old new = (line : List ℕ) × IsInOrder line d × (new ≡ old ++ (line ++ 10 ∷ []))

-- So it is with a line and a text behind it.
abbrev pub BeginsWithLine : Data → List ℕ → List ℕ → Type 0
BeginsWithLine d old new = (line : List ℕ) × (rest : List ℕ) × IsInOrder line d × (new ≡ old ++ (line ++ 10 ∷ rest))

-- The object says of the file with this name that it has this verdict.
pub record IsVerdict (name word : List ℕ) (d : Data) : Type 0 where
  pub file : get (codes "file") d ≡ Some (string name)
  pub verdict : get (codes "verdict") d ≡ Some (string word)

-- the object that says how many files ended in which way
abbrev pub summary_data : Summary → Data
summary_data s = object (member (codes "summary") (object (
    member (codes "failed") (number (unsigned s.failed)) (
    member (codes "invalid") (number (unsigned s.invalid)) (
    member (codes "not_checked") (number (unsigned s.not_checked)) (
    member (codes "valid") (number (unsigned s.valid)) no_members))))) no_members)
