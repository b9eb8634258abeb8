-- Where in a module an offset is. Core Specification 3.0, Binary Format, Modules.
use Rattle.std.specs.Prelude.{ℕ, ◌<◌, ◌≤◌, ◌==◌, ◌-◌, List, length, min, take, drop, codes, if◌then◌else◌, ⊤}
use Rattle.wasm_check_reports.specs.declared.places.Place.{Place}
use Rattle.wasm_check_reports.specs.declared.places.Place.TheVariants.{Header, In, Between}

-- The offset is there: in the header, or in the contents of the section or at their end.
abbrev pub IsIn : ℕ → Place → Type 0
IsIn offset Header = offset < 8
IsIn offset (In section) = (section.start ≤ offset) × (offset ≤ section.end)
IsIn offset Between = ⊤

-- What the standard calls a section of this id. Core Specification 3.0, Binary Format, Modules, Sections.
abbrev pub section_name : ℕ → List ℕ
section_name id =
    if id == 0 then codes "custom"
    else if id == 1 then codes "type"
    else if id == 2 then codes "import"
    else if id == 3 then codes "function"
    else if id == 4 then codes "table"
    else if id == 5 then codes "memory"
    else if id == 6 then codes "global"
    else if id == 7 then codes "export"
    else if id == 8 then codes "start"
    else if id == 9 then codes "element"
    else if id == 10 then codes "code"
    else if id == 11 then codes "data"
    else if id == 12 then codes "data count"
    else if id == 13 then codes "tag"
    else codes "unknown"

-- up to eight bytes in front of an offset, or of their end where that comes first
abbrev pub before : ℕ → List ℕ → List ℕ
before offset bytes = let front = take (min offset (length bytes)) bytes in drop (length front - 8) front

-- up to eight bytes from there on
abbrev pub from : ℕ → List ℕ → List ℕ
from offset bytes = let back = drop (min offset (length bytes)) bytes in take (min (length back) 8) back
