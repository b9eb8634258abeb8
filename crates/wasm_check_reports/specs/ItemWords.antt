-- What items of a module are called.
use Rattle.std.specs.Prelude.{ℕ, List, codes}
use Rattle.wasm_check_reports.specs.declared.items.Space.{Space}
use Rattle.wasm_check_reports.specs.declared.items.Space.TheVariants as of
use Rattle.wasm_check_reports.specs.declared.items.Kind.{Kind}
use Rattle.wasm_check_reports.specs.declared.items.Kind.TheVariants as is

-- what one of an index space is called
abbrev pub singular : Space → List ℕ
singular of.Types = codes "type"
singular of.Functions = codes "function"
singular of.Tables = codes "table"
singular of.Memories = codes "memory"
singular of.Globals = codes "global"
singular of.Tags = codes "tag"
singular of.Elements = codes "element"

-- what several are called
abbrev pub plural : Space → List ℕ
plural of.Types = codes "types"
plural of.Functions = codes "functions"
plural of.Tables = codes "tables"
plural of.Memories = codes "memories"
plural of.Globals = codes "globals"
plural of.Tags = codes "tags"
plural of.Elements = codes "elements"

-- what an item of this kind is called
abbrev pub word_of : Kind → List ℕ
word_of (is.Of space) = singular space
word_of (is.Import space index) = codes "import"
word_of is.Export = codes "export"
