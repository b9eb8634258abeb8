use Rattle.wasm_validator_items.proofs.EntryRenamings.{entries}
use Rattle.wasm_validator_items.proofs.entries_are_renamed.Goals as goal

-- src/lib.rt:17:1
pub returns : goal.returns
returns c = entries
