use Rattle.wasm_validator_checks.proofs.ItemTests.{tables_are_decided, defined_tables_are_decided, memories_are_decided, tags_are_decided, globals_are_decided, externs_are_decided}
use Rattle.wasm_validator_checks.proofs.laws.items_are_decided.Goals as goal

pub returns-clause-tables : goal.returns-clause-tables
returns-clause-tables c = tables_are_decided

pub returns-clause-defined_tables : goal.returns-clause-defined_tables
returns-clause-defined_tables c = defined_tables_are_decided

pub returns-clause-memories : goal.returns-clause-memories
returns-clause-memories c = memories_are_decided

pub returns-clause-tags : goal.returns-clause-tags
returns-clause-tags c = tags_are_decided

pub returns-clause-globals : goal.returns-clause-globals
returns-clause-globals c = globals_are_decided

pub returns-clause-imports : goal.returns-clause-imports
returns-clause-imports c = externs_are_decided
