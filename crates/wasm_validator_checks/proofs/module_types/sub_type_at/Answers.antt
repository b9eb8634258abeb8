use Rattle.wasm_validator_checks.proofs.ListedTypes.{known_listed, sub_type_found, sub_type_shared, sub_type_arity}
use Rattle.wasm_validator_checks.proofs.module_types.sub_type_at.Goals as goal

pub index-requires : goal.index-requires
index-requires g c = known_listed c.args.types.now c.args.ids.now c.requires.known c.args.index (record { index = 0 }) c.requires.in_range

pub returns-clause-there : goal.returns-clause-there
returns-clause-there g c = sub_type_found c.args.types.now c.args.ids.now c.args.index (record { index = 0 }) c.index.result.now c.requires.known c.requires.in_range c.index.ensures

pub returns-clause-shared : goal.returns-clause-shared
returns-clause-shared g c =
    sub_type_shared c.args.types.now c.args.ids.now c.args.index c.index.result.now c.recall_promises.ensures.listable
    (sub_type_found c.args.types.now c.args.ids.now c.args.index (record { index = 0 }) c.index.result.now c.requires.known c.requires.in_range c.index.ensures)

pub returns-clause-arity : goal.returns-clause-arity
returns-clause-arity g c =
    sub_type_arity c.args.types.now c.args.ids.now c.args.index c.index.result.now c.recall_promises.ensures.listable
    (sub_type_found c.args.types.now c.args.ids.now c.args.index (record { index = 0 }) c.index.result.now c.requires.known c.requires.in_range c.index.ensures)
