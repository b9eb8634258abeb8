use Rattle.examples_own_module.proofs.Types.{first_ids, no_further_ids}
use Rattle.examples_own_module.proofs.own_module.OwnModule.type_id_at.Goals as goal

pub returns-then-type_index-self-clause-value : goal.returns-then-type_index-self-clause-value
returns-then-type_index-self-clause-value g c =
    first_ids c.args.self.now.parts.types.now c.args.type_index c.from_index.result c.from_index.ensures c.if-type_index-self.true

pub returns-else-type_index-self-clause-value : goal.returns-else-type_index-self-clause-value
returns-else-type_index-self-clause-value g c = no_further_ids c.args.self.now.parts.types.now c.args.type_index c.if-type_index-self.false
