use Rattle.std.specs.Prelude.{map}
use Rattle.std.proofs.Common.{ap}
use Rattle.wasm_readers_values.specs.Exactness.{exact-as}
use Rattle.wasm_readers_types.specs.SeenTypes.{sub_of}
use Rattle.wasm_readers_types.specs.SyntaxEquality.{subs_of-apart}
use Rattle.wasm_readers_types.specs.TypesExact.{group-exact}
use Rattle.wasm_readers_types.proofs.types.same_group.Goals as goal

pub returns-clause-same : goal.returns-clause-same
returns-clause-same g c = rw c.eq.ensures (group-exact c.args.group.now c.args.other.now)

pub returns-clause-seen : goal.returns-clause-seen
returns-clause-seen g c =
    rw c.eq.ensures (exact-as (group-exact c.args.group.now c.args.other.now) (ap (map sub_of)) (subs_of-apart c.args.group.now.types c.args.other.now.types))
