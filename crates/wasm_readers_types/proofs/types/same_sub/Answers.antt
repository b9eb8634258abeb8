use Rattle.std.proofs.Common.{ap}
use Rattle.wasm_readers_values.specs.Exactness.{exact-as}
use Rattle.wasm_readers_types.specs.SeenTypes.{sub_of}
use Rattle.wasm_readers_types.specs.SyntaxEquality.{sub_of-apart}
use Rattle.wasm_readers_types.specs.TypesExact.{sub-exact}
use Rattle.wasm_readers_types.proofs.types.same_sub.Goals as goal

pub returns-clause-same : goal.returns-clause-same
returns-clause-same g c = rw c.eq.ensures (sub-exact c.args.a.now c.args.b.now)

pub returns-clause-seen : goal.returns-clause-seen
returns-clause-seen g c =
    rw c.eq.ensures (exact-as (sub-exact c.args.a.now c.args.b.now) (ap sub_of) (sub_of-apart c.args.a.now c.args.b.now))
