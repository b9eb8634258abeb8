use Rattle.std.proofs.Common.{ap}
use Rattle.wasm_readers_values.specs.Exactness.{exact-as}
use Rattle.wasm_readers_values.specs.SeenValues.{val_of}
use Rattle.wasm_readers_values.specs.ValuesApart.{val_of-apart}
use Rattle.wasm_readers_values.specs.ValuesExact.{val-exact}
use Rattle.wasm_readers_values.proofs.values.same_val.Goals as goal

pub returns-clause-seen : goal.returns-clause-seen
returns-clause-seen c =
    rw c.eq.ensures (exact-as (val-exact c.args.a.now c.args.b.now) (ap val_of) (val_of-apart c.args.a.now c.args.b.now))

pub returns-clause-same : goal.returns-clause-same
returns-clause-same c = rw c.eq.ensures (val-exact c.args.a.now c.args.b.now)
