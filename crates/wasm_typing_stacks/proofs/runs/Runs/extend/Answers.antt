use Rattle.std.proofs.Common.{◌+◌, ◌++◌, refl, ◌∙◌, ap}
use Rattle.std.specs.Prelude.{replicate}
use Rattle.wasm_typing_stacks.specs.Locals.{local_of, spread}
use Rattle.wasm_typing_stacks.proofs.LocalRuns.{extended}
use Rattle.wasm_typing_stacks.proofs.runs.Runs.extend.Goals as goal

pub returns-clause-ok : goal.returns-clause-ok
returns-clause-ok g c =
    ap (spread 0) c.in_ok-push.ensures.items
    ∙ extended c.self.inside.runs.items (record { end = c.self.inside.count + c.args.count; local = c.args.local }) c.self.inside.count c.args.count c.self.invariant.1 refl
    ∙ ap (λ xs. xs ++ replicate c.args.count (local_of c.args.local)) c.self.view_is
