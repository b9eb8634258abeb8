use Rattle.std.proofs.Common.{◌++◌, ap, ◌∙◌, vec_len, rules}
use Rattle.std.specs.Prelude.{replicate}
use Rattle.wasm_typing_stacks.specs.Locals.{local_of}
use Rattle.wasm_typing_stacks.proofs.LocalFronts.{defined, none_behind, on_ok}
use Rattle.wasm_typing_stacks.proofs.locals.Locals.define.Goals as goal

pub returns-clause-ok : goal.returns-clause-ok
returns-clause-ok g c =
    on_ok c.extend.result
    (λ e.
    defined c.self.inside.front.items c.resize.new.self.items c.self.inside.behind c.extend.new.self c.len-len.result (vec_len c.self.inside.front) c.front_after-wanted.result c.args.count c.args.local
    c.len-len.ensures (search rules) c.front_after-wanted.ensures.least c.front_after-wanted.ensures.most (λ h. c.front_after-wanted.ensures.alone (rw c.len.ensures h)) c.in_ok-resize.ensures.items e
    ∙ ap (λ h. h.content ++ replicate c.args.count (local_of c.args.local)) c.self.view_is)
    c.extend.ensures.ok

pub returns-then-left-eq0-clause-ok : goal.returns-then-left-eq0-clause-ok
returns-then-left-eq0-clause-ok g c =
    defined c.self.inside.front.items c.resize.new.self.items c.self.inside.behind c.self.inside.behind c.len-len.result (vec_len c.self.inside.front) c.front_after-wanted.result c.args.count c.args.local
    c.len-len.ensures (search rules) c.front_after-wanted.ensures.least c.front_after-wanted.ensures.most (λ h. c.front_after-wanted.ensures.alone (rw c.len.ensures h)) c.in_ok-resize.ensures.items (none_behind _ _ _ c.if-left-eq0.true)
    ∙ ap (λ h. h.content ++ replicate c.args.count (local_of c.args.local)) c.self.view_is
