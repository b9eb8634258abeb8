use Rattle.std.proofs.Common.{◌+◌, ◌<◌, ℕ, length, take, sym, subst, refl, arith}
use Rattle.std.specs.Prelude.{IfSome}
use Rattle.std.proofs.lemmas.Option.{slice_get_read}
use Rattle.wasm_validator_type_ancestors.specs.Supers.{extended, extended_in}
use Rattle.wasm_validator_type_ancestors.specs.Entries.{supers_of}
use Rattle.wasm_validator_type_ancestors.proofs.Store.{one-longer, kept-then}
use Rattle.wasm_validator_type_ancestors.proofs.AncestorExtensions.{stand-more, says-more, extended-more}
use Rattle.wasm_validator_type_ancestors.proofs.entries.entries_of.Goals as goal

pub entry_of-requires-clause-earlier : goal.entry_of-requires-clause-earlier
entry_of-requires-clause-earlier g c =
    let start = length c.args.entries.now in
    let ty = c.ty-item.result in
    subst (λ (k : ℕ). IfSome (extended start ty) (λ n. n < start + k)) (sym c.types.invariant.as_many)
    (c.requires.earlier c.types.ty-index ty (slice_get_read c.args.group.now (length c.args.group.now) c.types.ty-index ty refl c.types-test.true c.ty-item.is))

pub returns-in_err-entry-clause-kept : goal.returns-in_err-entry-clause-kept
returns-in_err-entry-clause-kept g c = kept-then c.args.ids.now c.types.ids c.entry_of.new.ids c.types.invariant.kept c.in_err-entry.ensures.kept

pub returns-in_err-push-clause-kept : goal.returns-in_err-push-clause-kept
returns-in_err-push-clause-kept g c = kept-then c.args.ids.now c.types.ids c.entry_of.new.ids c.types.invariant.kept c.in_ok-entry.ensures.kept

pub types-preserved : goal.types-preserved
types-preserved g c =
    let es = c.args.entries.now in
    let more = c.types.more.items in
    let all = c.push.new.self.items in
    let old = c.types.ids in
    let new = c.entry_of.new.ids in
    let entry = c.in_ok-entry.entry in
    let group = c.args.group.now in
    let i = c.types.ty-index in
    let start = length es in
    let o = extended start c.ty-item.result in
    let kept = c.in_ok-entry.ensures.kept in
    let next = c.in_ok-entry.ensures.next in
    let stand = c.types.invariant.stand in
    record {
      kept = kept-then c.args.ids.now old new c.types.invariant.kept kept;
      as_many = omega (arith, one-longer all more entry c.in_ok-push.ensures.items, c.types.invariant.as_many);
      stand = stand-more es more all old new o entry c.in_ok-push.ensures.items kept stand next;
      says = says-more es more all old new o entry c.in_ok-push.ensures.items kept stand next (supers_of c.args.ids.now es) (extended_in start (take i group)) (extended_in start (take (i + 1) group)) c.types.invariant.says
          (extended-more start group i c.ty-item.result c.types-test.true c.ty-item.is);
    }
