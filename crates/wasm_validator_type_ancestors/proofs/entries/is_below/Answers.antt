use Rattle.std.proofs.Common.{◌≡◌, ◌+◌, ◌-◌, ◌<◌, length, true, refl, subst, arith}
use Rattle.std.proofs.lemmas.Option.{slice_get_read}
use Rattle.wasm_validator_type_ancestors.proofs.Growth.{linked-before, linked-within}
use Rattle.wasm_validator_type_ancestors.proofs.Chains.{IsWalk, walk-step, walk-decides, walk-counts, itself_is_found, counts-here}
use Rattle.wasm_validator_type_ancestors.proofs.Ancestors.{linked_by, many_by}
use Rattle.wasm_validator_type_ancestors.proofs.entries.is_below.Goals as goal

pub returns-then-id-to-clause-decides : goal.returns-then-id-to-clause-decides
returns-then-id-to-clause-decides g c = λ D t.
    walk-decides D c.args.from c.args.to (c.links.count.links - c.args.count.now.links) c.links.id true (c.links.invariant.walk D t) (itself_is_found D c.links.id c.args.to c.if-id-to.true)

pub returns-then-id-to-clause-counts : goal.returns-then-id-to-clause-counts
returns-then-id-to-clause-counts g c = λ D t.
    walk-counts D c.args.from c.args.to c.args.count.now.links c.links.count.links c.links.count.links c.links.id (c.links.invariant.walk D t) c.links.invariant.from
    (counts-here D c.links.id c.args.to c.links.count.links c.if-id-to.true)

pub index-entry-requires-in-links : goal.index-entry-requires-in-links
index-entry-requires-in-links g c =
    linked-within c.args.entries.now c.args.ids.now c.requires.stand c.links.id c.links.entry c.links.invariant.there c.links-test.true

pub links-smaller : goal.links-smaller
links-smaller g c =
    linked-before c.args.entries.now c.args.ids.now c.requires.stand c.links.id c.links.entry c.links.invariant.there c.links-test.true

pub links-preserved : goal.links-preserved
links-preserved g c =
    let es = c.args.entries.now in
    let xs = c.args.ids.now in
    let old = c.args.count.now.links in
    let count = c.links.count.links in
    let there = c.links.invariant.there in
    let many = c.links-test.true in
    let before = linked-before es xs c.requires.stand c.links.id c.links.entry there many in
    let within = linked-within es xs c.requires.stand c.links.id c.links.entry there many in
    record {
      there = slice_get_read es (length es) c.links.entry.start c.index-entry-in-links.result.now refl within c.index-entry-in-links.ensures;
      from = omega (arith, c.add_one.ensures, c.links.invariant.from);
      down = omega (arith, c.add_one.ensures, c.links.invariant.from, c.links.invariant.down, before);
      walk = λ D t.
          let n : count - old + 1 ≡ c.add_one.new.self.links - old = omega (arith, c.add_one.ensures, c.links.invariant.from) in
          subst (λ k. IsWalk D c.args.from c.args.to k c.links.entry.start) n
          (walk-step D c.args.from c.args.to (count - old) c.links.id c.links.entry.start (c.links.invariant.walk D t) c.if-id-to.false (linked_by es xs c.requires.stand D t c.links.id c.links.entry there many));
      deep = λ D t n d l.
          let k : 63 < n = many_by es xs c.requires.stand D t c.args.from (count - old) c.links.id n c.links.entry there many (c.links.invariant.walk D t).leads d in
          absurd (omega (arith, k, l));
    }

pub returns-clause-decides : goal.returns-clause-decides
returns-clause-decides g c = λ D t.
    walk-decides D c.args.from c.args.to (c.links.count.links - c.args.count.now.links) c.links.id c.is_listed.result (c.links.invariant.walk D t) (c.is_listed.ensures.decides D t)

pub returns-clause-counts : goal.returns-clause-counts
returns-clause-counts g c = λ D t.
    walk-counts D c.args.from c.args.to c.args.count.now.links c.links.count.links c.is_listed.new.count.links c.links.id (c.links.invariant.walk D t) c.links.invariant.from (c.is_listed.ensures.counts D t)
