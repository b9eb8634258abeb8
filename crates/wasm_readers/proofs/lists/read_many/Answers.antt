use Rattle.std.proofs.Common.{◌≡◌, ◌∙◌, ap, sym, arith, rules, map, ◌-◌, None}
use Rattle.std.proofs.lemmas.Grind.{common_steps}
use Rattle.wasm_readers_bytes.specs.WasmSpec.Values.{many_at}
use Rattle.wasm_readers_bytes.specs.Reader.{rest}
use Rattle.wasm_readers.proofs.Loops.{with_front, one_more, none_more}
use Rattle.wasm_readers.proofs.lists.read_many.Goals as goal

pub items-preserved : goal.items-preserved
items-preserved g c =
    let more = one_more g.T.FromReader.value g.T.FromReader.encoded c.items.items.items c.in_ok-item.item c.items.left (rest c.items.reader) (rest c.from_reader.new.reader) (omega arith) c.in_ok-item.ensures.reads in
    record {
      same = search rules;
      onward = omega arith;
      so_far = ap (λ xs. with_front (map g.T.FromReader.value xs) (many_at g.T.FromReader.encoded (c.items.left - 1) (rest c.from_reader.new.reader))) c.in_ok-push.ensures.items ∙ more ∙ c.items.invariant.so_far;
    }

pub returns-in_err-item-clause-reads : goal.returns-in_err-item-clause-reads
returns-in_err-item-clause-reads g c =
    let encoded = g.T.FromReader.encoded in
    let none : encoded (rest c.items.reader) ≡ None → many_at encoded c.args.count (rest c.args.reader.now) ≡ None =
    λ e. sym c.items.invariant.so_far ∙ none_more g.T.FromReader.value encoded c.items.items.items c.items.left (rest c.items.reader) (omega arith) e
    in
    grind (arith, common_steps, none)
