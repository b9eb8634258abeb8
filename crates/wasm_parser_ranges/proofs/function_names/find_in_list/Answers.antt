use Rattle.std.proofs.Common.{◌≡◌, ◌∙◌, suc, ◌+◌, ◌-◌, arith}
use Rattle.wasm_readers_bytes.specs.Reader.{rest}
use Rattle.wasm_parser_ranges.proofs.NameSections.{name_step}
use Rattle.wasm_parser_ranges.proofs.function_names.find_in_list.Goals as goal

pub names-preserved : goal.names-preserved
names-preserved c =
    let more = c.names-test.true in
    let one : c.in_ok-count.count - c.names.done ≡ suc (c.in_ok-count.count - (c.names.done + 1)) = omega (arith, more) in
    c.names.invariant
    ∙ name_step _ _ c.in_ok-function.function c.args.index (rest c.names.reader) (rest c.next_var_u32-in-names.new.self) c.in-Ok.name.now (rest c.read_string.new.self)
    one c.in_ok-function.ensures.some c.in-Ok.ensures.ok c.if-function-index.false
