use Rattle.std.proofs.Common.{◌≡◌, ◌≤◌, ◌<◌, ◌+◌, Some, None, arith, rules}
use Rattle.std.proofs.lemmas.Grind.{common_steps}
use Rattle.wasm_operators_proposals.specs.WasmOperatorsPlain.WasmReaders.WasmReadersBytes.Reader.{position_in, rest}
use Rattle.wasm_operators_proposals.specs.WasmOperatorsPlain.WasmReaders.WrittenIndices.{written}
use Rattle.wasm_operators.specs.Expressions.{nesting_of, depth_after, behind_expression}
use Rattle.wasm_operators.specs.SeenOperators.{operator_of}
use Rattle.wasm_operators.proofs.ExpressionEnds.{shorter, one_deeper, go_one, end_here, none_here}
use Rattle.wasm_operators.proofs.expressions.skip_expression.Goals as goal

pub returns-in_err-operator-clause-err : goal.returns-in_err-operator-clause-err
returns-in_err-operator-clause-err c =
    let far = c.operators.invariant.so_far in
    let none = none_here written far.0 c.operators.depth (rest c.operators.reader) (behind_expression written (rest c.args.reader.now)) c.in_err-operator.ensures.err far.2 in
    grind (arith, common_steps, none)

pub operators-preserved : goal.operators-preserved
operators-preserved c =
    let old = c.operators.reader in
    let new = c.read_operator.new.reader in
    let far = c.operators.invariant.so_far in
    let now = c.in-Some.now in
    let i = operator_of c.in_ok-operator.operator in
    let d : depth_after (nesting_of i) c.operators.depth ≡ Some now = cc in
    let deeper : now ≤ c.operators.depth + 1 = one_deeper (nesting_of i) c.operators.depth now d in
    let shallow : c.operators.depth ≤ position_in old = c.operators.invariant.shallow in
    let further : position_in old < position_in new = c.in_ok-operator.ensures.further in
    record {
      same = search rules;
      onward = omega arith;
      shallow = omega (arith, deeper, shallow, further);
      so_far = go_one written far.0 c.operators.depth (rest old) (rest new) i now (behind_expression written (rest c.args.reader.now)) far.1 (shorter old new c.read_operator.ensures.same c.in_ok-operator.ensures.further) c.in_ok-operator.ensures.ok d far.2;
    }

pub returns-in-None-clause-ok : goal.returns-in-None-clause-ok
returns-in-None-clause-ok c =
    let old = c.operators.reader in
    let new = c.read_operator.new.reader in
    let far = c.operators.invariant.so_far in
    let i = operator_of c.in_ok-operator.operator in
    let d : depth_after (nesting_of i) c.operators.depth ≡ None = cc in
    end_here written far.0 c.operators.depth (rest old) (rest new) i (behind_expression written (rest c.args.reader.now)) far.1 (shorter old new c.read_operator.ensures.same c.in_ok-operator.ensures.further) c.in_ok-operator.ensures.ok d far.2
