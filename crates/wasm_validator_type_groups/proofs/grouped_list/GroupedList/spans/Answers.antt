use Rattle.std.proofs.Common.{ap, ◌∙◌}
use Rattle.wasm_validator_type_groups.specs.Spans.{spans_of}
use Rattle.wasm_validator_type_groups.proofs.FlatGroups.{spans_are}
use Rattle.wasm_validator_type_groups.proofs.grouped_list.GroupedList.spans.Goals as goal

pub returns : goal.returns
returns g c =
    let a = c.self.inside in
    spans_are a.items a.spans a.owners c.self.invariant ∙ ap spans_of c.self.view_is
