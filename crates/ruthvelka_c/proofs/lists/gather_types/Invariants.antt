use Rattle.std.proofs.Common.{◌≡◌, take}
use Rattle.std.specs.List.{flat_map}
use Rattle.ruthvelka_c.specs.Lists.{types_of}
use Rattle.ruthvelka_c.proofs.lists.gather_types.Given as goal

abbrev pub invariant-answers : goal.invariant-answers
invariant-answers l = l.ids.items ≡ flat_map types_of (take l.answer-index l.answers)
