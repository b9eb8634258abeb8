-- The numbers of the limits.
use Rattle.std.proofs.Common.{refl}
use Rattle.wasm_spec.specs.LimitExamples.{MillionOfMost, HundredOrOne, SegmentsAndBodies}

pub million_of_most : MillionOfMost
million_of_most = refl

pub hundred_or_one : HundredOrOne
hundred_or_one = refl

pub segments_and_bodies : SegmentsAndBodies
segments_and_bodies = refl

pub ruleset examples = (million_of_most, hundred_or_one, segments_and_bodies)
