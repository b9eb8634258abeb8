use Rattle.std.proofs.Common.{refl}
use Rattle.wasm_readers_types.specs.declared.types.CompositeInnerType.TheVariants.{Struct}
use Rattle.wasm_validator_type_list.proofs.GroupMatching.{fields_in}
use Rattle.wasm_validator_type_list.proofs.CompositeMatching.{structs_match}
use Rattle.wasm_validator_matches.proofs.matches.WithRecGroupRefStructTypeMatches.matches.Goals as goal

pub all_fields_match-requires-clause-sub : goal.all_fields_match-requires-clause-sub
all_fields_match-requires-clause-sub g c = fields_in c.args.types.now.groups c.args.a.rec_group.index (Struct c.args.a.inner.now) c.args.a.inner.now c.as_slice.result.now c.requires.sub refl c.as_slice.ensures

pub all_fields_match-requires-clause-sup : goal.all_fields_match-requires-clause-sup
all_fields_match-requires-clause-sup g c = fields_in c.args.types.now.groups c.args.b.rec_group.index (Struct c.args.b.inner.now) c.args.b.inner.now c.as_slice-2.result.now c.requires.sup refl c.as_slice-2.ensures

pub returns : goal.returns
returns g c =
    structs_match c.args.types.now.groups c.args.a.rec_group.index c.args.b.rec_group.index (Struct c.args.a.inner.now) (Struct c.args.b.inner.now) c.args.a.inner.now c.args.b.inner.now
    c.as_slice.result.now c.as_slice-2.result.now c.all_fields_match.result refl refl c.as_slice.ensures c.as_slice-2.ensures c.all_fields_match.ensures
