use Rattle.std.proofs.Common.{◌≡◌, ◌+◌, ◌++◌, map, length}
use Rattle.std.specs.Vec.Iter.{into_iter_items, into_iter_len}
use Rattle.wasm_spec.specs.Syntax.{map_sub}
use Rattle.wasm_readers_types.specs.SeenTypes.{sub_of}
use Rattle.wasm_validator_canonical.specs.Indices.{canonical_by, are_bound_by}
use Rattle.wasm_validator_canonical.proofs.type_canonicalizer.TypeCanonicalizer.sub_types.Given as goal

abbrev pub invariant-loop-ty : goal.invariant-loop-ty
invariant-loop-ty g l = record {
  mapped : map sub_of l.canonical.items ++ map (map_sub (canonical_by l.self)) (map sub_of (into_iter_items l.ty-iterator)) ≡ map (map_sub (canonical_by l.self)) (map sub_of l.fn.types.items);
  so_far : are_bound_by l.self (length l.self.ids.now) (map sub_of l.fn.types.items) ≡ are_bound_by l.self (length l.self.ids.now + length l.canonical.items) (map sub_of (into_iter_items l.ty-iterator));
  whole : length l.canonical.items + length (into_iter_items l.ty-iterator) ≡ length l.fn.types.items;
  count : into_iter_len l.ty-iterator ≡ length (into_iter_items l.ty-iterator);
}
