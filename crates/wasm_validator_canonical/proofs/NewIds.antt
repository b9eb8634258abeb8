-- The ids of a module's types, before and behind a group.
use Rattle.std.proofs.Common.{◌≡◌, ℕ, ◌+◌, ◌≤◌, ◌<◌, List, [], ◌∷◌, ◌++◌, length, Some, arith, length-append}
use Rattle.std.specs.List.{All}
use Rattle.std.proofs.lemmas.List.Elements.{All-nil, All-cons, All-head, All-tail}
use Rattle.wasm_spec.specs.Syntax.{Rec}
use Rattle.wasm_spec.specs.Features.{Features}
use Rattle.wasm_spec.specs.Trees.{DefType}
use Rattle.wasm_readers_types.specs.WasmReadersValues.declared.indices.CoreTypeId.{CoreTypeId}
use Rattle.wasm_readers_types.specs.WasmReadersValues.declared.indices.UnpackedIndex.{UnpackedIndex}
use Rattle.wasm_validator_canonical.specs.Groups.{with_written}
use Rattle.wasm_validator_canonical.specs.Indices.{numbers}
use Rattle.wasm_validator_canonical.proofs.Steps.{written_length}

-- ids below a bound, by their numbers
pub known_ids : (n : ℕ) (ids : List CoreTypeId) → All (λ k. k < n) (numbers ids) → All (λ (id : CoreTypeId). id.index < n) ids
known_ids n [] a = All-nil (λ (id : CoreTypeId). id.index < n)
known_ids n (x ∷ xs) a =
    All-cons (λ (id : CoreTypeId). id.index < n) x xs (All-head (λ k. k < n) x.index (numbers xs) a) (known_ids n xs (All-tail (λ k. k < n) x.index (numbers xs) a))

-- and the other way round
pub numbers_below : (n : ℕ) (ids : List CoreTypeId) → All (λ (id : CoreTypeId). id.index < n) ids → All (λ i. i < n) (numbers ids)
numbers_below n [] a = All-nil (λ i. i < n)
numbers_below n (id ∷ ids) a = All-cons (λ i. i < n) id.index (numbers ids) (All-head (λ (x : CoreTypeId). x.index < n) id ids a) (numbers_below n ids (All-tail (λ (x : CoreTypeId). x.index < n) id ids a))

pub below_limit : (n m : ℕ) (ids : List CoreTypeId) → n ≤ m → All (λ (id : CoreTypeId). id.index < n) ids → All (λ (id : CoreTypeId). id.index < m) ids
below_limit n m [] l a = All-nil (λ (id : CoreTypeId). id.index < m)
below_limit n m (id ∷ ids) l a =
    let h : id.index < n = All-head (λ (x : CoreTypeId). x.index < n) id ids a in
    All-cons (λ (x : CoreTypeId). x.index < m) id ids (omega (arith, h, l)) (below_limit n m ids l (All-tail (λ (x : CoreTypeId). x.index < n) id ids a))

-- a group has as many ids as types
pub as_many_new : (F : Features) (us us' : List DefType) (ids new : List ℕ) (g : Rec UnpackedIndex) → with_written F us ids g ≡ Some (us', ids ++ new) → length ids + length new ≡ length ids + length g.types
as_many_new F us us' ids new g e =
    let many = written_length F us ids g (us', ids ++ new) e in
    let both = length-append ids new in
    omega (arith, many, both)
