use Rattle.std.proofs.Common.{sym, subst, ◌<◌, length, arith, All}
use Rattle.wasm_validator_type_list.proofs.DefTypes.{length-def_types}
use Rattle.wasm_readers_types.specs.WasmReadersValues.declared.indices.TheConstants.{MAX_IDS}
use Rattle.wasm_validator_canonical.proofs.NewIds as new
use Rattle.wasm_validator_type_list.specs.DefTypes.{types_of_list}
use Rattle.wasm_validator_checks.proofs.entities.known_ids.Goals as goal

pub returns-clause-known : goal.returns-clause-known
returns-clause-known g c =
    let n = length (types_of_list c.args.list.now) in
    new.known_ids n c.type_ids.result.now (subst (All (λ k. k < n)) (sym c.type_ids.ensures) c.requires)

pub returns-clause-small : goal.returns-clause-small
returns-clause-small g c =
    let list = c.args.list.now in
    let n = length (types_of_list list) in
    let room = c.recall_promises.ensures.room in
    let many = length-def_types list.is_canonical list.groups in
    new.below_limit n MAX_IDS c.type_ids.result.now (omega (arith, room, many)) (new.known_ids n c.type_ids.result.now (subst (All (λ k. k < n)) (sym c.type_ids.ensures) c.requires))
