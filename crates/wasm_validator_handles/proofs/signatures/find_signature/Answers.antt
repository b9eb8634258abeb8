use Rattle.std.proofs.Common.{◌≡◌, sym, ap, ◌∙◌, ◌<◌, ℕ, true, false, length, arith}
use Rattle.std.specs.Option.{option_map}
use Rattle.wasm_validator.specs.WasmValidatorTypes.WasmValidatorTypeList.DeclarationsById.{declares}
use Rattle.wasm_validator.specs.WasmValidatorTypes.WasmValidatorTypeList.ListViews.{types_in}
use Rattle.wasm_validator_handles.specs.Signatures.{func_in, signature_by_ids}
use Rattle.wasm_validator_handles.proofs.FunctionSignatures.{found, none_found}
use Rattle.wasm_validator_handles.proofs.signatures.find_signature.Goals as goal

pub returns-then-holds_id-clause-found : goal.returns-then-holds_id-clause-found
returns-then-holds_id-clause-found c =
    let list = c.args.list.now in
    let there : c.from_index-id.result.index < length (types_in list) = omega arith in
    found list.groups c.rec_group_id_of-group.result.index c.from_index-id.result.index c.index-start.result
    c.index.result.now c.index-then-holds_id.result.now
    c.rec_group_id_of-group.ensures there c.index.ensures c.index-start.ensures c.index-then-holds_id.ensures
    (option_map signature_by_ids c.read_signature.result)
    c.read_signature.ensures.found
    ∙ ap (λ (n : ℕ). func_in (declares list.groups n)) c.from_index-id.ensures

pub returns-else-holds_id-clause-found : goal.returns-else-holds_id-clause-found
returns-else-holds_id-clause-found c =
    let list = c.args.list.now in
    let none : ¬ (c.from_index-id.result.index < length (types_in list)) =
    λ p. let e : false ≡ true = sym c.if-holds_id.false ∙ c.holds_id.ensures.1 p in absurd cc in
    none_found list.groups c.args.id (omega (arith, none, c.from_index-id.ensures))
