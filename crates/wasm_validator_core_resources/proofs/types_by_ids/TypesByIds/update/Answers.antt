use Rattle.wasm_validator_core_resources.proofs.types_by_ids.TypesByIds.update.Goals as goal
