use Rattle.std.proofs.Common.{◌≡◌, refl, ap, subst, ◌∙◌, true, List, map}
use Rattle.std.specs.List.{list_all}
use Rattle.wasm_readers_types.specs.WasmReadersValues.SeenValues.{val_of}
use Rattle.wasm_readers_types.specs.WasmReadersValues.declared.values.ValType.{ValType}
use Rattle.wasm_validator_canonical.specs.Indices.{has_no_index}
use Rattle.wasm_validator_canonical.proofs.CanonicalTypes.{values_kept}
use Rattle.wasm_validator_canonical.proofs.type_canonicalizer.TypeCanonicalizer.values.Goals as goal

pub returns-then-not-have_index-clause-value : goal.returns-then-not-have_index-clause-value
returns-then-not-have_index-clause-value g c =
    ap (map val_of) c.in_ok-fitting.ensures ∙ values_kept c.args.self.now (map val_of c.args.types.items) (subst (λ (l : List ValType). list_all has_no_index (map val_of l) ≡ true) c.as_slice.ensures.value (c.if-not-have_index.ensures refl))
