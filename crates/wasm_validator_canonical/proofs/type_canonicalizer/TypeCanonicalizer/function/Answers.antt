use Rattle.std.proofs.Common.{◌≡◌, sym, ap, subst, ◌∙◌, true, ◌&&◌, map, List}
use Rattle.std.specs.List.{list_all}
use Rattle.wasm_readers_types.specs.WasmReadersValues.SeenValues.{val_of}
use Rattle.wasm_readers_types.specs.WasmReadersValues.declared.values.ValType.{ValType}
use Rattle.wasm_validator_canonical.specs.Indices.{knows_val}
use Rattle.wasm_validator_canonical.proofs.CanonicalTypes.{function_known, says_as, and_false, both}
use Rattle.wasm_validator_canonical.proofs.type_canonicalizer.TypeCanonicalizer.function.Goals as goal

pub returns-in-Ok-values-clause-known : goal.returns-in-Ok-values-clause-known
returns-in-Ok-values-clause-known g c =
    let self = c.args.self.now in
    let ps = list_all (knows_val self) (map val_of c.args.ty.params) in
    let rs = list_all (knows_val self) (map val_of c.args.ty.results) in
    let p : ps ≡ true = subst (λ (l : List ValType). list_all (knows_val self) (map val_of l) ≡ true) c.into_parts-params.ensures.params c.in-Ok.ensures.known in
    let r : rs ≡ true = subst (λ (l : List ValType). list_all (knows_val self) (map val_of l) ≡ true) c.into_parts-params.ensures.results c.in-Ok-values.ensures.known in
    function_known self (map val_of c.args.ty.params) (map val_of c.args.ty.results) ∙ both self ps rs p r

pub returns-in-Err-values-clause-known : goal.returns-in-Err-values-clause-known
returns-in-Err-values-clause-known g c =
    let self = c.args.self.now in
    let ps = list_all (knows_val self) (map val_of c.args.ty.params) in
    says_as c.in-Err-values.error _ _
    (λ h. function_known self (map val_of c.args.ty.params) (map val_of c.args.ty.results) ∙ ap (λ b. ps && b) (sym (ap (λ (l : List ValType). list_all (knows_val self) (map val_of l)) c.into_parts-params.ensures.results) ∙ h) ∙ and_false ps)
    c.in-Err-values.ensures.known

pub returns-in-Err-clause-known : goal.returns-in-Err-clause-known
returns-in-Err-clause-known g c =
    let self = c.args.self.now in
    let rs = list_all (knows_val self) (map val_of c.args.ty.results) in
    says_as c.in-Err.error _ _
    (λ h. function_known self (map val_of c.args.ty.params) (map val_of c.args.ty.results) ∙ ap (λ b. b && rs) (sym (ap (λ (l : List ValType). list_all (knows_val self) (map val_of l)) c.into_parts-params.ensures.params) ∙ h))
    c.in-Err.ensures.known
