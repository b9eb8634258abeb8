-- A type index as the list of types has it.
use Rattle.std.proofs.Common.{◌≡◌, sym, ap, ◌∙◌, ℕ, ◌-◌, ◌<◌, Bool, List, length}
use Rattle.std.specs.List.{AllZip}
use Rattle.std.proofs.lemmas.Option.{get_or_from_slice_get}
use Rattle.wasm_spec.specs.Trees.{DefType}
use Rattle.wasm_spec_rules.specs.IndexSpaces.{nowhere, type_at}
use Rattle.wasm_validator_type_list.proofs.Lookups.{group_found}
use Rattle.wasm_laws_core.specs.WasmValidatorCanonical.Indices.{use_of_index}
use Rattle.wasm_laws_core.specs.WasmValidatorCanonical.Sections.{StandsFor}
use Rattle.wasm_laws_core.specs.ModuleParts.{listed}
use Rattle.wasm_laws_core.specs.TypeNumbers.{identity_at}
use Rattle.wasm_laws_core.proofs.IndexRanges.{zip_at}
use Rattle.wasm_laws_modules.proofs.DistinctTypeIds.{AreRenamed}

pub index-back : (c : Bool) (us : List DefType) (sids : List ℕ) (types distinct : List DefType) (n : DefType → ℕ) → AllZip (StandsFor c us) sids types → (renamed : AreRenamed us sids types distinct n)
    → (x : ℕ) → x < length types → listed sids x ≡ identity_at renamed.ids (n (type_at types x))
index-back c us sids types distinct n stand renamed x l =
    let g = group_found types x l in
    let z = zip_at (StandsFor c us) sids types stand x g.0 g.1 in
    ap (λ o. use_of_index o (x - length sids)) z.1
    ∙ renamed.back x z.0 g.0 g.1 z.1
    ∙ ap (λ d. identity_at renamed.ids (n d)) (sym (get_or_from_slice_get types x g.0 nowhere g.1))
