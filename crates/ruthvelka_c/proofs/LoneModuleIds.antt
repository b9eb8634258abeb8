-- A validator that is made for one module has ids for all its types.
use Rattle.std.proofs.Common.{ℕ, ◌+◌, ◌≤◌, ◌++◌, cond, Bool, true, false, List, [], ◌∷◌, length, length-append, refl, arith}
use Rattle.std.specs.Prelude.{fold, IfErr, ⊤}
use Rattle.std.specs.declared.alloc.Global.{Global}
use Rattle.std.specs.declared.result.Result.TheVariants.{Ok, Err}
use Rattle.wasm_readers_errors.specs.WasmReadersFeatures.declared.features.WasmFeatures.{WasmFeatures}
use Rattle.wasm_spec_rules.specs.FeatureFlags.{features_of}
use Rattle.wasm_spec_rules.specs.WasmSpec.Features.{canonical}
use Rattle.wasm_spec_rules.specs.WasmSpec.Trees.{DefType}
use Rattle.wasm_spec_rules.specs.Limits.{most_types}
use Rattle.wasm_validator_handles.specs.WasmValidator.WasmSpecValidity.Modules.{IsValidModule, IsValidUpToBodies}
use Rattle.wasm_validator_handles.specs.WasmValidator.WasmValidatorCanonical.TypeTotals.{has_type, with_type, with_types}
use Rattle.wasm_validator_handles.specs.WasmValidator.WasmValidatorCore.declared.error.Error.{Error}
use Rattle.wasm_validator_handles.specs.WasmValidator.WasmValidatorCore.declared.error.Error.TheVariants.{Refused, DuplicateExport, InFunction, OutOfMemory}
use Rattle.wasm_validator_handles.specs.WasmValidator.ValidatorStages.{Standing, fresh}
use Rattle.wasm_validator_handles.specs.WasmValidator.Verdict.{DecidesModule, DecidesAlone, RefusesModule, RefusesUpToBodies, HasIdsWith}
use Rattle.ruthvelka_c.specs.Answers.{Answer}
use Rattle.ruthvelka_c.specs.Reports.{IsWithin}

one_at_most : (b : Bool) (us : List DefType) (d : DefType) → length (cond b us (us ++ d ∷ [])) ≤ length us + 1
one_at_most true us d = omega arith
one_at_most false us d = let e = length-append us (d ∷ []) in omega (arith, e)

each_at_most : (us ds : List DefType) → length (fold with_type us ds) ≤ length us + length ds
each_at_most us [] = omega arith
each_at_most us (d ∷ ds) =
    let one = one_at_most (has_type us d) us d in
    let more = each_at_most (with_type us d) ds in
    omega (arith, one, more)

at_most : (c : Bool) (ds : List DefType) → length (with_types c [] ds) ≤ length ds
at_most true ds = let h = each_at_most [] ds in omega (arith, h)
at_most false ds = omega arith

-- no module has more types than a list may hold
few_alone : (features : WasmFeatures) (ds : List DefType) → length ds ≤ most_types → HasIdsWith (features_of features) [] ds
few_alone features ds few = let all = at_most (canonical (features_of features)) ds in omega (arith, all, few)

alone : (features : WasmFeatures) (id : ℕ) (bytes : List ℕ) → RefusesModule bytes (fresh id features) → IsValidModule (features_of features) bytes → ⊥
alone features id bytes h m = h [] refl m (few_alone features m.well_formed.types.types m.well_formed.rules.limits.types)

up_to_bodies_alone : (features : WasmFeatures) (id : ℕ) (bytes : List ℕ) → RefusesUpToBodies bytes (fresh id features) → IsValidUpToBodies (features_of features) bytes → ⊥
up_to_bodies_alone features id bytes h m = h [] refl m (few_alone features m.well_formed.types.types m.well_formed.rules.limits.types)

pub decides_alone : (bytes : List ℕ) (id : ℕ) (features : WasmFeatures) (new : Standing) (r : Answer) → DecidesModule r bytes (fresh id features) new → DecidesAlone r bytes id features
decides_alone bytes id features new (Ok t) v = (new, v)
decides_alone bytes id features new (Err (Refused e)) v = (up_to_bodies_alone features id bytes v.0, (new, v.1))
decides_alone bytes id features new (Err (DuplicateExport name offset)) v = (up_to_bodies_alone features id bytes v.0, (new, v.1))
decides_alone bytes id features new (Err (InFunction index r)) v = (alone features id bytes v.0, (new, v.1))
decides_alone bytes id features new (Err OutOfMemory) v = tt

-- where a refusal stands
abbrev Between : ℕ → ℕ → Error Global → Type 0
Between from to (Refused r) = (from ≤ r.offset) × (r.offset ≤ to)
Between from to (DuplicateExport name offset) = (from ≤ offset) × (offset ≤ to)
Between from to (InFunction index r) = (from ≤ r.offset) × (r.offset ≤ to)
Between from to OutOfMemory = ⊤

between : (e : Error Global) (bytes : List ℕ) → Between 0 (length bytes) e → IsWithin bytes e
between (Refused r) bytes h = h.1
between (DuplicateExport name offset) bytes h = h.1
between (InFunction index r) bytes h = h.1
between OutOfMemory bytes h = omega arith

pub within : (r : Answer) (bytes : List ℕ) → IfErr r (λ e. Between 0 (length bytes) e) → IfErr r (IsWithin bytes)
within (Ok t) bytes h = tt
within (Err e) bytes h = between e bytes h
