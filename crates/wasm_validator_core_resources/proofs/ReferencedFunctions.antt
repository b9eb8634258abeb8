-- Which functions count as referenced in the context of a module.
use Rattle.std.proofs.Common.{◌≡◌, sym, ap, ◌∙◌, ℕ, ◌<◌, Bool, true, false, true≢false, List, length, Option, Some, None, arith, Bor}
use Rattle.std.specs.Prelude.{nat_lt, slice_index_or}
use Rattle.std.proofs.lemmas.Bool.Decides.{Decides-ltb}
use Rattle.std.proofs.lemmas.Option.{slice_get_read}
use Rattle.wasm_validator_resources.specs.WasmSpecRules.Contexts.{Context}
use Rattle.wasm_validator_resources.specs.WasmSpecRules.Attempts.{among}
use Rattle.wasm_readers_types.specs.WasmReadersValues.declared.indices.UnpackedIndex.{UnpackedIndex}
use Rattle.wasm_validator_core_resources.specs.declared.resources.ModuleResources.TheInside.{Inside}
use Rattle.wasm_validator_core_resources.specs.ModuleLookups.{references_of, shown}
use Rattle.wasm_validator_core_resources.proofs.Lists.{among_first, flag_set, flag_past}

module _ {A : Type 0} (a : Inside A) (C : Context UnpackedIndex) (e : shown a ≡ C) (i : ℕ) where
  references : (o : Option (Bor (List Bool))) → a.referenced ≡ o → among i (references_of a.spaces.now.functions o) ≡ among i C.references
  references o h = ap (λ (p : Option (Bor (List Bool))). among i (references_of a.spaces.now.functions p)) (sym h) ∙ ap (λ (D : Context UnpackedIndex). among i D.references) e

  pub flag_read : (flags : Bor (List Bool)) (b : Bool) → a.referenced ≡ Some flags → true ≡ nat_lt i (length flags.now) → b ≡ slice_index_or flags.now i b → b ≡ among i C.references
  flag_read flags b h l r =
      let there : i < length flags.now = (Decides-ltb i (length flags.now)).0 (sym l) in
      sym (flag_set flags.now i b (slice_get_read flags.now (length flags.now) i b (λ _. length flags.now) there r)) ∙ references (Some flags) h

  pub no_flag_read : (flags : Bor (List Bool)) → a.referenced ≡ Some flags → false ≡ nat_lt i (length flags.now) → false ≡ among i C.references
  no_flag_read flags h l =
      let other : i < length flags.now → ⊥ = λ m. true≢false (sym ((Decides-ltb i (length flags.now)).1 m) ∙ sym l) in
      sym (flag_past flags.now i (omega (arith, other))) ∙ references (Some flags) h

  pub each_counts : (r : Bool) → a.referenced ≡ None → r ≡ nat_lt i (length C.functions) → r ≡ among i C.references
  each_counts r h q =
      q ∙ ap (λ (D : Context UnpackedIndex). nat_lt i (length D.functions)) (sym e) ∙ among_first i (length a.spaces.now.functions) ∙ references None h
