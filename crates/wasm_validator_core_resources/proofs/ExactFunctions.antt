-- Which functions of a module are exactly of their type, in its context.
use Rattle.std.proofs.Common.{◌≡◌, sym, ap, ◌∙◌, ℕ, ◌<◌, ◌≤◌, Bool, true, true≢false, length, Some, None, slice_get, get_or, arith}
use Rattle.std.specs.Prelude.{nat_lt, is_some, IsSome}
use Rattle.std.proofs.lemmas.Option.{slice_get_past}
use Rattle.wasm_validator_resources.specs.WasmSpecRules.Contexts.{Context}
use Rattle.wasm_readers_types.specs.WasmReadersValues.declared.indices.UnpackedIndex.{UnpackedIndex}
use Rattle.wasm_validator_types.specs.Spaces.{is_exact}
use Rattle.wasm_validator_resources.specs.WasmSpecRules.Attempts.{passes}
use Rattle.wasm_validator_core_resources.specs.declared.resources.ModuleResources.TheInside.{Inside}
use Rattle.wasm_validator_core_resources.specs.ModuleLookups.{shown}
use Rattle.wasm_validator_core_resources.proofs.Lists.{flag_there, no_flag, below_not}

module _ {A : Type 0} (a : Inside A) (C : Context UnpackedIndex) (e : shown a ≡ C) (i n : ℕ) where
  flag : n ≡ length a.spaces.now.functions → i < n → slice_get C.exact i ≡ Some (get_or a.spaces.now.imported_functions i true)
  flag h l = ap (λ (D : Context UnpackedIndex). slice_get D.exact i) (sym e) ∙ flag_there a.spaces.now.functions a.spaces.now.imported_functions i (omega (arith, h, l))

  past : n ≡ length a.spaces.now.functions → n ≤ i → slice_get C.exact i ≡ None
  past h l = ap (λ (D : Context UnpackedIndex). slice_get D.exact i) (sym e) ∙ no_flag a.spaces.now.functions a.spaces.now.imported_functions i (omega (arith, h, l))

  pub exact_there : (r : Bool) → n ≡ length a.spaces.now.functions → i < n → r ≡ is_exact a.spaces.now i → r ≡ passes (λ b. b) (slice_get C.exact i)
  exact_there r h l q = q ∙ sym (ap (passes (λ b. b)) (flag h l))

  pub told_there : n ≡ length a.spaces.now.functions → i < n → IsSome (slice_get C.functions i) → IsSome (slice_get C.exact i)
  told_there h l s = ap is_some (flag h l)

  pub exact_past : n ≡ length a.spaces.now.functions → n ≤ i → nat_lt i n ≡ passes (λ b. b) (slice_get C.exact i)
  exact_past h l = below_not i n l ∙ sym (ap (passes (λ b. b)) (past h l))

  pub told_past : n ≡ length a.spaces.now.functions → n ≤ i → IsSome (slice_get C.functions i) → IsSome (slice_get C.exact i)
  told_past h l s =
      let gone : slice_get C.functions i ≡ None =
      ap (λ (D : Context UnpackedIndex). slice_get D.functions i) (sym e) ∙ slice_get_past a.spaces.now.functions i (omega (arith, h, l)) in
      absurd (true≢false (sym s ∙ ap is_some gone))
