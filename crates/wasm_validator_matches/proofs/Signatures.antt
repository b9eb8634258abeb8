-- Signatures, each list of value types in its group.
use Rattle.std.proofs.Common.{◌≡◌, sym, ◌∙◌, ℕ, Bool, true, false, true≢false, List}
use Rattle.std.specs.Bool.{Decides}
use Rattle.std.specs.List.{AllZip}
use Rattle.wasm_spec.specs.Syntax.{func, map_val}
use Rattle.wasm_spec.specs.Matching.{MatchesVal, MatchesComp}
use Rattle.wasm_readers_types.specs.WasmReadersValues.SeenValues.{val_of}
use Rattle.wasm_readers_types.specs.WasmReadersValues.declared.values.ValType.{ValType}
use Rattle.wasm_readers_types.specs.declared.types.SubType.{SubType}
use Rattle.wasm_validator_type_list.specs.DeclarationsById.{declares}
use Rattle.wasm_validator_type_list.specs.GroupTypes.{leads_in, ValsMatch}
use Rattle.wasm_validator_type_list.proofs.GroupMatching.{zip-seen, zip-unseen}
use Rattle.wasm_validator_matches.specs.Parts.{vals_by_ids}

module _ {A : Type 0} (gs : List (List (SubType A))) where
  seen : (j k : ℕ) (vs ws : List ValType) → AllZip (ValsMatch gs j k) vs ws → AllZip (MatchesVal (declares gs)) (vals_by_ids gs j vs) (vals_by_ids gs k ws)
  seen j k vs ws h = zip-seen (MatchesVal (declares gs)) val_of (map_val (leads_in gs j)) (map_val (leads_in gs k)) vs ws h

  unseen : (j k : ℕ) (vs ws : List ValType) → AllZip (MatchesVal (declares gs)) (vals_by_ids gs j vs) (vals_by_ids gs k ws) → AllZip (ValsMatch gs j k) vs ws
  unseen j k vs ws h = zip-unseen (MatchesVal (declares gs)) val_of (map_val (leads_in gs j)) (map_val (leads_in gs k)) vs ws h

  module _ (i j k l : ℕ) (ps rs qs ss : List ValType) (p : Bool) (d : Decides p (AllZip (ValsMatch gs k i) qs ps)) where
    abbrev SignaturesMatch : Type 0
    SignaturesMatch = MatchesComp (declares gs) (func (vals_by_ids gs i ps) (vals_by_ids gs j rs)) (func (vals_by_ids gs k qs) (vals_by_ids gs l ss))

    -- where the parameters match backwards, the results decide
    pub signatures_match : (r : Bool) → p ≡ true → Decides r (AllZip (ValsMatch gs j l) rs ss) → Decides r SignaturesMatch
    signatures_match r t e = ((λ s. (seen k i qs ps (d.0 t), seen j l rs ss (e.0 s))), (λ m. e.1 (unseen j l rs ss m.1)))

    -- and where they do not
    pub signatures_differ : p ≡ false → Decides p SignaturesMatch
    signatures_differ t = ((λ s. absurd (true≢false (sym s ∙ t))), (λ m. d.1 (unseen k i qs ps m.0)))
