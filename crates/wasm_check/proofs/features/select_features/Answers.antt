use Rattle.std.proofs.Common.{ℕ, zero, suc, ◌≡◌, ◌<◌, List, [], ◌∷◌, length, map, get_or, slice_get, Some, refl, sym, ap, ◌∙◌, arith}
use Rattle.std.proofs.lemmas.List.{take-map}
use Rattle.wasm_readers_errors.specs.WasmReadersFeatures.contracts.features.WasmFeaturesFlags.TheImpl.{ghosts}
use Rattle.wasm_check.specs.FeatureWords.{selected}
use Rattle.wasm_check.proofs.features.select_features.Goals as goal

slice_get-map_within : {X Y : Type 0} (f : X → Y) (xs : List X) (k : ℕ) (d : X) → k < length xs → slice_get (map f xs) k ≡ Some (f (get_or xs k d))
slice_get-map_within f [] k d l = absurd (omega arith)
slice_get-map_within f (x ∷ xs) zero d l = refl
slice_get-map_within f (x ∷ xs) (suc k) d l = slice_get-map_within f xs k d (omega arith)

pub returns-in-None-clause-unknown : goal.returns-in-None-clause-unknown
returns-in-None-clause-unknown c =
    let i = c.words.word-index in
    record {
      place = i;
      given = slice_get-map_within (λ word. word.now) c.args.words.now i _ c.words-test.true;
      features = c.words.features;
      before = ap (selected ghosts.table) (take-map (λ word. word.now) i c.args.words.now) ∙ c.words.invariant;
      selects_none = sym c.change_features.ensures ∙ c.in-None.is;
    }
