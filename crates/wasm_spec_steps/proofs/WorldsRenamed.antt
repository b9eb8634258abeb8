-- The world of a renamed context.
use Rattle.std.proofs.Common.{◌≡◌, refl, ◌∙◌, ℕ, zero, suc, Bool, ◌||◌, List, [], ◌∷◌, map, length, option_map}
use Rattle.std.proofs.lemmas.List.{length-map}
use Rattle.std.proofs.lemmas.Option.{slice_get-map}
use Rattle.wasm_spec_rules.specs.WasmSpec.Syntax.{Sub, map_sub}
use Rattle.wasm_spec_rules.specs.WasmSpec.SupertypeOrder.{supertype}
use Rattle.wasm_spec_rules.specs.Contexts.{Context, renamed_declared, map_context}
use Rattle.wasm_spec_rules.specs.Attempts.{◌>>=◌}
use Rattle.wasm_spec_rules.specs.Worlds.{declared_in, is_below, world_of}
use Rattle.wasm_spec_steps.specs.Renaming.{Renames}
use Rattle.wasm_spec_steps.proofs.Attempts.{bind-map, passes-map, if-map}

module _ {R S : Type 0} (f : R → S) (same : R → R → Bool) (renamed : S → S → Bool) (e : (a b : R) → renamed (f a) (f b) ≡ same a b) where
  declared_in-map : (ds : List (R × Sub R)) (a : R) → declared_in renamed (map (renamed_declared f) ds) (f a) ≡ option_map (map_sub f) (declared_in same ds a)
  declared_in-map [] a = refl
  declared_in-map (d ∷ ds) a = if-map (map_sub f) _ (declared_in same ds a) (e d.0 a) refl (declared_in-map ds a)

  supertype-map : (s : Sub R) → supertype (map_sub f s) ≡ option_map f (supertype s)
  supertype-map s = slice_get-map f s.supers 0

  is_below-map : (ds : List (R × Sub R)) (n : ℕ) (a b : R) → is_below renamed (map (renamed_declared f) ds) n (f a) (f b) ≡ is_below same ds n a b
  is_below-map ds zero a b = e a b
  is_below-map ds (suc n) a b =
      λ i. e a b i
      || passes-map f (λ c. is_below same ds n c b) (λ c. is_below renamed (map (renamed_declared f) ds) n c (f b)) (λ c. is_below-map ds n c b) (declared_in same ds a >>= supertype)
      (bind-map (map_sub f) f supertype supertype supertype-map (declared_in same ds a) (declared_in-map ds a)) i

  pub world_of-map : (C : Context R) → Renames f (world_of same C) (world_of renamed (map_context f C))
  world_of-map C = record {
    declared = declared_in-map C.declares;
    below = λ a b. (λ i. is_below renamed (map (renamed_declared f) C.declares) (length-map C.declares (renamed_declared f) i) (f a) (f b)) ∙ is_below-map C.declares (length C.declares) a b;
    same = e;
  }
