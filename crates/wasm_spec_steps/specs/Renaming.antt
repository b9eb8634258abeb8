-- What it means that one numbering of types is another with each identity renamed.
use Rattle.std.specs.Prelude.{◌≡◌}
use Rattle.std.specs.Option.{option_map}
use Rattle.wasm_spec_rules.specs.WasmSpec.Syntax.{map_sub}
use Rattle.wasm_spec_rules.specs.WasmSpec.MatchingTests.{World}

-- what one world says of renamed identities is what the other says of them, renamed
pub record Renames {R S : Type 0} (f : R → S) (W : World R) (V : World S) : Type 0 where
  pub declared : (a : R) → V.declared (f a) ≡ option_map (map_sub f) (W.declared a)
  pub below : (a b : R) → V.below (f a) (f b) ≡ W.below a b
  pub same : (a b : R) → V.same (f a) (f b) ≡ W.same a b
