-- Bodies of functions in two contexts over different identities of types: they are typed in the one exactly where they are in the other, if the
-- other has the same with each identity renamed. Core Specification 3.0, Validation, Modules (Functions).
use Rattle.std.specs.Prelude.{◌≡◌, ◌↔◌, ℕ, Bool, List}
use Rattle.wasm_spec.specs.Features.{Features}
use Rattle.wasm_spec.specs.MatchingTests.{World}
use Rattle.wasm_spec_steps.specs.WasmSpecRules.Attempts.{among}
use Rattle.wasm_spec_steps.specs.WasmSpecRules.Contexts.{Context, map_context}
use Rattle.wasm_spec_steps.specs.WasmSpecRules.Parts.{Parts}
use Rattle.wasm_spec_steps.specs.WasmSpecRules.Worlds.{world_of}
use Rattle.wasm_spec_steps.specs.FunctionBodies.{IsBodyOfFunction}
use Rattle.wasm_spec_steps.specs.Renaming.{Renames}
use Rattle.wasm_spec_validity.specs.Typing.{HasTypedBodies}

-- The context D has all that C has, with each identity renamed, apart from what types declare and the list of the functions that count as
-- referenced; and the same functions are in both lists.
pub record ShowsRenamed {R S : Type 0} (f : R → S) (C : Context R) (D : Context S) : Type 0 where
  pub shows : D ≡ record (map_context f C) { declares = D.declares; references = D.references }
  pub references : (i : ℕ) → among i D.references ≡ among i C.references

-- Where the world V is W with each identity renamed, bytes are a body of a function over W in C exactly where they are over V in D.
abbrev pub BodiesAreRenamed : (R S : Type 0) → Type 0
BodiesAreRenamed R S =
    (f : R → S) (W : World R) (V : World S) → Renames f W V → (F : Features) (C : Context R) (D : Context S) → ShowsRenamed f C D
    → (n : ℕ) (bytes : List ℕ) → IsBodyOfFunction W F C n bytes ↔ IsBodyOfFunction V F D n bytes

-- Where the world of D is that of C with each identity renamed, a module has typed bodies in D exactly where it has them in C.
abbrev pub TypedBodiesAreRenamed : (R S : Type 0) → Type 0
TypedBodiesAreRenamed R S =
    (same : R → R → Bool) (renamed : S → S → Bool) (f : R → S) (F : Features) (C : Context R) (D : Context S) → Renames f (world_of same C) (world_of renamed D) → ShowsRenamed f C D
    → (parts : Parts) → HasTypedBodies same F C parts ↔ HasTypedBodies renamed F D parts
