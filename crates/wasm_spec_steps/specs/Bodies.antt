-- What a body or a constant expression is checked in: the features, the context of the module, the locals of the function, and whether
-- the function is shared, so that it reaches only what is; a constant expression isn't. All over any kind of identity R of types. Core Specification 3.0, Validation, Conventions (Contexts) and Types (Local Types).
use Rattle.std.specs.Prelude.{Bool, List, map}
use Rattle.wasm_spec_rules.specs.WasmSpec.Syntax.{Val, map_val}
use Rattle.wasm_spec_rules.specs.WasmSpec.Features.{Features}
use Rattle.wasm_spec_rules.specs.Contexts.{Context, map_context}

-- a local, and whether it is set from the start
pub record Local (R : Type 0) : Type 0 where
  pub content : Val R
  pub set : Bool

pub record Surroundings (R : Type 0) : Type 0 where
  pub features : Features
  pub context : Context R
  pub locals : List (Local R)
  pub shared : Bool

-- each identity renamed
module _ {R S : Type 0} (f : R → S) where
  abbrev pub map_local : Local R → Local S
  map_local x = record { content = map_val f x.content; set = x.set }

  abbrev pub map_surroundings : Surroundings R → Surroundings S
  map_surroundings B = record { features = B.features; context = map_context f B.context; locals = map map_local B.locals; shared = B.shared }
