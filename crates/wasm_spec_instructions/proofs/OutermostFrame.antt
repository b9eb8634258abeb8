-- The outermost frame: of a body, or of a constant expression.
use Rattle.std.proofs.Common.{◌≡◌, refl, ◌∙◌, ℕ, zero, suc, Bool, false, [], ◌∷◌, ◌++◌, Option, Some, None, option_map, is_some, slice_get}
use Rattle.wasm_spec_steps.specs.WasmSpecRules.WasmSpec.MatchingTests.{World}
use Rattle.wasm_spec_steps.specs.WasmSpecRules.Attempts.{◌>>=◌, passes}
use Rattle.wasm_spec_steps.specs.WasmSpecRules.Signatures.{Signature}
use Rattle.wasm_operators.specs.Control.{Block}
use Rattle.wasm_spec_steps.specs.Bodies.{Surroundings}
use Rattle.wasm_spec_steps.specs.Machine.{block_kind, State, push_vals, rethrows}
use Rattle.wasm_spec_steps.specs.Meanings.{label_by, block_signature}
use Rattle.wasm_spec_steps.specs.Steps.{start, steps_in}
use Rattle.wasm_spec_instructions.specs.Code.{Code, end_, flatten, IsProper}
use Rattle.wasm_spec_instructions.specs.Expressions.{body_scope}
use Rattle.wasm_spec_instructions.proofs.FrameMachine.{Stack, stack, lend, check}
use Rattle.wasm_spec_instructions.proofs.InnermostFrames.{Place, labels_of, frame_of, leave-any}
use Rattle.wasm_spec_instructions.proofs.Structure.{steps-at}

module _ {R : Type 0} (W : World R) (B : Surroundings R) (b : Block R) (g : Signature R) (e : block_signature W B b ≡ Some g) where
  pub outer-labelled : (u : Bool) (n : ℕ) → labels_of W B (frame_of block_kind b [] [] u ∷ []) n ≡ slice_get (g.gives ∷ []) n
  outer-labelled u zero = λ i. option_map (label_by block_kind) (e i)
  outer-labelled u (suc n) = refl

  pub outer-there : (u : Bool) (n : ℕ) → is_some (slice_get (frame_of block_kind b [] [] u ∷ []) n) ≡ is_some (slice_get (g.gives ∷ []) n)
  outer-there u zero = refl
  outer-there u (suc n) = refl

  pub outer-handler : (u : Bool) (n : ℕ) → rethrows (frame_of block_kind b [] [] u ∷ []) n ≡ passes (λ b. b) (slice_get (false ∷ []) n)
  outer-handler u zero = refl
  outer-handler u (suc n) = refl

  abbrev pub outer : Place W B
  outer = record {
    kind = block_kind;
    block = b;
    signature = g;
    base = [];
    below = [];
    inits = [];
    labels = g.gives ∷ [];
    caught = false ∷ [];
    returns = Some g.gives;
    is_signed = e;
    is_labelled = outer-labelled;
    is_there = outer-there;
    is_handler = outer-handler;
    is_returned = λ u i. option_map (λ (x : Signature R). x.gives) (e i);
  }

  abbrev pub left : State R
  left = push_vals g.gives (record { operands = []; frames = []; inits = [] })

  -- the whole of it, by its structure
  pub whole : (c : Code) → IsProper c → steps_in W B (flatten c ++ (end_ ∷ [])) (start b) ≡ (check W B (body_scope g.gives) c (stack [] false []) >>= λ q. lend W g.gives q >>= λ z. Some left)
  whole c w =
      steps-at c outer w (end_ ∷ []) (stack [] false [])
      ∙ (λ i. check W B (body_scope g.gives) c (stack [] false []) >>= λ q. ((leave-any outer q i >>= λ s. Some s) >>= λ s. Some s))
      ∙ (λ i. check W B (body_scope g.gives) c (stack [] false []) >>= λ q. last (lend W g.gives q) i)
    where
      last : (o : Option (Stack R)) → (((o >>= λ z. Some left) >>= λ s. Some s) >>= λ s. Some s) ≡ (o >>= λ z. Some left)
      last None = refl
      last (Some x) = refl
