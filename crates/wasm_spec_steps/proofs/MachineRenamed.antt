-- The two stacks, renamed.
use Rattle.std.proofs.Common.{◌≡◌, refl, ◌∙◌, ℕ, Bool, true, false, ◌==◌, ◌-◌, List, [], ◌∷◌, map, length, drop, Some, option_map, slice_get}
use Rattle.std.proofs.lemmas.List.{length-map, drop-map}
use Rattle.std.proofs.lemmas.Option.{slice_get-map}
use Rattle.wasm_spec_rules.specs.WasmSpec.Syntax.{abstract_heap, Val, i32, i64, f32, f64, v128, reference, map_heap, map_val}
use Rattle.wasm_spec_rules.specs.WasmSpec.Matching.{is_shared_heap}
use Rattle.wasm_spec_rules.specs.WasmSpec.MatchingTests.{World}
use Rattle.wasm_spec_rules.specs.WasmSpec.MatchingTests.{matches_heap}
use Rattle.wasm_operators.specs.Control.{Block}
use Rattle.wasm_operators.specs.Maps.{map_block}
use Rattle.wasm_spec_steps.specs.Machine.{Operand, bottom, bottom_reference, open_reference, known, Kind, Frame, State, map_operand, map_frame, map_state, map_popped, pushed_onto, push_vals, popped, pop_any, as_reference, pop_reference, non_null, same_number, chosen, unreachable_in, become_unreachable, push_frame, set_local, matches_operand, pop_val, pop_vals}
use Rattle.wasm_spec_steps.specs.Renaming.{Renames}
use Rattle.wasm_spec_steps.proofs.Attempts.{bind-map, guard-map}
use Rattle.wasm_spec_steps.proofs.MatchingRenamed.{matches_heap-map, matches_val-map, is_shared_heap-map}

module _ {R S : Type 0} (f : R → S) where
  abbrev pub map_vals : List (Val R) → List (Val S)
  map_vals vs = map (map_val f) vs

  pushed_onto-map : (vs : List (Val R)) (xs : List (Operand R)) → pushed_onto (map_vals vs) (map (map_operand f) xs) ≡ map (map_operand f) (pushed_onto vs xs)
  pushed_onto-map [] xs = refl
  pushed_onto-map (v ∷ vs) xs = pushed_onto-map vs (known v ∷ xs)

  pub push_vals-map : (vs : List (Val R)) (s : State R) → push_vals (map_vals vs) (map_state f s) ≡ map_state f (push_vals vs s)
  push_vals-map vs s = λ i. record (map_state f s) { operands = pushed_onto-map vs s.operands i }

  popped-map : (b u : Bool) (xs : List (Operand R)) (s : State R) → popped b u (map (map_operand f) xs) (map_state f s) ≡ option_map (map_popped f) (popped b u xs s)
  popped-map true true xs s = refl
  popped-map true false xs s = refl
  popped-map false u [] s = refl
  popped-map false u (x ∷ xs) s = refl

  pub pop_any-map : (s : State R) → pop_any (map_state f s) ≡ option_map (map_popped f) (pop_any s)
  pop_any-map s =
      bind-map (map_frame f) (map_popped f) _ _
      (λ x. (λ i. popped (length-map s.operands (map_operand f) i == x.height) x.unreachable (map (map_operand f) s.operands) (map_state f s))
      ∙ popped-map (length s.operands == x.height) x.unreachable s.operands s)
      (slice_get s.frames 0) (slice_get-map (map_frame f) s.frames 0)

  as_reference-map : (x : Operand R) → as_reference (map_operand f x) ≡ option_map (map_operand f) (as_reference x)
  as_reference-map bottom = refl
  as_reference-map bottom_reference = refl
  as_reference-map (open_reference k) = refl
  as_reference-map (known i32) = refl
  as_reference-map (known i64) = refl
  as_reference-map (known f32) = refl
  as_reference-map (known f64) = refl
  as_reference-map (known v128) = refl
  as_reference-map (known (reference r)) = refl

  pub pop_reference-map : (s : State R) → pop_reference (map_state f s) ≡ option_map (map_popped f) (pop_reference s)
  pop_reference-map s =
      bind-map (map_popped f) (map_popped f) _ _ (λ p. bind-map (map_operand f) (map_popped f) _ _ (λ x. refl) (as_reference p.0) (as_reference-map p.0)) (pop_any s) (pop_any-map s)

  pub non_null-map : (x : Operand R) → non_null (map_operand f x) ≡ map_operand f (non_null x)
  non_null-map bottom = refl
  non_null-map bottom_reference = refl
  non_null-map (open_reference k) = refl
  non_null-map (known i32) = refl
  non_null-map (known i64) = refl
  non_null-map (known f32) = refl
  non_null-map (known f64) = refl
  non_null-map (known v128) = refl
  non_null-map (known (reference r)) = refl

  pub same_number-map : (v w : Val R) → same_number (map_val f v) (map_val f w) ≡ same_number v w
  same_number-map i32 i32 = refl
  same_number-map i64 i64 = refl
  same_number-map f32 f32 = refl
  same_number-map f64 f64 = refl
  same_number-map v128 v128 = refl
  same_number-map _ _ = refl

  pub chosen-map : (x y : Operand R) → chosen (map_operand f x) (map_operand f y) ≡ option_map (map_operand f) (chosen x y)
  chosen-map bottom bottom = refl
  chosen-map bottom (known v) = guard-map (map_operand f) (known v) (same_number-map v v) refl
  chosen-map (known v) bottom = guard-map (map_operand f) (known v) (same_number-map v v) refl
  chosen-map (known v) (known w) = guard-map (map_operand f) (known v) (same_number-map v w) refl
  chosen-map _ _ = refl

  unreachable_in-map : (xs : List (Frame R)) (s : State R) → unreachable_in (map (map_frame f) xs) (map_state f s) ≡ option_map (map_state f) (unreachable_in xs s)
  unreachable_in-map [] s = refl
  unreachable_in-map (x ∷ xs) s =
      (λ i. Some (record { operands = drop (length-map s.operands (map_operand f) i - x.height) (map (map_operand f) s.operands); frames = record (map_frame f x) { unreachable = true } ∷ map (map_frame f) xs; inits = s.inits }))
      ∙ (λ i. Some (record { operands = drop-map (map_operand f) (length s.operands - x.height) s.operands i; frames = record (map_frame f x) { unreachable = true } ∷ map (map_frame f) xs; inits = s.inits }))

  pub become_unreachable-map : (s : State R) → become_unreachable (map_state f s) ≡ option_map (map_state f) (become_unreachable s)
  become_unreachable-map s = unreachable_in-map s.frames s

  pub push_frame-map : (k : Kind) (b : Block R) (vs : List (Val R)) (s : State R) → push_frame k (map_block f b) (map_vals vs) (map_state f s) ≡ map_state f (push_frame k b vs s)
  push_frame-map k b vs s =
      (λ i. push_vals (map_vals vs) (record { operands = map (map_operand f) s.operands; frames = record { kind = k; block = map_block f b; height = length-map s.operands (map_operand f) i; unreachable = false; init_height = length s.inits } ∷ map (map_frame f) s.frames; inits = s.inits }))
      ∙ push_vals-map vs (record s { frames = record { kind = k; block = b; height = length s.operands; unreachable = false; init_height = length s.inits } ∷ s.frames })

  pub set_local-map : (b : Bool) (n : ℕ) (s : State R) → set_local b n (map_state f s) ≡ map_state f (set_local b n s)
  set_local-map true n s = refl
  set_local-map false n s = refl

module _ {R S : Type 0} (f : R → S) (W : World R) (V : World S) (h : Renames f W V) where
  matches_operand-map : (x : Operand R) (v : Val R) → matches_operand V (map_operand f x) (map_val f v) ≡ matches_operand W x v
  matches_operand-map bottom v = refl
  matches_operand-map bottom_reference (reference r) = refl
  matches_operand-map bottom_reference i32 = refl
  matches_operand-map bottom_reference i64 = refl
  matches_operand-map bottom_reference f32 = refl
  matches_operand-map bottom_reference f64 = refl
  matches_operand-map bottom_reference v128 = refl
  matches_operand-map (open_reference k) (reference r) =
      (λ i. matches_heap V (abstract_heap (is_shared_heap-map f W V h r.heap i) k) (map_heap f r.heap)) ∙ matches_heap-map f W V h (abstract_heap (is_shared_heap W.declared r.heap) k) r.heap
  matches_operand-map (open_reference k) i32 = refl
  matches_operand-map (open_reference k) i64 = refl
  matches_operand-map (open_reference k) f32 = refl
  matches_operand-map (open_reference k) f64 = refl
  matches_operand-map (open_reference k) v128 = refl
  matches_operand-map (known u) v = matches_val-map f W V h u v

  pop_val-map : (v : Val R) (s : State R) → pop_val V (map_val f v) (map_state f s) ≡ option_map (map_state f) (pop_val W v s)
  pop_val-map v s = bind-map (map_popped f) (map_state f) _ _ (λ p. guard-map (map_state f) p.1 (matches_operand-map p.0 v) refl) (pop_any s) (pop_any-map f s)

  pub pop_vals-map : (vs : List (Val R)) (s : State R) → pop_vals V (map_vals f vs) (map_state f s) ≡ option_map (map_state f) (pop_vals W vs s)
  pop_vals-map [] s = refl
  pop_vals-map (v ∷ vs) s = bind-map (map_state f) (map_state f) _ _ (λ t. pop_val-map v t) (pop_vals W vs s) (pop_vals-map vs s)
