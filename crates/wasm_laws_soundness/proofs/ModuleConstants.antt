-- The constant expressions of a module are typed exactly where the rules type them.
use Rattle.std.proofs.Common.{ℕ, ◌+◌, Bool, length, slice_get, Option, Some, None}
use Rattle.std.specs.Prelude.{IfSome}
use Rattle.wasm_spec.specs.Syntax.{Val, reference, map_ref, map_val}
use Rattle.wasm_spec.specs.BinarySections.{ElementItems, functions, expressions, SegmentMode, passive, active, declarative}
use Rattle.wasm_spec.specs.Features.{Features}
use Rattle.wasm_spec_steps.specs.WasmSpecRules.Contexts.{Context}
use Rattle.wasm_spec_steps.specs.WasmSpecRules.Parts.{Parts, Expression}
use Rattle.wasm_spec_steps.specs.WasmSpecRules.SegmentRules.{index_or_first}
use Rattle.wasm_spec_steps.specs.WasmSpecRules.Worlds.{world_of}
use Rattle.wasm_spec_steps.specs.Meanings.{address}
use Rattle.wasm_spec_validity.specs.Typing.{seeing, around, IsConstant, IsTypedElementMode, AreTypedItems, IsTypedDataMode, HasTypedConstants}
use Rattle.wasm_spec_instructions.specs.ValueTypes.{IsInOrder}
use Rattle.wasm_laws_soundness.specs.ModulesByRules.{IsConstantByRules, IsElementModeByRules, AreItemsByRules, IsDataModeByRules, HasConstantsByRules}
use Rattle.wasm_laws_soundness.proofs.Constants.{constants_are_typed}

if_some : {X : Type 0} (P Q : X → Type 0) (o : Option X) → ((x : X) → P x → Q x) → IfSome o P → IfSome o Q
if_some P Q None f h = tt
if_some P Q (Some x) f h = f x h

module _ {R : Type 0} (same : R → R → Bool) (F : Features) (C : Context R) (imported : ℕ) (at : ℕ → R) (o : IsInOrder (world_of same C)) where
  sound : (visible : ℕ) (v : Val R) (e : Expression) → IsConstant same F C imported visible v e → IsConstantByRules same F C imported visible v e
  sound visible v e h = (constants_are_typed R (world_of same C) (around F (seeing visible C)) imported v e o).0 (h.last, h.is)

  complete : (visible : ℕ) (v : Val R) (e : Expression) → IsConstantByRules same F C imported visible v e → IsConstant same F C imported visible v e
  complete visible v e h = let k = (constants_are_typed R (world_of same C) (around F (seeing visible C)) imported v e o).1 h in record { last = k.0; is = k.1 }

  element_mode-sound : (m : SegmentMode Expression) → IsTypedElementMode same F C imported at m → IsElementModeByRules same F C imported at m
  element_mode-sound passive h = h
  element_mode-sound declarative h = h
  element_mode-sound (active x e) h = if_some _ _ (slice_get C.tables (index_or_first x)) (λ t k. sound (length C.globals) (address t.is_64) e k) h

  element_mode-complete : (m : SegmentMode Expression) → IsElementModeByRules same F C imported at m → IsTypedElementMode same F C imported at m
  element_mode-complete passive h = h
  element_mode-complete declarative h = h
  element_mode-complete (active x e) h = if_some _ _ (slice_get C.tables (index_or_first x)) (λ t k. complete (length C.globals) (address t.is_64) e k) h

  items-sound : (i : ElementItems Expression ℕ) → AreTypedItems same F C imported at i → AreItemsByRules same F C imported at i
  items-sound (functions xs) h = h
  items-sound (expressions r es) h = λ k d l. sound (length C.globals) (reference (map_ref at r)) _ (h k d l)

  items-complete : (i : ElementItems Expression ℕ) → AreItemsByRules same F C imported at i → AreTypedItems same F C imported at i
  items-complete (functions xs) h = h
  items-complete (expressions r es) h = λ k d l. complete (length C.globals) (reference (map_ref at r)) _ (h k d l)

  data_mode-sound : (m : SegmentMode Expression) → IsTypedDataMode same F C imported at m → IsDataModeByRules same F C imported at m
  data_mode-sound passive h = h
  data_mode-sound declarative h = h
  data_mode-sound (active x e) h = if_some _ _ (slice_get C.memories (index_or_first x)) (λ m k. sound (length C.globals) (address m.is_64) e k) h

  data_mode-complete : (m : SegmentMode Expression) → IsDataModeByRules same F C imported at m → IsTypedDataMode same F C imported at m
  data_mode-complete passive h = h
  data_mode-complete declarative h = h
  data_mode-complete (active x e) h = if_some _ _ (slice_get C.memories (index_or_first x)) (λ m k. complete (length C.globals) (address m.is_64) e k) h

  pub constants-sound : (parts : Parts) → HasTypedConstants same F C imported at parts → HasConstantsByRules same F C imported at parts
  constants-sound parts h = record {
    globals = λ i g e. sound (imported + i) (map_val at g.ty.content) g.init (h.globals i g e);
    tables = λ k d l. if_some _ _ _ (λ e x. sound imported _ e x) (h.tables k d l);
    elements = λ k d l. (element_mode-sound _ (h.elements k d l).0, items-sound _ (h.elements k d l).1);
    segments = λ k d l. data_mode-sound _ (h.segments k d l);
  }

  pub constants-complete : (parts : Parts) → HasConstantsByRules same F C imported at parts → HasTypedConstants same F C imported at parts
  constants-complete parts h = record {
    globals = λ i g e. complete (imported + i) (map_val at g.ty.content) g.init (h.globals i g e);
    tables = λ k d l. if_some _ _ _ (λ e x. complete imported _ e x) (h.tables k d l);
    elements = λ k d l. (element_mode-complete _ (h.elements k d l).0, items-complete _ (h.elements k d l).1);
    segments = λ k d l. data_mode-complete _ (h.segments k d l);
  }
