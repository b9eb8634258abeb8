-- What the features don't serve is as what can't be read.
use Rattle.std.proofs.Common.{◌≡◌, refl, Bool, true, false, ℕ, List, Option, Some, None, option_map, ap, sym, subst, ◌∙◌, inl, inr}
use Rattle.std.proofs.lemmas.Option.{none-some}
use Rattle.wasm_spec_steps.specs.WasmSpecRules.WasmSpec.MatchingTests.{World}
use Rattle.wasm_spec_steps.specs.WasmSpecRules.WasmSpec.Features.{Features}
use Rattle.wasm_spec_steps.specs.WasmSpecRules.Attempts.{guard}
use Rattle.wasm_operators.specs.References.{Cast, ref_test, ref_cast, br_on_cast, br_on_cast_fail, ref_get_desc, ref_cast_desc_eq, br_on_cast_desc_eq, br_on_cast_desc_eq_fail}
use Rattle.wasm_operators.specs.Instructions.{Instruction, control, legacy, call, parametric, variable, table, access, memory, constant, numeric, saturating, reference, cast, conversion, structure, array, vector, atomic, wide, shared, continuation}
use Rattle.wasm_operators.specs.Maps.{map_cast, map_instruction}
use Rattle.wasm_spec_steps.specs.Bodies.{Surroundings}
use Rattle.wasm_spec_steps.specs.Machine.{State}
use Rattle.wasm_spec_steps.specs.Steps.{step_in}
use Rattle.wasm_spec_steps.specs.ConstantExpressions.{is_constant}
use Rattle.wasm_operators.specs.WasmOperatorsPlain.WasmReaders.WasmReadersBytes.Reader.{RefusedFrom}
use Rattle.wasm_operators.specs.WasmOperatorsPlain.WasmReaders.WasmReadersBytes.declared.binary_reader.BinaryReader.{BinaryReader}
use Rattle.wasm_operators.specs.WasmOperatorsPlain.WasmReaders.WasmReadersErrors.declared.error.Refusal.{Refusal}
use Rattle.wasm_spec_steps.specs.ServedInstructions.{serves_cast, serves, served}
use Rattle.wasm_spec_steps.proofs.OptInOperators.{unserved_take_none}
use Rattle.wasm_typing_arity.specs.OpcodeRefusals.{RefusedAround}

module _ {R : Type 0} (F : Features) (read : Option (Instruction R × List ℕ)) where
  pub unread : read ≡ None → served F read ≡ None
  unread e = ap (served F) e

  pub unserved : (op : Instruction R) (bs : List ℕ) → read ≡ Some (op, bs) → serves F op ≡ false → served F read ≡ None
  unserved op bs e f = ap (served F) e ∙ ap (λ (b : Bool). guard b (op, bs)) f

-- whatever types are written
same_cast : {R S : Type 0} (F : Features) (f : R → S) (op : Cast R) → serves_cast F (map_cast f op) ≡ serves_cast F op
same_cast F f (ref_test q) = refl
same_cast F f (ref_cast q) = refl
same_cast F f (br_on_cast l r q) = refl
same_cast F f (br_on_cast_fail l r q) = refl
same_cast F f (ref_get_desc x) = refl
same_cast F f (ref_cast_desc_eq q) = refl
same_cast F f (br_on_cast_desc_eq l r q) = refl
same_cast F f (br_on_cast_desc_eq_fail l r q) = refl

same_serving : {R S : Type 0} (F : Features) (f : R → S) (op : Instruction R) → serves F (map_instruction f op) ≡ serves F op
same_serving F f (control op) = refl
same_serving F f (legacy op) = refl
same_serving F f (call op) = refl
same_serving F f (parametric op) = refl
same_serving F f (variable op) = refl
same_serving F f (table op) = refl
same_serving F f (access op m) = refl
same_serving F f (memory op) = refl
same_serving F f (constant op) = refl
same_serving F f (numeric op) = refl
same_serving F f (saturating op) = refl
same_serving F f (reference op) = refl
same_serving F f (cast op) = same_cast F f op
same_serving F f (conversion op) = refl
same_serving F f (structure op) = refl
same_serving F f (array op) = refl
same_serving F f (vector op values) = refl
same_serving F f (atomic op values) = refl
same_serving F f (wide op) = refl
same_serving F f (shared op values) = refl
same_serving F f (continuation op) = refl

-- What isn't served takes no step, and no constant expression has it.
guard_fails : {A : Type 0} (b : Bool) (x : A) → guard b x ≡ None → b ≡ false
guard_fails true x e = absurd (none-some x (sym e))
guard_fails false x e = refl

module _ {S : Type 0} (W : World S) (B : Surroundings S) where
  pub takes_none : {R : Type 0} (f : R → ℕ) (i : Instruction R × List ℕ) → served B.features (Some i) ≡ None → (s : State S) → step_in W B (map_instruction f i.0) s ≡ None
  takes_none f i e s = (unserved_take_none W B).step (map_instruction f i.0) s (same_serving B.features f i.0 ∙ guard_fails (serves B.features i.0) i e)

  pub not_constant : (i : Instruction ℕ × List ℕ) → served B.features (Some i) ≡ None → is_constant B.features i.0 ≡ false
  not_constant i e = (unserved_take_none W B).constant i.0 (guard_fails (serves B.features i.0) i e)

pub served_renamed : {R S : Type 0} (F : Features) (f : R → S) (o : Option (Instruction R × List ℕ)) → served F o ≡ None → served F (option_map (λ i. (map_instruction f i.0, i.1)) o) ≡ None
served_renamed F f None e = refl
served_renamed F f (Some i) e = ap (λ (b : Bool). guard b (map_instruction f i.0, i.1)) (same_serving F f i.0 ∙ guard_fails (serves F i.0) i e)

-- a refusal at the next byte or behind it stays so
pub around : (r : BinaryReader) (given found : Refusal) → RefusedFrom r given → RefusedAround r given found → RefusedFrom r found
around r given found h (inl e) = subst (λ (x : Refusal). RefusedFrom r x) (sym e) h
around r given found h (inr k) = k

pub ruleset reads = (unread, unserved, around)
