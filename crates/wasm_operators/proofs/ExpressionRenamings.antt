-- An expression is the same bytes whatever type indices stand for.
use Rattle.std.proofs.Common.{◌≡◌, refl, ap, ◌∙◌, ℕ, zero, suc, List, length, Option, Some, None, option_map}
use Rattle.wasm_operators.specs.Control.{Control, unreachable, nop, else_, end_, throw_ref, return_, block, loop, if_, try_table, throw, br, br_if, br_table}
use Rattle.wasm_operators.specs.Instructions.{Instruction, control, legacy, call, parametric, variable, table, access, memory, constant, numeric, saturating, reference, cast, conversion, structure, array, vector, atomic, wide, shared, continuation, instruction_at}
use Rattle.wasm_operators.specs.Expressions.{nesting_of, nesting_of_control, nesting_of_legacy, depth_after, go_on, behind_from, behind_expression, expression_at}
use Rattle.wasm_operators.specs.Maps.{map_control, map_legacy, map_instruction}
use Rattle.wasm_operators.specs.Legacy.{Legacy, try_, catch_, rethrow, delegate, catch_all}
use Rattle.wasm_operators.specs.Laws.{ReadingIsOfBytes}
use Rattle.wasm_operators.specs.declared.expressions.Nesting.{Nesting}
use Rattle.wasm_operators.proofs.ExpressionFronts.{stepped, cut}
use Rattle.wasm_operators.proofs.Renamings.{instruction-renames}

same_go : (g h : ℕ → Option (List ℕ)) (more : List ℕ) → ((d : ℕ) → g d ≡ h d) → (o : Option ℕ) → go_on g more o ≡ go_on h more o
same_go g h more same (Some d) = same d
same_go g h more same None = refl

module _ {R S : Type 0} (f : R → S) (to : ℕ → R) where
  nesting_of_control-same : (op : Control R) → nesting_of_control (map_control f op) ≡ nesting_of_control op
  nesting_of_control-same unreachable = refl
  nesting_of_control-same nop = refl
  nesting_of_control-same else_ = refl
  nesting_of_control-same end_ = refl
  nesting_of_control-same throw_ref = refl
  nesting_of_control-same return_ = refl
  nesting_of_control-same (block b) = refl
  nesting_of_control-same (loop b) = refl
  nesting_of_control-same (if_ b) = refl
  nesting_of_control-same (try_table b cs) = refl
  nesting_of_control-same (throw x) = refl
  nesting_of_control-same (br l) = refl
  nesting_of_control-same (br_if l) = refl
  nesting_of_control-same (br_table ls l) = refl

  nesting_of_legacy-same : (op : Legacy R) → nesting_of_legacy (map_legacy f op) ≡ nesting_of_legacy op
  nesting_of_legacy-same (try_ b) = refl
  nesting_of_legacy-same (catch_ x) = refl
  nesting_of_legacy-same (rethrow l) = refl
  nesting_of_legacy-same (delegate l) = refl
  nesting_of_legacy-same catch_all = refl

  nesting-same : (i : Instruction R) → nesting_of (map_instruction f i) ≡ nesting_of i
  nesting-same (control op) = nesting_of_control-same op
  nesting-same (legacy op) = nesting_of_legacy-same op
  nesting-same (call op) = refl
  nesting-same (parametric op) = refl
  nesting-same (variable op) = refl
  nesting-same (table op) = refl
  nesting-same (access op m) = refl
  nesting-same (memory op) = refl
  nesting-same (constant op) = refl
  nesting-same (numeric op) = refl
  nesting-same (saturating op) = refl
  nesting-same (reference op) = refl
  nesting-same (cast op) = refl
  nesting-same (conversion op) = refl
  nesting-same (structure op) = refl
  nesting-same (array op) = refl
  nesting-same (vector op i) = refl
  nesting-same (atomic op i) = refl
  nesting-same (wide op) = refl
  nesting-same (shared op i) = refl
  nesting-same (continuation op) = refl

  abbrev renamed : ℕ → S
  renamed n = f (to n)

  step-same : (most depth : ℕ) → ((d : ℕ) (b : List ℕ) → behind_from renamed most d b ≡ behind_from to most d b) → (o : Option (Instruction R × List ℕ))
      → stepped renamed most depth (option_map (λ x. (map_instruction f x.0, x.1)) o) ≡ stepped to most depth o
  step-same most depth same None = refl
  step-same most depth same (Some x) =
      ap (λ (n : Nesting). go_on (λ d. behind_from renamed most d x.1) x.1 (depth_after n depth)) (nesting-same x.0)
      ∙ same_go (λ d. behind_from renamed most d x.1) (λ d. behind_from to most d x.1) x.1 (λ d. same d x.1) (depth_after (nesting_of x.0) depth)

  behind-same : (most depth : ℕ) (bytes : List ℕ) → behind_from renamed most depth bytes ≡ behind_from to most depth bytes
  behind-same zero depth bytes = refl
  behind-same (suc most) depth bytes =
      ap (λ (o : Option (Instruction S × List ℕ)). stepped renamed most depth o) (instruction-renames f to bytes).is
      ∙ step-same most depth (λ d b. behind-same most d b) (instruction_at to bytes)

module _ {R S : Type 0} where
  pub expression_is_of_bytes : ReadingIsOfBytes R S expression_at expression_at
  unfolding expression_at behind_expression
  expression_is_of_bytes f to bytes = ap (λ (o : Option (List ℕ)). option_map (λ r. cut bytes r) o) (behind-same f to (length bytes) 0 bytes)
