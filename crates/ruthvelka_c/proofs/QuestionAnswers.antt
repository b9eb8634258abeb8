-- What is said to a question, by what is found.
use Rattle.std.proofs.Common.{ℕ, ◌≡◌, Option, subst}
use Rattle.std.specs.declared.alloc.Global.{Global}
use Rattle.wasm_validator_handles.specs.WasmValidator.WasmValidatorTypes.WasmValidatorTypeList.ListViews.{Listing}
use Rattle.ruthvelka_c.specs.Queries.{Says}

-- the same is said of equals
pub says_same :
    {X : Type 0} (P : Listing Global → X → X → Type 0) (a b c d : Option X) (l m : Option (Listing Global)) (answer : ℕ) → a ≡ c → b ≡ d → l ≡ m → Says P a b l answer
    → Says P c d m answer
says_same {X} P a b c d l m answer e f g h =
    subst (λ (a : Option X). Says P a d m answer) e
    (subst (λ (b : Option X). Says P a b m answer) f (subst (λ (l : Option (Listing Global)). Says P a b l answer) g h))
