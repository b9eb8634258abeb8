-- The distinct types of valid type sections have numbers.
use Rattle.std.proofs.Common.{ap, List, [], ◌∷◌, is_some, IsTrue, All}
use Rattle.std.specs.List.{Contains, AllByRecursion}
use Rattle.std.proofs.lemmas.List.Elements.{All-contains, All-from_recursion, recursion_from_All}
use Rattle.wasm_spec.specs.References.{refs_sub}
use Rattle.wasm_spec.specs.GroupRules.{IsValidType}
use Rattle.wasm_spec.specs.Trees.{DefType, declared}
use Rattle.wasm_laws_core.specs.TypeNumbers.{AcceptedTypesAreNumbered}

each_of : {X : Type 0} (P Q : X → Type 0) → ((x : X) → P x → Q x) → (xs : List X) → AllByRecursion P xs → AllByRecursion Q xs
each_of P Q h [] a = tt
each_of P Q h (x ∷ xs) a = (h x a.0, each_of P Q h xs a.1)

-- what holds of each item of a list that passes from P to Q
pub all_of : {X : Type 0} (P Q : X → Type 0) → ((x : X) → P x → Q x) → (xs : List X) → All P xs → All Q xs
all_of P Q h xs a = All-from_recursion Q xs (each_of P Q h xs (recursion_from_All P xs a))

pub accepted_types_are_numbered : AcceptedTypesAreNumbered
accepted_types_are_numbered F types distinct n accepted first numbers =
    let at : (d : DefType) → Contains distinct d → Contains types d = λ d c. All-contains (Contains types) distinct d first.only c in
    record {
      number = numbers;
      declare = all_of (Contains types) (λ d. IsTrue (is_some (declared d)))
          (λ d c. let v = All-contains (IsValidType F declared) types d accepted.valid c in ap is_some v.declares)
          distinct first.only;
      mention = λ d s c e. all_of (Contains types) (Contains distinct) (λ x b. All-contains (Contains distinct) types x first.all b) (refs_sub s) (accepted.mentioned d s (at d c) e);
    }
