-- What branches on casts check, and what they send.
use Rattle.std.specs.Prelude.{◌≡◌, ℕ, true, List, [], ◌∷◌, ◌++◌, Option, Some, None, Result, Ok, Err}
use Rattle.wasm_typing_references.specs.WasmSpec.Syntax.{Ref, Val, reference}
use Rattle.wasm_typing_references.specs.WasmSpec.MatchingTests.{World, matches_val}
use Rattle.wasm_typing_references.specs.WasmSpecRules.Contexts.{Context}
use Rattle.wasm_typing_references.specs.WasmReadersTypes.WasmReadersValues.SeenValues.{ref_of}
use Rattle.wasm_typing_references.specs.WasmReadersTypes.WasmReadersValues.declared.indices.UnpackedIndex.{UnpackedIndex}
use Rattle.wasm_typing_references.specs.WasmReadersTypes.WasmReadersValues.declared.values.RefType.{RefType}
use Rattle.wasm_typing_references.specs.WasmTypingChecks.WasmSpecSteps.Actions.{has, gc, allows, may_be_cast, Action, need}
use Rattle.wasm_typing_references.specs.WasmSpecRules.Attempts.{◌>>=◌, guard, last_of, front_of}
use Rattle.wasm_typing_references.specs.WasmTypingChecks.WasmSpecSteps.Machine.{State}
use Rattle.wasm_typing_references.specs.WasmSpecRules.Signatures.{resolve_ref}
use Rattle.wasm_typing_references.specs.WasmTypingChecks.WasmTypingStacks.BodyStacks.{state_of}
use Rattle.wasm_typing_references.specs.WasmTypingChecks.WasmTypingStacks.SeenTypeWords.{val_in}
use Rattle.wasm_typing_references.specs.WasmTypingChecks.WasmTypingStacks.declared.type_word.TypeWord.{TypeWord}
use Rattle.wasm_typing_references.specs.WasmTypingChecks.WasmTypingStacks.declared.stacks.Stacks.{Stacks}
use Rattle.wasm_typing_references.specs.WasmTypingChecks.Steps.{Took, acted, held}
use Rattle.wasm_typing_references.specs.WasmTypingChecks.SeenTypes.{exchanged}
use Rattle.wasm_typing_references.specs.WasmTypingChecks.declared.faults.OperatorFault.{OperatorFault}
use Rattle.wasm_typing_references.specs.WasmTypingChecks.declared.faults.OperatorError.TheVariants.{Refused}

-- a type that is asked for, or none
abbrev pub list_in : Option TypeWord → List (Val UnpackedIndex)
list_in None = []
list_in (Some t) = val_in t ∷ []

-- Where a label takes these types, the last of which a type matches that is sent: the others taken with one above them and these on top,
-- and given with another on top.
unfoldable pub sending : World UnpackedIndex → Option (List (Val UnpackedIndex)) → Val UnpackedIndex → Val UnpackedIndex → List (Val UnpackedIndex) → Val UnpackedIndex → State UnpackedIndex → Option (State UnpackedIndex)
sending W o sent takes above gives s = o >>= λ vs. last_of vs >>= λ w. guard (matches_val W sent w) s >>= exchanged W (front_of vs ++ takes ∷ above) (front_of vs ++ gives ∷ [])

-- two written types, allowed, and the one may be cast to the other; with identities they are these
pub record IsCastable {A : Type 0} (v : Stacks A) (C : Context UnpackedIndex) (r q : Ref ℕ) (a b : Ref UnpackedIndex) : Type 0 where
  pub feature : held v C (has gc) ≡ true
  pub from_allowed : held v C (allows (reference r)) ≡ true
  pub to_allowed : held v C (allows (reference q)) ≡ true
  pub cast : held v C (may_be_cast r q) ≡ true
  pub from_named : Some a ≡ resolve_ref C.types r
  pub to_named : Some b ≡ resolve_ref C.types q

-- the two types with identities; or what begins with these checks is refused
abbrev pub Castable : {A : Type 0} → Result (RefType × RefType) OperatorFault → Stacks A → Context UnpackedIndex → Ref ℕ → Ref ℕ → Type 0
Castable (Ok p) v C r q = IsCastable v C r q (ref_of p.0) (ref_of p.1)
Castable (Err f) v C r q = (rest : List Action) → Took (Err (Refused f)) (acted v C (need (has gc) ∷ need (allows (reference r)) ∷ need (allows (reference q)) ∷ need (may_be_cast r q) ∷ rest)) (state_of v) (state_of v)
