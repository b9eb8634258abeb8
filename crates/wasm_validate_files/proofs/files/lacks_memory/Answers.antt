use Rattle.std.proofs.Common.{ℕ, ◌<◌, ◌≤◌, List, length, take, refl, sym, subst, ◌∙◌}
use Rattle.std.specs.Prelude.{Any}
use Rattle.std.specs.List.{All}
use Rattle.std.proofs.lemmas.Bool.{false≢true}
use Rattle.std.proofs.lemmas.List.{take_all}
use Rattle.std.proofs.lemmas.List.Elements.{All-more, All-same}
use Rattle.wasm_validate_files.specs.Answers.{LacksMemory}
use Rattle.wasm_validate_files.proofs.files.lacks_memory.Goals as goal

-- what holds of no element so far holds of none
none_of : {X : Type 0} (P : X → Type 0) (xs : List X) (n : ℕ) → length xs ≤ n → All (λ x. P x → ⊥) (take n xs) → Any P xs → ⊥
none_of P xs n past none (k, x, l, at, p) = All-same (λ x. P x → ⊥) xs (take n xs) (sym (take_all n xs past)) none k x l (subst P (sym at) p)

pub answers-preserved : goal.answers-preserved
answers-preserved g c =
    let here : c.answers.answer-index < length c.args.answers.now = c.answers-test.true in
    All-more (λ r. LacksMemory r → ⊥) c.args.answers.now c.answers.answer-index c.answer-item.result here c.answers.invariant
    (subst (λ r. LacksMemory r → ⊥) c.answer-item.is (λ m. false≢true (sym c.if-is_memory_refusal.false ∙ c.is_memory_refusal.ensures.1 m)))

pub returns-then-is_memory_refusal : goal.returns-then-is_memory_refusal
returns-then-is_memory_refusal g c = (λ t. (c.answers.answer-index, c.answer-item.result, c.answers-test.true, sym c.answer-item.is, c.is_memory_refusal.ensures.0 c.if-is_memory_refusal.true), λ any. refl)

pub returns : goal.returns
returns g c = (λ f. absurd (false≢true f), λ any. absurd (none_of LacksMemory c.args.answers.now c.answers.answer-index c.answers-test.false c.answers.invariant any))
