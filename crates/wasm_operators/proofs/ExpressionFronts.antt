-- An expression stands at the front of the bytes.
use Rattle.std.proofs.Common.{◌≡◌, sym, ap, ◌∙◌, subst, ℕ, zero, suc, ◌-◌, ◌≤◌, List, [], ◌++◌, length, take, Option, Some, None, option_map, append_assoc, length-append, arith}
use Rattle.std.proofs.Math.Seq.{take-append_seam}
use Rattle.std.specs.Option.{option_and_then}
use Rattle.wasm_operators_proposals.specs.WasmOperatorsPlain.WasmSpec.Laws.{ReadingGoesOn, ReadingIgnoresWhatFollows}
use Rattle.wasm_operators_proposals.proofs.WasmOperatorsPlain.WasmSpec.Front.{IsRest, IsRest-trans, Reads}
use Rattle.wasm_operators.specs.Instructions.{Instruction, instruction_at}
use Rattle.wasm_operators.specs.Expressions.{nesting_of, depth_after, go_on, behind_from, behind_expression, expression_at}
use Rattle.wasm_operators.specs.Laws.{ExpressionIsFront}
use Rattle.wasm_operators.proofs.Fronts.{instruction-reads}

same_pair : {V W : Type 0} (x y : V × W) → Some x ≡ Some y → x ≡ y
same_pair x y e = cc

-- the front of what is put together
front_taken : (front rest : List ℕ) → take (length (front ++ rest) - length rest) (front ++ rest) ≡ front
front_taken front rest =
    let size : length (front ++ rest) - length rest ≡ length front = omega (arith, length-append front rest) in
    ap (λ (n : ℕ). take n (front ++ rest)) size ∙ take-append_seam front rest

-- the bytes before these, and these
abbrev pub cut : List ℕ → List ℕ → List ℕ × List ℕ
cut bytes rest = (take (length bytes - length rest) bytes, rest)

-- an expression is what is taken from the front
parts : (bytes : List ℕ) (o : Option (List ℕ)) (x rest : List ℕ) → option_map (λ r. cut bytes r) o ≡ Some (x, rest) → (o ≡ Some rest) × (x ≡ take (length bytes - length rest) bytes)
parts bytes None x rest e = cc
parts bytes (Some r) x rest e =
    let b : List ℕ × List ℕ = (x, rest) in
    let same = same_pair (cut bytes r) b e in
    let right : r ≡ rest = ap (λ (p : List ℕ × List ℕ). p.1) same in
    let left : take (length bytes - length r) bytes ≡ x = ap (λ (p : List ℕ × List ℕ). p.0) same in
    (ap (λ (l : List ℕ). Some l) right, sym left ∙ ap (λ (l : List ℕ). take (length bytes - length l) bytes) right)

front_is : (bytes x rest front : List ℕ) → bytes ≡ front ++ rest → x ≡ take (length bytes - length rest) bytes → x ≡ front
front_is bytes x rest front is e = e ∙ ap (λ (b : List ℕ). take (length b - length rest) b) is ∙ front_taken front rest

module _ {R : Type 0} (to : ℕ → R) where
  -- an expression goes on behind this instruction
  abbrev pub stepped : ℕ → ℕ → Option (Instruction R × List ℕ) → Option (List ℕ)
  stepped most depth o = option_and_then (λ i. go_on (λ d. behind_from to most d i.1) i.1 (depth_after (nesting_of i.0) depth)) o

  -- what is left is a rest, and is left in the second result with more behind
  abbrev Leaves : List ℕ → List ℕ → List ℕ → Option (List ℕ) → Type 0
  Leaves more bytes rest p = IsRest 1 rest bytes × (p ≡ Some (rest ++ more))

  going : (more bytes middle : List ℕ) (m k : ℕ) (o : Option ℕ) (rest : List ℕ) → IsRest 1 middle bytes
      → ((d : ℕ) (r : List ℕ) → behind_from to m d middle ≡ Some r → Leaves more middle r (behind_from to k d (middle ++ more)))
      → go_on (λ d. behind_from to m d middle) middle o ≡ Some rest → Leaves more bytes rest (go_on (λ d. behind_from to k d (middle ++ more)) (middle ++ more) o)
  going more bytes middle m k (Some d) rest h later e = let l = later d rest e in ((IsRest-trans h l.0).0, l.1)
  going more bytes middle m k None rest h later e =
      let same : middle ≡ rest = cc in
      let P : List ℕ → Type 0 = λ r. IsRest 1 r bytes in
      (subst P same h, ap (λ (r : List ℕ). Some (r ++ more)) same)

  step : (more bytes : List ℕ) (m k depth : ℕ) (o p : Option (Instruction R × List ℕ)) (rest : List ℕ) → Reads more 1 bytes o p
      → ((b : List ℕ) (d : ℕ) (r : List ℕ) → behind_from to m d b ≡ Some r → Leaves more b r (behind_from to k d (b ++ more)))
      → stepped m depth o ≡ Some rest → Leaves more bytes rest (stepped k depth p)
  step more bytes m k depth None p rest h later e = cc
  step more bytes m k depth (Some x) p rest h later e =
      let P : Option (Instruction R × List ℕ) → Type 0 = λ q. Leaves more bytes rest (stepped k depth q) in
      subst P (sym h.is.1) (going more bytes x.1 m k (depth_after (nesting_of x.0) depth) rest h.is.0 (later x.1) e)

  leaves : (more : List ℕ) (m k depth : ℕ) (bytes rest : List ℕ) → m ≤ k → behind_from to m depth bytes ≡ Some rest → Leaves more bytes rest (behind_from to k depth (bytes ++ more))
  leaves more zero k depth bytes rest le e = cc
  leaves more (suc m) zero depth bytes rest le e = absurd (omega arith)
  leaves more (suc m) (suc k) depth bytes rest le e =
      step more bytes m k depth (instruction_at to bytes) (instruction_at to (bytes ++ more)) rest (instruction-reads {more = more} to bytes) (λ b d r h. leaves more m k d b r (omega arith) h) e

  pub expression_is_front : ExpressionIsFront (expression_at to)
  unfolding expression_at behind_expression
  expression_is_front bytes x rest e =
      let p = parts bytes (behind_from to (length bytes) 0 bytes) x rest e in
      let l = leaves [] (length bytes) (length (bytes ++ [])) 0 bytes rest (omega (arith, length-append bytes [])) p.0 in
      l.0.is ∙ ap (λ (f : List ℕ). f ++ rest) (sym (front_is bytes x rest l.0.front l.0.is p.1))

  pub expression_goes_on : ReadingGoesOn (expression_at to)
  unfolding expression_at behind_expression
  expression_goes_on bytes x rest e =
      let p = parts bytes (behind_from to (length bytes) 0 bytes) x rest e in
      let l = leaves [] (length bytes) (length (bytes ++ [])) 0 bytes rest (omega (arith, length-append bytes [])) p.0 in
      record { front = l.0.front; is = l.0.is; shorter = omega (arith, ap (λ (b : List ℕ). length b) l.0.is, length-append l.0.front rest, l.0.longer) }

  pub expression_ignores_what_follows : ReadingIgnoresWhatFollows (expression_at to)
  unfolding expression_at behind_expression
  expression_ignores_what_follows bytes more x rest e =
      let p = parts bytes (behind_from to (length bytes) 0 bytes) x rest e in
      let l = leaves more (length bytes) (length (bytes ++ more)) 0 bytes rest (omega (arith, length-append bytes more)) p.0 in
      let is : bytes ++ more ≡ l.0.front ++ (rest ++ more) = ap (λ (b : List ℕ). b ++ more) l.0.is ∙ append_assoc l.0.front rest more in
      let taken : take (length (bytes ++ more) - length (rest ++ more)) (bytes ++ more) ≡ x =
      ap (λ (b : List ℕ). take (length b - length (rest ++ more)) b) is ∙ front_taken l.0.front (rest ++ more) ∙ sym (front_is bytes x rest l.0.front l.0.is p.1)
      in
      ap (λ (o : Option (List ℕ)). option_map (λ r. cut (bytes ++ more) r) o) l.1 ∙ ap (λ (t : List ℕ). Some (t, rest ++ more)) taken
