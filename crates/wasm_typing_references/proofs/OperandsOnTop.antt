-- Lists of types, and operands that are given with one more on top.
use Rattle.std.proofs.Common.{◌≡◌, ◌≢◌, ℕ, ◌+◌, ◌-◌, ◌≤◌, List, [], ◌∷◌, ◌++◌, length, take, drop, map, get_or, refl, sym, ◌∙◌, ap, arith, length-append}
use Rattle.std.specs.Prelude.{suc, Some, None}
use Rattle.std.proofs.lemmas.List.{drop-map, length-map, map-append, take-map}
use Rattle.wasm_typing_control.specs.WasmSpec.Syntax.{Val}
use Rattle.wasm_typing_control.specs.WasmReadersTypes.WasmReadersValues.SeenValues.{val_of}
use Rattle.wasm_typing_control.specs.WasmReadersTypes.WasmReadersValues.declared.indices.UnpackedIndex.{UnpackedIndex}
use Rattle.wasm_typing_control.specs.WasmReadersTypes.WasmReadersValues.declared.values.ValType.{ValType}
use Rattle.wasm_typing_control.specs.WasmTypingChecks.WasmSpecRules.Attempts.{last_of, front_of}
use Rattle.wasm_typing_control.specs.WasmTypingChecks.WasmSpecSteps.Machine.{Operand, State, known, pushed_onto, push_operand, push_vals}
use Rattle.wasm_typing_control.specs.WasmTypingChecks.WasmTypingStacks.BodyStacks.{below}
use Rattle.wasm_typing_control.specs.WasmTypingChecks.WasmTypingStacks.SeenOperands.{operand_of}
use Rattle.wasm_typing_control.specs.WasmTypingChecks.WasmTypingStacks.declared.word.Word.{Word}

-- the last of a list, and the others
pub none_last : (vs : List ValType) → length vs ≡ 0 → None ≡ last_of (map val_of vs)
none_last [] e = refl
none_last (v ∷ vs) e = absurd (omega arith)

last_at : (vs : List ValType) (u v : ValType) → Some (val_of (get_or (u ∷ vs) (length vs) v)) ≡ last_of (map val_of (u ∷ vs))
last_at [] u v = refl
last_at (w ∷ ws) u v = last_at ws w v

pub is_last : (vs : List ValType) (n : ℕ) (v : ValType) (x : Val UnpackedIndex) → n ≡ length vs → n ≢ 0 → x ≡ val_of (get_or vs (n - 1) v) → Some x ≡ last_of (map val_of vs)
is_last [] n v x e h f = absurd (h e)
is_last (u ∷ vs) n v x e h f = let q : n - 1 ≡ length vs = omega arith in rw (f, q) (last_at vs u v)

pub none_front : (vs : List ValType) → length vs ≡ 0 → [] ≡ front_of (map val_of vs)
none_front [] e = refl
none_front (v ∷ vs) e = absurd (omega arith)

front_at : (vs : List ValType) (u : ValType) → map val_of (take (length vs) (u ∷ vs)) ≡ front_of (map val_of (u ∷ vs))
front_at [] u = refl
front_at (w ∷ ws) u = ap (λ xs. val_of u ∷ xs) (front_at ws w)

pub is_front : (vs ws : List ValType) (n : ℕ) → n ≡ length vs → n ≢ 0 → ws ≡ take (n - 1) vs → map val_of ws ≡ front_of (map val_of vs)
is_front [] ws n e h f = absurd (h e)
is_front (u ∷ vs) ws n e h f = let q : n - 1 ≡ length vs = omega arith in rw (f, q) (front_at vs u)

pub ruleset lists = (none_last, is_last, none_front, is_front)

-- what is given stands in front
pushed_in_front : (vs : List (Val UnpackedIndex)) (xs ys : List (Operand UnpackedIndex)) → pushed_onto vs (xs ++ ys) ≡ pushed_onto vs xs ++ ys
pushed_in_front [] xs ys = refl
pushed_in_front (v ∷ vs) xs ys = pushed_in_front vs (known v ∷ xs) ys

pushed_length : (vs : List (Val UnpackedIndex)) (xs : List (Operand UnpackedIndex)) → length (pushed_onto vs xs) ≡ length vs + length xs
pushed_length [] xs = omega arith
pushed_length (v ∷ vs) xs = let h = pushed_length vs (known v ∷ xs) in omega arith

front_taken : {X : Type 0} (xs ys : List X) (n : ℕ) → n ≡ length xs → take n (xs ++ ys) ≡ xs
front_taken [] [] n e = rw e refl
front_taken [] (y ∷ ys) n e = rw e refl
front_taken (x ∷ xs) ys n e = rw e (ap (λ zs. x ∷ zs) (front_taken xs ys (length xs) refl))

front_dropped : {X : Type 0} (xs ys : List X) (k : ℕ) → drop (length xs + k) (xs ++ ys) ≡ drop k ys
front_dropped [] ys k = let e : 0 + k ≡ k = omega arith in ap (λ n. drop n ys) e
front_dropped (x ∷ xs) ys k = let e : suc (length xs) + k ≡ suc (length xs + k) = omega arith in rw e (front_dropped xs ys k)

front_sunk : (fs ys : List (Operand UnpackedIndex)) (n k : ℕ) → n ≡ length fs → take n (fs ++ ys) ++ drop (n + k) (fs ++ ys) ≡ fs ++ drop k ys
front_sunk fs ys n k e = rw (e, front_taken fs ys (length fs) refl, front_dropped fs ys k) refl

-- one more on top of what is given, in the place of others below
module _ (vs : List (Val UnpackedIndex)) (x : Operand UnpackedIndex) (old mid last : State UnpackedIndex) (ops ws zs : List Word) where
  all_words : old.operands ≡ map operand_of ops → mid ≡ push_vals vs (below 0 old) → last ≡ push_operand x mid → last.operands ≡ map operand_of ws → map operand_of ws ≡ (x ∷ pushed_onto vs []) ++ map operand_of ops
  all_words e f g h = sym h ∙ ap (λ s. s.operands) g ∙ ap (λ s. x ∷ s.operands) f ∙ ap (λ os. x ∷ pushed_onto vs os) e ∙ ap (λ os. x ∷ os) (pushed_in_front vs [] (map operand_of ops))

  count_words : map operand_of ws ≡ (x ∷ pushed_onto vs []) ++ map operand_of ops → length ws ≡ length (x ∷ pushed_onto vs []) + length ops
  count_words e = sym (length-map ws operand_of) ∙ ap length e ∙ length-append (x ∷ pushed_onto vs []) (map operand_of ops) ∙ ap (λ n. length (x ∷ pushed_onto vs []) + n) (length-map ops operand_of)

  pub given_above : (before : ℕ) → old.operands ≡ map operand_of ops → mid ≡ push_vals vs (below 0 old) → last ≡ push_operand x mid → last.operands ≡ map operand_of ws → before ≡ length ops → before ≤ length ws
  given_above before e f g h b =
      let c = count_words (all_words e f g h) in
      omega arith

  pub given_with : (before given taken : ℕ) → old.operands ≡ map operand_of ops → mid ≡ push_vals vs (below 0 old) → last ≡ push_operand x mid → last.operands ≡ map operand_of ws → before ≡ length ops → given ≡ length ws - before
      → zs ≡ take given ws ++ drop (given + taken) ws → record last { operands = map operand_of zs } ≡ push_operand x (push_vals vs (below taken old))
  given_with before given taken e f g h b n z =
      let a = all_words e f g h in
      let c = count_words a in
      let d : given ≡ length (x ∷ pushed_onto vs []) = omega arith in
      let s : map operand_of zs ≡ x ∷ pushed_onto vs (drop taken old.operands)
      = rw (z, map-append operand_of (take given ws) (drop (given + taken) ws), ← take-map operand_of given ws, ← drop-map operand_of (given + taken) ws, a, front_sunk (x ∷ pushed_onto vs []) (map operand_of ops) given taken d, e)
      (ap (λ os. x ∷ os) (sym (pushed_in_front vs [] (drop taken (map operand_of ops))))) in
      rw (g, f) (ap (λ os. record old { operands = os }) s)

  pub given_within : (before given taken : ℕ) → old.operands ≡ map operand_of ops → mid ≡ push_vals vs (below 0 old) → last ≡ push_operand x mid → last.operands ≡ map operand_of ws → before ≡ length ops → given ≡ length ws - before
      → taken ≤ length old.operands → given + taken ≤ length ws
  given_within before given taken e f g h b n t =
      let a = all_words e f g h in
      let c = count_words a in
      let l = ap length e in
      let k = length-map ops operand_of in
      omega arith

  -- what was given is taken back
  pub taken_back : (before : ℕ) → old.operands ≡ map operand_of ops → mid ≡ push_vals vs (below 0 old) → mid.operands ≡ map operand_of ws → before ≡ length ops → zs ≡ drop (length ws - before) ws → record mid { operands = map operand_of zs } ≡ old
  taken_back before e f h b z =
      let a : map operand_of ws ≡ pushed_onto vs [] ++ map operand_of ops = sym h ∙ ap (λ s. s.operands) f ∙ ap (λ os. pushed_onto vs os) e ∙ pushed_in_front vs [] (map operand_of ops) in
      let c : length ws ≡ length (pushed_onto vs []) + length ops = sym (length-map ws operand_of) ∙ ap length a ∙ length-append (pushed_onto vs []) (map operand_of ops) ∙ ap (λ n. length (pushed_onto vs []) + n) (length-map ops operand_of) in
      let d : length ws - before ≡ length (pushed_onto vs []) + 0 = omega arith in
      let s : map operand_of zs ≡ old.operands = rw (z, ← drop-map operand_of (length ws - before) ws, a, d, front_dropped (pushed_onto vs []) (map operand_of ops) 0, e) refl in
      rw f (ap (λ os. record old { operands = os }) s)

pub ruleset gives = (given_above, given_with, given_within, taken_back)

-- operands that stand where they would be given, with one more on top
pub stays : (s new : State UnpackedIndex) (vs : List (Val UnpackedIndex)) (x : Operand UnpackedIndex) (k n t : ℕ) → n ≤ t → k ≡ t - n → push_vals vs (below (k + n) s) ≡ below k s → new ≡ push_operand x (below k s) → new ≡ push_operand x (push_vals vs (below t s))
stays s new vs x k n t h e f g =
    let q : k + n ≡ t = omega arith in
    g ∙ ap (push_operand x) (sym f ∙ ap (λ j. push_vals vs (below j s)) q)
