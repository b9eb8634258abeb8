-- Branches that are noted one after another, and operators.
use Rattle.std.proofs.Common.{◌≡◌, ◌<◌, refl, sym, ap, ◌∙◌, ℕ, List, [], ◌∷◌, ◌++◌, map, length, Option, Some, None, append_assoc, append-nil, arith}
use Rattle.wasm_spec_rules.specs.Contexts.{Context}
use Rattle.wasm_spec_rules.specs.Attempts.{◌>>=◌}
use Rattle.wasm_readers_types.specs.WasmReadersValues.declared.indices.UnpackedIndex.{UnpackedIndex}
use Rattle.wasm_operators.specs.Instructions.{Instruction}
use Rattle.wasm_operators.specs.SeenLists.{GivesFront}
use Rattle.wasm_operators.specs.declared.operators.Operator.{Operator}
use Rattle.wasm_validator_resources.specs.Answers.{world}
use Rattle.wasm_validator_func.specs.WasmTypingValidator.BodyTyping.{typed_state}
use Rattle.wasm_validator_func.specs.WasmTypingValidator.TypedInstructions.{within}
use Rattle.wasm_validator_func.specs.WasmTypingValidator.declared.validator.OperatorValidator.{OperatorValidator}
use Rattle.wasm_spec_side_tables.specs.declared.entry.Entry.{Entry}
use Rattle.wasm_spec_side_tables.specs.SideTables.{Branch, branches, nesting}
use Rattle.wasm_spec_side_tables.specs.OnePassTables.{Built, planned_each}
use Rattle.wasm_spec_side_tables.proofs.Lists.{the_same, absent, bind-gives, bind-at}
use Rattle.wasm_validator_side_notes.specs.TableViews.{instruction_of, placed, nested_in, planned_one, planned_in, noted_in}

-- a list that is given item by item
module _ {V : Type 0} where
  pub front_given : (xs after : List V) (x : V) → GivesFront xs (Some x) after → xs ≡ x ∷ after
  front_given [] after x h = cc
  front_given (y ∷ xs) after x h = let e : y ≡ x = cc in let f : xs ≡ after = cc in rw (e, f) refl

  pub none_left : (xs after : List V) → GivesFront xs None after → xs ≡ []
  none_left [] after h = refl
  none_left (x ∷ xs) after h = cc

  pub fewer : (xs after : List V) (x : V) → GivesFront xs (Some x) after → length after < length xs
  fewer xs after x h = let e = front_given xs after x h in rw e (omega arith)

module _ {A : Type 0} (C : Context UnpackedIndex) (v : OperatorValidator A) (at : ℕ) where
  pub planned_none : (T : Built) → planned_in C v at [] T ≡ Some T
  planned_none T = ap (λ (xs : List Entry). Some (record { entries = xs; nest = T.nest })) (append-nil T.entries)

  abbrev onto : Built → List Entry → Option Built
  onto T es = Some (record { entries = T.entries ++ es; nest = T.nest })

  abbrev with_one : Built → Entry → Built
  with_one T e = record { entries = T.entries ++ e ∷ []; nest = T.nest }

  abbrev in_front : Entry → List Entry → Option (List Entry)
  in_front e es = Some (e ∷ es)

  alone : (T U : Built) (o : Option Entry) → ((o >>= λ e. in_front e []) >>= onto T) ≡ Some U → (e : Entry) × (o ≡ Some e) × (with_one T e ≡ U)
  alone T U None e = absent U e
  alone T U (Some x) e = (x, refl, the_same (with_one T x) U e)

  -- one branch alone
  pub planned_alone : (b : Branch) (T : Built) (e : Entry) → planned_one C v at b T ≡ Some e → planned_in C v at (b ∷ []) T ≡ Some (with_one T e)
  planned_alone b T e p = ap (λ (o : Option Entry). (o >>= λ x. in_front x []) >>= onto T) p

  behind_one : (T : Built) (x : Entry) (more : Option (List Entry)) → ((more >>= in_front x) >>= onto T) ≡ (more >>= onto (with_one T x))
  behind_one T x None = refl
  behind_one T x (Some es) = ap (λ (xs : List Entry). Some (record { entries = xs; nest = T.nest })) (sym (append_assoc T.entries (x ∷ []) es))

  -- one branch, and then the others
  pub planned_more : (b : Branch) (bs : List Branch) (T U : Built) → planned_in C v at (b ∷ []) T ≡ Some U → planned_in C v at (b ∷ bs) T ≡ planned_in C v at bs U
  planned_more b bs T U e =
      let a = alone T U (planned_one C v at b T) e in
      let more = planned_each (world C) (within v C) (typed_state v) T.nest at bs in
      ap (λ (o : Option Entry). (o >>= λ x. more >>= in_front x) >>= onto T) a.1 ∙ behind_one T a.0 more ∙ ap (λ (V : Built). planned_in C v at bs V) a.2

  -- and one behind all others
  pub planned_last : (bs : List Branch) (b : Branch) (T U : Built) → planned_in C v at bs T ≡ Some U → planned_in C v at (bs ++ b ∷ []) T ≡ planned_in C v at (b ∷ []) U
  planned_last [] b T U e = ap (λ (V : Built). planned_in C v at (b ∷ []) V) (the_same T U (sym (planned_none T) ∙ e))
  planned_last (c ∷ bs) b T U e =
      let p = bind-gives (planned_each (world C) (within v C) (typed_state v) T.nest at (c ∷ bs)) _ U e in
      let q = bind-gives (planned_one C v at c T) _ p.0 p.1 in
      let V : Built = with_one T q.0 in
      let first : planned_in C v at (c ∷ []) T ≡ Some V = ap (λ (o : Option Entry). (o >>= λ x. in_front x []) >>= onto T) q.1 in
      planned_more c (bs ++ b ∷ []) T V first ∙ planned_last bs b V U (sym (planned_more c bs T V first) ∙ e)

  -- lists that are given item by item
  pub goes_on : {X : Type 0} (f : X → Branch) (all : Option Built) (xs after : List X) (x : X) (T U : Built)
      → all ≡ planned_in C v at (map f xs) T → GivesFront xs (Some x) after → planned_in C v at (f x ∷ []) T ≡ Some U → all ≡ planned_in C v at (map f after) U
  goes_on f all xs after x T U e h p = e ∙ ap (λ ys. planned_in C v at (map f ys) T) (front_given xs after x h) ∙ planned_more (f x) (map f after) T U p

  pub is_done : {X : Type 0} (f : X → Branch) (all : Option Built) (xs after : List X) (T : Built) → all ≡ planned_in C v at (map f xs) T → GivesFront xs None after → all ≡ Some T
  is_done f all xs after T e h = e ∙ ap (λ ys. planned_in C v at (map f ys) T) (none_left xs after h) ∙ planned_none T

  -- an instruction: its branches, and what it does to the blocks
  pub noted_by : (behind : ℕ) (i : Instruction ℕ) (T U V : Built) → planned_in C v at (branches i) T ≡ Some U → nested_in (nesting i) behind U ≡ Some V → noted_in C v (record { op = i; at = at; behind = behind }) T ≡ Some V
  noted_by behind i T U V e f =
      let bs = branches i in
      let p = bind-gives (planned_each (world C) (within v C) (typed_state v) T.nest at bs) _ U e in
      let W : Built = record { entries = T.entries ++ p.0; nest = T.nest } in
      let g : nested_in (nesting i) behind W ≡ Some V = ap (λ (X : Built). nested_in (nesting i) behind X) (the_same W U p.2) ∙ f in
      bind-at (planned_each (world C) (within v C) (typed_state v) T.nest at bs) _ p.0 p.1 ∙ g

  pub noted_is : (behind : ℕ) (op : Operator) (T U V : Built) → planned_in C v at (branches (instruction_of op)) T ≡ Some U → nested_in (nesting (instruction_of op)) behind U ≡ Some V → noted_in C v (placed at behind op) T ≡ Some V
  noted_is behind op T U V e f = noted_by behind (instruction_of op) T U V e f

pub ruleset loops = (fewer, goes_on, is_done)

pub ruleset notes = (planned_last, noted_is)
