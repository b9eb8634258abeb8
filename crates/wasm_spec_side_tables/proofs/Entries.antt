-- The table that is made in one pass is the side table.
use Rattle.std.proofs.Common.{◌≡◌, refl, sym, ap, subst, ◌∙◌, ℕ, zero, suc, ◌+◌, ◌≤◌, true, false, List, [], ◌∷◌, ◌++◌, map, length, Option, Some, None, option_map, slice_get, arith, length-append, append_assoc, append-nil}
use Rattle.wasm_spec_steps.specs.WasmSpecRules.WasmSpec.MatchingTests.{World}
use Rattle.wasm_spec_steps.specs.WasmSpecRules.Attempts.{◌>>=◌}
use Rattle.wasm_operators.specs.Control as control
use Rattle.wasm_operators.specs.Control.{Block, Control}
use Rattle.wasm_operators.specs.Legacy as legacy
use Rattle.wasm_operators.specs.Legacy.{Legacy}
use Rattle.wasm_operators.specs.References as references
use Rattle.wasm_operators.specs.References.{Reference, Cast}
use Rattle.wasm_operators.specs.Continuations as continuations
use Rattle.wasm_operators.specs.Continuations.{Continuation}
use Rattle.wasm_operators.specs.WasmOperatorsProposals.declared.continuations.Handle.{Handle}
use Rattle.wasm_operators.specs.WasmOperatorsProposals.declared.continuations.Handle.TheVariants as handle
use Rattle.wasm_spec_steps.specs.WasmSpecRules.WasmSpec.Syntax.{exn_heap, abstract_heap}
use Rattle.wasm_spec_steps.specs.Actions.{OperandTypes, params, of_tag, joined}
use Rattle.wasm_spec_steps.specs.Shapes.{one, nullable_to, reference_to, takes_of}
use Rattle.wasm_operators.specs.Instructions as instruction
use Rattle.wasm_operators.specs.Instructions.{Instruction}
use Rattle.wasm_operators.specs.declared.control.Catch.{Catch}
use Rattle.wasm_spec_steps.specs.Bodies.{Surroundings}
use Rattle.wasm_spec_steps.specs.Machine.{State}
use Rattle.wasm_spec_steps.specs.Steps.{step_in}
use Rattle.wasm_spec_side_tables.specs.declared.entry.Entry.{Entry}
use Rattle.wasm_spec_side_tables.specs.declared.entry.Place.{Place}
use Rattle.wasm_spec_side_tables.specs.declared.entry.OpenBlock.{OpenBlock}
use Rattle.wasm_spec_side_tables.specs.SideTables.{Placed, Branch, to_label, past_then, catching_to, handling_to, catch_label, branches, control_branches, legacy_branches, reference_branches, cast_branches, handle_branches, continuation_branches, Nesting, opens_loop, opens, turns, closes, stays, nesting, control_nesting, legacy_nesting, past, place_past, place_behind, place_behind_then, Label, back_to, ahead, labels_behind, place_by, branch_place, counts, entries_at, entries_from}
use Rattle.wasm_spec_side_tables.specs.OnePassTables.{Nest, Built, opened, nested, number_of, resolved, resolved_each, begun, planned, planned_each, noted, built}
use Rattle.wasm_spec_side_tables.specs.Laws.{TablesAreRight}
use Rattle.wasm_spec_side_tables.proofs.Lists.{the_same, absent, bind-gives, bind-at}
use Rattle.wasm_spec_side_tables.proofs.ClosedBlocks.{Stands, Ends, new_block}
use Rattle.wasm_spec_side_tables.proofs.LabelLinks.{Says, Linked, onward, nests, ends}

-- only what opens a block branches past its first part
abbrev For : Nesting → Branch → Type 0
For k (to_label l t) = Unit {0}
For opens (past_then b) = Unit {0}
For opens_loop (past_then b) = ⊥
For turns (past_then b) = ⊥
For closes (past_then b) = ⊥
For stays (past_then b) = ⊥
For k (catching_to b l) = Unit {0}
For k (handling_to t l) = Unit {0}

abbrev AreFor : Nesting → List Branch → Type 0
AreFor k [] = Unit {0}
AreFor k (b ∷ bs) = For k b × AreFor k bs

for_labels : (k : Nesting) (ls : List ℕ) (l : ℕ) → AreFor k (map (λ n. to_label n 1) ls ++ to_label l 1 ∷ [])
for_labels k [] l = (tt, tt)
for_labels k (n ∷ ls) l = (tt, for_labels k ls l)

for_catches : (k : Nesting) (b : Block ℕ) (cs : List Catch) → AreFor k (map (λ c. catching_to b (catch_label c)) cs)
for_catches k b [] = tt
for_catches k b (c ∷ cs) = (tt, for_catches k b cs)

for_control : (op : Control ℕ) → AreFor (control_nesting op) (control_branches op)
for_control control.unreachable = tt
for_control control.nop = tt
for_control control.else_ = (tt, tt)
for_control control.end_ = tt
for_control control.throw_ref = tt
for_control control.return_ = tt
for_control (control.block b) = tt
for_control (control.loop b) = tt
for_control (control.if_ b) = (tt, tt)
for_control (control.try_table b cs) = for_catches opens b cs
for_control (control.throw x) = tt
for_control (control.br l) = (tt, tt)
for_control (control.br_if l) = (tt, tt)
for_control (control.br_table ls l) = for_labels stays ls l

for_legacy : (op : Legacy ℕ) → AreFor (legacy_nesting op) (legacy_branches op)
for_legacy (legacy.try_ b) = tt
for_legacy (legacy.catch_ x) = (tt, tt)
for_legacy (legacy.rethrow l) = tt
for_legacy (legacy.delegate l) = tt
for_legacy legacy.catch_all = (tt, tt)

for_reference : (op : Reference ℕ) → AreFor stays (reference_branches op)
for_reference (references.ref_null h) = tt
for_reference references.ref_is_null = tt
for_reference references.ref_eq = tt
for_reference references.ref_as_non_null = tt
for_reference (references.ref_func x) = tt
for_reference (references.br_on_null l) = (tt, tt)
for_reference (references.br_on_non_null l) = (tt, tt)

for_cast : (op : Cast ℕ) → AreFor stays (cast_branches op)
for_cast (references.ref_test q) = tt
for_cast (references.ref_cast q) = tt
for_cast (references.br_on_cast l r q) = (tt, tt)
for_cast (references.br_on_cast_fail l r q) = (tt, tt)
for_cast (references.ref_get_desc x) = tt
for_cast (references.ref_cast_desc_eq q) = tt
for_cast (references.br_on_cast_desc_eq l r q) = (tt, tt)
for_cast (references.br_on_cast_desc_eq_fail l r q) = (tt, tt)

for_handles : (t : OperandTypes) (hs : List Handle) → AreFor stays (handle_branches t hs)
for_handles t [] = tt
for_handles t (handle.OnLabel x l ∷ hs) = (tt, for_handles t hs)
for_handles t (handle.OnSwitch x ∷ hs) = for_handles t hs

for_continuation : (op : Continuation) → AreFor stays (continuation_branches op)
for_continuation (continuations.cont_new n) = tt
for_continuation (continuations.cont_bind m n) = tt
for_continuation (continuations.suspend x) = tt
for_continuation (continuations.resume n hs) = for_handles (joined (takes_of n) (one (nullable_to n))) hs
for_continuation (continuations.resume_throw n x hs) = for_handles (joined (params (of_tag x)) (one (nullable_to n))) hs
for_continuation (continuations.resume_throw_ref n hs) = for_handles (joined (one (reference_to true (abstract_heap false exn_heap))) (one (nullable_to n))) hs
for_continuation (continuations.switch n x) = tt

are_for : (i : Instruction ℕ) → AreFor (nesting i) (branches i)
are_for (instruction.control op) = for_control op
are_for (instruction.legacy op) = for_legacy op
are_for (instruction.call op) = tt
are_for (instruction.parametric op) = tt
are_for (instruction.variable op) = tt
are_for (instruction.table op) = tt
are_for (instruction.access op m) = tt
are_for (instruction.memory op) = tt
are_for (instruction.constant op) = tt
are_for (instruction.numeric op) = tt
are_for (instruction.saturating op) = tt
are_for (instruction.reference op) = for_reference op
are_for (instruction.cast op) = for_cast op
are_for (instruction.conversion op) = tt
are_for (instruction.structure op) = tt
are_for (instruction.array op) = tt
are_for (instruction.vector op values) = tt
are_for (instruction.atomic op values) = tt
are_for (instruction.wide op) = tt
are_for (instruction.shared op values) = tt
are_for (instruction.continuation op) = for_continuation op

-- the number of a label is that of its block
map-gives : {A B : Type 0} (f : A → B) (o : Option A) (b : B) → option_map f o ≡ Some b → (a : A) × (o ≡ Some a) × (f a ≡ b)
map-gives f None b e = absent b e
map-gives f (Some a) b e = (a, refl, the_same (f a) b e)

module _ (ps : List Place) (os : List OpenBlock) (ls : List Label) (rest thens : ℕ → Option Place) (P : List Place) where
  place_is : (l : ℕ) (o : OpenBlock) (x : Label) → Ends ps os rest thens P → slice_get os l ≡ Some o → Says ps o x → slice_get P o.label ≡ place_by (rest l) x
  place_is l o (back_to p) e g h = e.loops l o g h.0 ∙ h.1
  place_is l o ahead e g h = e.others l o g h

  label_is : (l m : ℕ) → Ends ps os rest thens P → Linked ls ps os → option_map (λ (o : OpenBlock). o.label) (slice_get os l) ≡ Some m → slice_get P m ≡ (slice_get ls l >>= place_by (rest l))
  label_is l m e k h =
      let g = map-gives (λ (o : OpenBlock). o.label) (slice_get os l) m h in
      let x = k l g.0 g.1 in
      ap (λ (j : ℕ). slice_get P j) (sym g.2) ∙ place_is l g.0 x.0 e g.1 x.2 ∙ sym (bind-at (slice_get ls l) (place_by (rest l)) x.0 x.1)

-- the second number of a block that opens
then_is : (k : Nesting) (p : Place) (N M : Nest) (rest thens : ℕ → Option Place) (P : List Place) (b : Block ℕ) (m : ℕ) → nested k p N ≡ Some M → For k (past_then b) → Ends M.places M.open_blocks rest thens P → Some (length N.places + 1) ≡ Some m → slice_get P m ≡ thens zero
then_is opens p N M rest thens P b m e f h g =
    let q = subst (λ (x : Nest). Ends x.places x.open_blocks rest thens P) (sym (the_same (opened false p N) M e)) h in
    ap (λ (j : ℕ). slice_get P j) (sym (the_same (length N.places + 1) m g)) ∙ q.elses zero (new_block false N.places) refl refl refl
then_is opens_loop p N M rest thens P b m e f h g = absurd f
then_is turns p N M rest thens P b m e f h g = absurd f
then_is closes p N M rest thens P b m e f h g = absurd f
then_is stays p N M rest thens P b m e f h g = absurd f

abbrev entry : ℕ → Place → ℕ × ℕ → Entry
entry at p c = record { at = at; target = p.offset; next = p.next; kept = c.0; dropped = c.1 }

glue :
    (at : ℕ) (bp : Option Place) (cs : Option (ℕ × ℕ)) (c : ℕ × ℕ) (rs es : Option (List Entry)) → cs ≡ Some c → rs ≡ es
    → ((bp >>= λ p. Some (entry at p c)) >>= λ x. rs >>= λ xs. Some (x ∷ xs)) ≡ (bp >>= λ p. cs >>= λ d. es >>= λ xs. Some (entry at p d ∷ xs))
glue at None cs c rs es e f = refl
glue at (Some p) cs c rs es e f = ap (λ xs. xs >>= λ ys. Some (entry at p c ∷ ys)) f ∙ sym (ap (λ ds. ds >>= λ d. es >>= λ xs. Some (entry at p d ∷ xs)) e)

pub resolved-append : (P : List Place) (es fs : List Entry) → resolved_each P (es ++ fs) ≡ (resolved_each P es >>= λ xs. resolved_each P fs >>= λ ys. Some (xs ++ ys))
resolved-append P [] fs = go (resolved_each P fs)
  where
    go : (o : Option (List Entry)) → o ≡ (o >>= λ ys. Some ys)
    go None = refl
    go (Some ys) = refl
resolved-append P (e ∷ es) fs = ap (λ o. resolved P e >>= λ x. o >>= λ xs. Some (x ∷ xs)) (resolved-append P es fs) ∙ go (resolved P e) (resolved_each P es) (resolved_each P fs)
  where
    go :
        (o : Option Entry) (r q : Option (List Entry))
        → (o >>= λ x. (r >>= λ xs. q >>= λ ys. Some (xs ++ ys)) >>= λ xs. Some (x ∷ xs)) ≡ ((o >>= λ x. r >>= λ xs. Some (x ∷ xs)) >>= λ xs. q >>= λ ys. Some (xs ++ ys))
    go None r q = refl
    go (Some x) None q = refl
    go (Some x) (Some xs) None = refl
    go (Some x) (Some xs) (Some ys) = refl

module _ {R : Type 0} (W : World R) (B : Surroundings R) where
  -- the entries of one instruction
  planned-resolved :
      (s : State R) (N : Nest) (P : List Place) (ls : List Label) (n : ℕ) (i : Placed) (is : List Placed) (k : Nesting)
      → ((b : Branch) (m : ℕ) → For k b → number_of N b ≡ Some m → slice_get P m ≡ branch_place ls n i is b)
      → (bs : List Branch) (es : List Entry) → AreFor k bs → planned_each W B s N i.at bs ≡ Some es → resolved_each P es ≡ entries_at W B s ls n i is bs
  planned-resolved s N P ls n i is k h [] es f e = ap (λ xs. resolved_each P xs) (sym (the_same [] es e))
  planned-resolved s N P ls n i is k h (b ∷ bs) es f e =
      let p = bind-gives (planned W B s N i.at b) _ es e in
      let q = bind-gives (planned_each W B s N i.at bs) _ es p.2 in
      let m = bind-gives (number_of N b) _ p.0 p.1 in
      let c = bind-gives (counts W B s b) _ p.0 m.2 in
      let x : Entry = record { at = i.at; target = m.0; next = 0; kept = c.0.0; dropped = c.0.1 } in
      let same : x ∷ q.0 ≡ es = ap (λ (y : Entry). y ∷ q.0) (the_same x p.0 c.2) ∙ the_same (p.0 ∷ q.0) es q.2 in
      ap (λ xs. resolved_each P xs) (sym same)
      ∙ ap (λ o. (o >>= λ y. Some (entry i.at y c.0)) >>= λ y. resolved_each P q.0 >>= λ ys. Some (y ∷ ys)) (h b m.0 f.0 m.1)
      ∙ glue i.at (branch_place ls n i is b) (counts W B s b) c.0 (resolved_each P q.0) (entries_at W B s ls n i is bs) c.1 (planned-resolved s N P ls n i is k h bs q.0 f.1 q.1)

  length-planned : (s : State R) (N : Nest) (at : ℕ) (bs : List Branch) (es : List Entry) → planned_each W B s N at bs ≡ Some es → length es ≡ length bs
  length-planned s N at [] es e = ap length (sym (the_same [] es e))
  length-planned s N at (b ∷ bs) es e =
      let p = bind-gives (planned W B s N at b) _ es e in
      let q = bind-gives (planned_each W B s N at bs) _ es p.2 in
      ap length (sym (the_same (p.0 ∷ q.0) es q.2)) ∙ ap suc (length-planned s N at bs q.0 q.1)

  record Noted (s : State R) (i : Placed) (T U : Built) (n : ℕ) : Type 0 where
    pub es : List Entry
    pub are : planned_each W B s T.nest i.at (branches i.op) ≡ Some es
    pub nests_on : nested (nesting i.op) (place_past n i) T.nest ≡ Some U.nest
    pub entries : U.entries ≡ T.entries ++ es
    pub count : past n i ≡ length U.entries

  noting : (s : State R) (i : Placed) (T U : Built) (n : ℕ) → n ≡ length T.entries → noted W B s i T ≡ Some U → Noted s i T U n
  noting s i T U n l e =
      let p = bind-gives (planned_each W B s T.nest i.at (branches i.op)) _ U e in
      let q = bind-gives (nested (nesting i.op) (record { offset = i.behind; next = length (T.entries ++ p.0) }) T.nest) _ U p.2 in
      let same = the_same (record { entries = T.entries ++ p.0; nest = q.0 }) U q.2 in
      let count : length (T.entries ++ p.0) ≡ past n i = length-append T.entries p.0 ∙ ap (λ (k : ℕ). length T.entries + k) (length-planned s T.nest i.at (branches i.op) p.0 p.1) ∙ ap (λ (k : ℕ). k + length (branches i.op)) (sym l) in
      let there : nested (nesting i.op) (place_past n i) T.nest ≡ Some q.0 = ap (λ (k : ℕ). nested (nesting i.op) (record { offset = i.behind; next = k }) T.nest) (sym count) ∙ q.1 in
      record {
        es = p.0;
        are = p.1;
        nests_on = there ∙ ap (λ (x : Built). Some x.nest) same;
        entries = ap (λ (x : Built). x.entries) (sym same);
        count = sym count ∙ ap (λ (x : Built). length x.entries) same;
      }

  built-nests : (is : List Placed) (s t : State R) (T U : Built) (n : ℕ) → n ≡ length T.entries → built W B s T is ≡ Some (t, U) → nests n is T.nest ≡ Some U.nest
  built-nests [] s t T U n l e = ap (λ (x : State R × Built). Some x.1.nest) (the_same (s, T) (t, U) e)
  built-nests (i ∷ is) s t T U n l e =
      let p = bind-gives (noted W B s i T) _ (t, U) e in
      let q = bind-gives (step_in W B i.op s) _ (t, U) p.2 in
      let h = noting s i T p.0 n l p.1 in
      bind-at (nested (nesting i.op) (place_past n i) T.nest) (nests (past n i) is) p.0.nest h.nests_on ∙ built-nests is q.0 t p.0 U (past n i) h.count q.2

  record Right (s : State R) (ls : List Label) (T U : Built) (n : ℕ) (is : List Placed) : Type 0 where
    pub es : List Entry
    pub entries : U.entries ≡ T.entries ++ es
    pub right : resolved_each U.nest.places es ≡ entries_from W B s ls n is

  all_right :
      (is : List Placed) (s t : State R) (T U : Built) (ls : List Label) (n : ℕ) → n ≡ length T.entries → built W B s T is ≡ Some (t, U) → U.nest.open_blocks ≡ []
      → Stands (length T.nest.places) T.nest.open_blocks → Linked ls T.nest.places T.nest.open_blocks → Right s ls T U n is
  all_right [] s t T U ls n l e o st ln = record { es = []; entries = ap (λ (x : State R × Built). x.1.entries) (sym (the_same (s, T) (t, U) e)) ∙ sym (append-nil T.entries); right = refl }
  all_right (i ∷ is) s t T U ls n l e o st ln =
      let p = bind-gives (noted W B s i T) _ (t, U) e in
      let q = bind-gives (step_in W B i.op s) _ (t, U) p.2 in
      let h = noting s i T p.0 n l p.1 in
      let k = nesting i.op in
      let on = onward (place_past n i) T.nest.places k ls T.nest.open_blocks p.0.nest h.nests_on st ln in
      let more = all_right is q.0 t p.0 U (labels_behind k (place_past n i) ls) (past n i) h.count q.2 o on.stands on.linked in
      let after = ends is (past n i) p.0.nest U.nest (labels_behind k (place_past n i) ls) (built-nests is q.0 t p.0 U (past n i) h.count q.2) o on.stands on.linked in
      let here = ends (i ∷ is) n T.nest U.nest ls (built-nests (i ∷ is) s t T U n l e) o st ln in
      let first = planned-resolved s T.nest U.nest.places ls n i is k (reaches p.0.nest k after here h.nests_on) (branches i.op) h.es (are_for i.op) h.are in
      record {
        es = h.es ++ more.es;
        entries = more.entries ∙ ap (λ xs. xs ++ more.es) h.entries ∙ append_assoc T.entries h.es more.es;
        right =
            resolved-append U.nest.places h.es more.es
            ∙ ap (λ r. r >>= λ xs. resolved_each U.nest.places more.es >>= λ ys. Some (xs ++ ys)) first
            ∙ ap (λ r. entries_at W B s ls n i is (branches i.op) >>= λ xs. r >>= λ ys. Some (xs ++ ys)) more.right
            ∙ ap (λ r. entries_at W B s ls n i is (branches i.op) >>= λ xs. r >>= λ u. entries_from W B u (labels_behind k (place_past n i) ls) (past n i) is >>= λ ys. Some (xs ++ ys)) (sym q.1);
      }
    where
      reaches :
          (M : Nest) (k : Nesting)
          → Ends M.places M.open_blocks (place_behind is (past n i)) (place_behind_then is (past n i)) U.nest.places
          → Ends T.nest.places T.nest.open_blocks (place_behind (i ∷ is) n) (place_behind_then (i ∷ is) n) U.nest.places
          → nested k (place_past n i) T.nest ≡ Some M
          → (b : Branch) (m : ℕ) → For k b → number_of T.nest b ≡ Some m → slice_get U.nest.places m ≡ branch_place ls n i is b
      reaches M k after here g (to_label d taken) m f h = label_is T.nest.places T.nest.open_blocks ls (place_behind (i ∷ is) n) (place_behind_then (i ∷ is) n) U.nest.places d m here ln h
      reaches M k after here g (past_then b) m f h = then_is k (place_past n i) T.nest M (place_behind is (past n i)) (place_behind_then is (past n i)) U.nest.places b m g f after h
      reaches M k after here g (catching_to b d) m f h = label_is T.nest.places T.nest.open_blocks ls (place_behind (i ∷ is) n) (place_behind_then (i ∷ is) n) U.nest.places d m here ln h
      reaches M k after here g (handling_to t d) m f h = label_is T.nest.places T.nest.open_blocks ls (place_behind (i ∷ is) n) (place_behind_then (i ∷ is) n) U.nest.places d m here ln h

-- at the start
none_open : (d : ℕ) (o : OpenBlock) → ◌≡◌ {A = Option OpenBlock} (slice_get [] d) (Some o) → ⊥
none_open d o g = absent o g

module _ where
  abbrev first_block : OpenBlock
  first_block = record { label = 0; other = 1; is_loop = false }

  is_first : (d : ℕ) (o : OpenBlock) → slice_get (first_block ∷ []) d ≡ Some o → (d ≡ 0) × (first_block ≡ o)
  is_first zero o g = (refl, the_same first_block o g)
  is_first (suc d) o g = absurd (none_open d o g)

  stands_first : Stands 2 (first_block ∷ [])
  stands_first = record {
    low = λ d o g. subst (λ (q : OpenBlock). q.label + 2 ≤ 2) (is_first d o g).1 (omega arith);
    least = λ d o g. subst (λ (q : OpenBlock). q.label ≤ q.other) (is_first d o g).1 (omega arith);
    most = λ d o g. subst (λ (q : OpenBlock). q.other ≤ q.label + 1) (is_first d o g).1 (omega arith);
    apart = λ d e o q h g k. let x = (is_first d o g).0 in let y = (is_first e q k).0 in absurd (omega arith);
  }

  linked_first : (ps : List Place) → Linked (ahead ∷ []) ps (first_block ∷ [])
  linked_first ps zero o g = (ahead, refl, sym (ap (λ (q : OpenBlock). q.is_loop) (the_same first_block o g)))
  linked_first ps (suc d) o g = absurd (none_open d o g)

pub tables_are_right : (R : Type 0) → TablesAreRight R
tables_are_right R W B s t is T e o =
    let r = all_right W B is s t begun T (ahead ∷ []) 0 refl e o stands_first (linked_first begun.nest.places) in
    ap (λ xs. resolved_each T.nest.places xs) r.entries ∙ r.right
