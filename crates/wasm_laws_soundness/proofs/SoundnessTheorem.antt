-- Typed code is never stuck: by induction on the number of steps, and within it on the typing.
use Rattle.std.proofs.Common.{◌≡◌, refl, sym, ap, subst, ◌∙◌, ℕ, zero, suc, true, false, ◌==◌, List, [], ◌∷◌, ◌++◌, append_assoc, Option, Some, option_map, length, slice_get}
use Rattle.std.proofs.lemmas.Bool.{eqb-true}
use Rattle.wasm_spec_steps.specs.WasmSpecRules.WasmSpec.Syntax.{Val}
use Rattle.wasm_spec_steps.specs.WasmSpecRules.WasmSpec.MatchingTests.{World}
use Rattle.wasm_spec_steps.specs.WasmSpecRules.Attempts.{◌>>=◌, passes}
use Rattle.wasm_spec_steps.specs.WasmSpecRules.Signatures.{Signature}
use Rattle.wasm_operators.specs.Control.{Block, empty_block, value_block, func_block}
use Rattle.wasm_operators.specs.declared.control.Catch.{Catch}
use Rattle.wasm_operators.specs.declared.control.Catch.TheVariants as catch
use Rattle.wasm_spec_steps.specs.Bodies.{Surroundings}
use Rattle.wasm_spec_steps.specs.Matching.{matches_vals}
use Rattle.wasm_spec_steps.specs.Actions.{of_tag, params, label, joined, OperandTypes, each_matches, is_exception}
use Rattle.wasm_spec_steps.specs.Shapes.{nothing, exception, block_checks, catch_checks}
use Rattle.wasm_spec_steps.specs.Meanings.{signature_at, resolve_block, block_signature}
use Rattle.wasm_spec_instructions.specs.Code.{Opening, a_block, a_loop, an_if, a_try, a_try_table, a_catch, a_catch_all, Code, done, simply, enclosing, choosing_between, handling, delegating_to, Handlers, and_then, block_of}
use Rattle.wasm_spec_instructions.specs.ValueTypes.{ValueType, val, vals, reference_at, Match}
use Rattle.wasm_spec_instructions.specs.Scopes.{Scope, types_in, AllHold}
use Rattle.wasm_spec_instructions.specs.Sequences.{Opens, Typed, empty_rule, instruction_rule, block_rule, loop_rule, if_rule, if_else_rule, try_table_rule, try_rule, handling_rule, delegating_rule, sequence_rule, frame_rule, subsumption_rule, Handle, last_rule, before_rule}
use Rattle.wasm_spec_instructions.proofs.Attempts.{the_same, bind-at, passes-gives}
use Rattle.wasm_spec_instructions.proofs.OperandFits.{vals-append, true-match}
use Rattle.wasm_laws_soundness.specs.Values.{Value, exception_at, Instance, Exception, Store, exception_heap, is_exception as is_thrown, HaveTypes, no_values, and_value}
use Rattle.wasm_laws_soundness.specs.Outcomes.{State, branches, throws, stuck, Outcome, falls_through, leaves, Primitives, with_top, either, holding, next, label as labelled, again_from, handed, in_block, in_either, catching}
use Rattle.wasm_laws_soundness.specs.StoreValidity.{Carries, IsTypedException, Fits, branching, returning, throwing, calling, rethrowing, delegating, trapping, waiting, IsPromised, falling, leaving}
use Rattle.wasm_laws_soundness.proofs.Values.{long, types-match, above-match, types-append, types-length, types-grow}
use Rattle.wasm_laws_soundness.proofs.Outcomes.{with_top-promised, on_some-promised, either-promised, fits-with, fits-now, promised-since, next-promised, alone, later, lesser, label-promised, in_block-promised, in_either-promised, catching-promised, again_from-promised, handed-promised}
use Rattle.wasm_laws_soundness.specs.Interpreter.{Task, does, step, if_tag, caught, with_signature, enter, exec, handle, run}
use Rattle.wasm_laws_soundness.specs.Laws.{AreSound, Soundness, NeverStuck, FunctionsAreSound, HeightsAreAsTyped}
use Rattle.wasm_laws_soundness.proofs.Steps.{Sound, invoke-promised, steps}

-- code in a row
next-next : {R : Type 0} (f g : State R → Outcome R) (o : Outcome R) → next g (next f o) ≡ next (λ t. next g (f t)) o
next-next f g (falls_through s) = refl
next-next f g (leaves e) = refl

module _ {R : Type 0} (W : World R) (P : Primitives R) (again : Task R → State R → Outcome R) (B : Surroundings R) (I : Instance) where
  abbrev doing : Code → State R → Outcome R
  doing c s = exec W P again B I c s

  -- and behind it other code
  more :
      (c d : Code) (o : Outcome R) → ((t : State R) → doing (and_then c d) t ≡ next (λ u. doing d u) (doing c t))
      → next (λ t. doing (and_then c d) t) o ≡ next (λ t. doing d t) (next (λ t. doing c t) o)
  more c d o k = (λ j. next (λ t. k t j) o) ∙ sym (next-next (λ t. doing c t) (λ t. doing d t) o)

  in_a_row : (c d : Code) (s : State R) → exec W P again B I (and_then c d) s ≡ next (λ t. exec W P again B I d t) (exec W P again B I c s)
  in_a_row done d s = refl
  in_a_row (simply i c) d s = more c d (step W P again B I i s) (λ t. in_a_row c d t)
  in_a_row (enclosing o b c) d s = more c d (enter W P again B I o b (λ t. doing b t) s) (λ t. in_a_row c d t)
  in_a_row (choosing_between b e f c) d s =
      more c d (with_signature W P again B I b (λ g. in_either g (λ t. doing e t) (λ t. doing f t) s)) (λ t. in_a_row c d t)
  in_a_row (handling b e hs c) d s =
      more c d
      (with_signature W P again B I b
      (λ g. with_top (length g.takes) s.operands
      (λ below top. catching (λ a t e. handle W P again B I hs (length g.gives) below a t e)
      (labelled falls_through (length g.gives) below (doing e (holding top s))))))
      (λ t. in_a_row c d t)
  in_a_row (delegating_to l b e c) d s = more c d (handed l (with_signature W P again B I b (λ g. in_block g (λ t. doing e t) s))) (λ t. in_a_row c d t)

module _ {R : Type 0} (W : World R) (P : Primitives R) (a : AreSound W P) (again : Task R → State R → Outcome R) (sound : Sound W P again)
    (B : Surroundings R) (I : Instance) where
  abbrev Q : Store R → Scope R → List ℕ → List (ValueType R) → Outcome R → Type 0
  Q S C xs us o = IsPromised W P B I S C xs us o

  -- a block type that is valid
  signed-promised :
      (F : Outcome R → Type 0) (b : Block ℕ) (g : Signature R) (k : Signature R → Outcome R)
      → (resolve_block B.context.types b >>= block_signature W B) ≡ Some g → F (k g) → F (with_signature W P again B I b k)
  signed-promised F b g k e h = on_some-promised F k (resolve_block B.context.types b >>= block_signature W B) g e h

  -- an exception with the tag of a clause has values of the tag's types
  tagged-promised :
      {S : Store R} {C : Scope R} {us : List (ValueType R)} (x : ℕ) (g : Signature R) (e : Exception R) (s : State R)
      (o p : Outcome R) (left : List (ValueType R))
      → signature_at W B (of_tag x) ≡ Some g
      → IsTypedException W s.store e → Fits W P B I S C.sets left s → (HaveTypes W s.store e.values (vals g.takes) → Q S C [] us o) → Q S C [] us p
      → Q S C [] us (if_tag W P again B I x e o p)
  tagged-promised {S = S} {C = C} {us = us} x g e s o p left w t h f q =
      let c : Carries W s.store I x g.takes = h.instance.tags x g w in
      on_some-promised (Q S C [] us) (λ t. either (t == e.tag) o p) (slice_get I.tags x) c.address c.known
      (either-promised (Q S C [] us) (c.address == e.tag) o p
      (λ m. f (subst (λ (z : List (Val R)). HaveTypes W s.store e.values (vals z))
      (the_same t.types g.takes (sym t.tagged ∙ ap (slice_get s.store.tags) (sym (eqb-true c.address e.tag m)) ∙ c.there)) t.values))
      (λ m. q))

  -- clauses: what they give matches their label
  matching :
      (C : Scope R) (t : OperandTypes) (l : ℕ) (ts : List (Val R)) → types_in W B C.labels C.returns t ≡ Some ts → AllHold W B C (each_matches t (label l) ∷ [])
      → (ls : List (Val R)) × (slice_get C.labels l ≡ Some ls) × Match W (vals ts) (vals ls)
  matching C t l ts e h =
      let m : passes (matches_vals W ts) (slice_get C.labels l) ≡ true =
      ap (λ (o : Option (List (Val R))). passes (λ (vs : List (Val R)). passes (matches_vals W vs) (slice_get C.labels l)) o) (sym e) ∙ h.0 in
      let k = passes-gives (matches_vals W ts) (slice_get C.labels l) m in
      (k.0, k.1, true-match W ts k.0 k.2)

  -- the tag of a clause
  tag_of :
      (C : Scope R) (x : ℕ) → AllHold W B C (is_exception x ∷ [])
      → (g : Signature R) × (signature_at W B (of_tag x) ≡ Some g) × (types_in W B C.labels C.returns (params (of_tag x)) ≡ Some g.takes)
  tag_of C x h =
      let k = passes-gives (λ (g : Signature R). length g.gives == 0) (signature_at W B (of_tag x)) h.0 in
      (k.0, k.1, ap (λ (o : Option (Signature R)). option_map (λ (g : Signature R). g.takes) o) k.1)

  clauses-hold : (C : Scope R) (b : Block ℕ) (cs : List Catch) → AllHold W B C (block_checks b ++ catch_checks cs) → AllHold W B C (catch_checks cs)
  clauses-hold C empty_block cs h = h
  clauses-hold C (value_block v) cs h = h.1
  clauses-hold C (func_block n) cs h = h.1.1

  has-exception :
      {S : Store R} (x : ℕ) (e : Exception R) → slice_get S.exceptions x ≡ Some e
      → HaveTypes W S (exception_at x ∷ []) (val (reference_at false exception_heap) ∷ [])
  has-exception x e i = and_value (is_thrown e i (a.in_order.itself exception_heap)) no_values

  caught-promised :
      {S : Store R} {C : Scope R} {us : List (ValueType R)} (cs : List Catch) (x : ℕ) (s : State R) (e : Exception R) (left : List (ValueType R))
      → AllHold W B C (catch_checks cs)
      → slice_get s.store.exceptions x ≡ Some e → Fits W P B I S C.sets left s → Q S C [] us (caught W P again B I cs x s e)
  caught-promised [] x s e left m i h = leaving (throwing e left i h)
  caught-promised {C = C} (catch.One y l ∷ cs) x s e left m i h =
      let g = tag_of C y (m.0, tt) in
      let k = matching C (params (of_tag y)) l g.0.takes g.2 (m.1.0, tt) in
      tagged-promised y g.0 e s (leaves (branches l (holding e.values s))) (caught W P again B I cs x s e) left g.1 (h.store.exceptions x e i) h
      (λ q. leaving (branching k.0 [] k.1 (fits-with W P B I e.values h (types-match W a.in_order s.store q k.2)))) (caught-promised cs x s e left m.1.1 i h)
  caught-promised {C = C} (catch.OneRef y l ∷ cs) x s e left m i h =
      let g = tag_of C y (m.0, tt) in
      let k =
      matching C (joined (params (of_tag y)) exception) l (g.0.takes ++ reference_at false exception_heap ∷ [])
      (bind-at (λ (vs : List (Val R)). Some (vs ++ reference_at false exception_heap ∷ [])) g.2 refl) (m.1.0, tt) in
      tagged-promised y g.0 e s (leaves (branches l (holding (e.values ++ exception_at x ∷ []) s))) (caught W P again B I cs x s e) left g.1
      (h.store.exceptions x e i) h
      (λ q. leaving (branching k.0 [] k.1
      (fits-with W P B I (e.values ++ exception_at x ∷ []) h
      (types-match W a.in_order s.store
      (subst (λ (z : List (ValueType R)). HaveTypes W s.store (e.values ++ exception_at x ∷ []) z)
      (sym (vals-append g.0.takes (reference_at false exception_heap ∷ []))) (types-append q (has-exception x e i))) k.2))))
      (caught-promised cs x s e left m.1.1 i h)
  caught-promised {C = C} (catch.All l ∷ cs) x s e left m i h =
      let k = matching C nothing l [] refl (m.0, tt) in leaving (branching k.0 [] k.1 (fits-with W P B I [] h (types-match W a.in_order s.store no_values k.2)))
  caught-promised {C = C} (catch.AllRef l ∷ cs) x s e left m i h =
      let k = matching C exception l (reference_at false exception_heap ∷ []) refl (m.0, tt) in
      leaving (branching k.0 [] k.1 (fits-with W P B I (exception_at x ∷ []) h (types-match W a.in_order s.store (has-exception x e i) k.2)))

  opened :
      {C : Scope R} (o : Opening) (b : Block ℕ) (g : Signature R) → block_of o ≡ b → Opens W B C o g
      → (resolve_block B.context.types b >>= block_signature W B) ≡ Some g
  opened o b g e k = ap (λ (z : Block ℕ). resolve_block B.context.types z >>= block_signature W B) (sym e) ∙ bind-at (block_signature W B) k.resolves k.signed

  mutual
    exec-promised :
        {C : Scope R} {c : Code} {ts us : List (ValueType R)} {xs : List ℕ} → Typed W B C c ts xs us → (rest : List (ValueType R)) (s : State R)
        → Fits W P B I s.store C.sets (rest ++ ts) s
        → Q s.store C xs (rest ++ us) (exec W P again B I c s)
    exec-promised empty_rule rest s h = falling h
    exec-promised {C = C} (instruction_rule {i = i} {ts = ts} {us = us} r) rest s h =
        alone W P B I (step W P again B I i s) (steps W P a again sound B I C i ts us r rest s h)
    exec-promised {C = C} (block_rule {c = c} {xs = xs} b g o t) rest s h =
        alone W P B I (with_signature W P again B I b (λ g. in_block g (λ t. exec W P again B I c t) s))
        (signed-promised (Q s.store C [] (rest ++ vals g.gives)) b g (λ g. in_block g (λ t. exec W P again B I c t) s) (opened (a_block b) b g refl o)
        (in_block-promised W P B I C g rest (λ t. exec W P again B I c t) s h (λ top q. (xs, exec-promised t [] (holding top s) (fits-with W P B I top h q)))))
    exec-promised {C = C} (try_rule {c = c} {xs = xs} b g o t) rest s h =
        alone W P B I (with_signature W P again B I b (λ g. in_block g (λ t. exec W P again B I c t) s))
        (signed-promised (Q s.store C [] (rest ++ vals g.gives)) b g (λ g. in_block g (λ t. exec W P again B I c t) s) (opened (a_try b) b g refl o)
        (in_block-promised W P B I C g rest (λ t. exec W P again B I c t) s h (λ top q. (xs, exec-promised t [] (holding top s) (fits-with W P B I top h q)))))
    exec-promised {C = C} (loop_rule {c = c} {xs = xs} b g o t) rest s h =
        alone W P B I (enter W P again B I (a_loop b) c (λ t. exec W P again B I c t) s)
        (signed-promised (Q s.store C [] (rest ++ vals g.gives)) b g
        (λ g. with_top (length g.takes) s.operands
        (λ below top. labelled (again (does B I (enclosing (a_loop b) c done))) (length g.takes) below (exec W P again B I c (holding top s)))) (opened
        (a_loop b) b g refl o)
        (with_top-promised (Q s.store C [] (rest ++ vals g.gives)) (length g.takes) s.operands
        (λ below top. labelled (again (does B I (enclosing (a_loop b) c done))) (length g.takes) below (exec W P again B I c (holding top s))) rest
        (vals g.takes) (long g.takes) h.operands
        (λ below top k q. label-promised W P B I s.store C g.takes g.gives xs (again (does B I (enclosing (a_loop b) c done))) below rest
        (exec W P again B I c (holding top s)) k
        (λ u w. promised-since W P B I w.grown
        (sound.code B I C (enclosing (a_loop b) c done) (vals g.takes) [] (vals g.gives) (loop_rule b g o t) rest u (fits-now W P B I w)))
        (exec-promised t [] (holding top s) (fits-with W P B I top h q)))))
    exec-promised {C = C} (try_table_rule {c = c} {xs = xs} b cs g o t) rest s h =
        alone W P B I (enter W P again B I (a_try_table b cs) c (λ t. exec W P again B I c t) s)
        (catching-promised W P B I (caught W P again B I cs) (with_signature W P again B I b (λ g. in_block g (λ t. exec W P again B I c t) s))
        (λ x u e left i w. caught-promised cs x u e left (clauses-hold C b cs o.holds.1.1) i w)
        (signed-promised (Q s.store C [] (rest ++ vals g.gives)) b g (λ g. in_block g (λ t. exec W P again B I c t) s) (opened (a_try_table b cs) b g refl o)
        (in_block-promised W P B I C g rest (λ t. exec W P again B I c t) s h (λ top q. (xs, exec-promised t [] (holding top s) (fits-with W P B I top h q))))))
    exec-promised {C = C} (if_rule {c = c} {xs = xs} {ys = ys} b g o t d) rest s h =
        alone W P B I (enter W P again B I (an_if b) c (λ t. exec W P again B I c t) s)
        (signed-promised (Q s.store C [] (rest ++ vals g.gives)) b g (λ g. in_either g (λ t. exec W P again B I c t) falls_through s)
        (opened (an_if b) b g refl o)
        (in_either-promised W P B I C g rest (λ t. exec W P again B I c t) falls_through xs ys s h (λ u k. exec-promised t [] u k)
        (λ u k. exec-promised d [] u k)))
    exec-promised {C = C} (if_else_rule {c = c} {d = d} {xs = xs} {ys = ys} b g o t u) rest s h =
        alone W P B I (with_signature W P again B I b (λ g. in_either g (λ t. exec W P again B I c t) (λ t. exec W P again B I d t) s))
        (signed-promised (Q s.store C [] (rest ++ vals g.gives)) b g (λ g. in_either g (λ t. exec W P again B I c t) (λ t. exec W P again B I d t) s)
        (opened (an_if b) b g refl o)
        (in_either-promised W P B I C g rest (λ t. exec W P again B I c t) (λ t. exec W P again B I d t) xs ys s h (λ v k. exec-promised t [] v k)
        (λ v k. exec-promised u [] v k)))
    exec-promised {C = C} (sequence_rule {c = c} {d = d} {us = us} {vs = vs} {xs = xs} {ys = ys} e t u) rest s h =
        subst (λ (o : Outcome R). Q s.store C (ys ++ xs) (rest ++ vs) o) (sym (in_a_row W P again B I c d s))
        (next-promised W P B I (λ t. exec W P again B I d t) (exec W P again B I c s) (exec-promised t rest s h)
        (λ v k. later W P B I C xs ys (exec W P again B I d v) k.grown (exec-promised u rest v (fits-now W P B I k))))
    exec-promised {C = C} {c = c} (frame_rule {ts = ts} {us = us} {xs = xs} below t) rest s h =
        subst (λ (z : List (ValueType R)). Q s.store C xs z (exec W P again B I c s)) (append_assoc rest below us)
        (exec-promised t (rest ++ below) s (subst (λ (z : List (ValueType R)). Fits W P B I s.store C.sets z s) (sym (append_assoc rest below ts)) h))
    exec-promised {C = C} {c = c} (subsumption_rule {us = us} {ws = ws} {xs = xs} {ys = ys} m n e t) rest s h =
        lesser W P B I a.in_order C xs ys rest us ws (exec W P again B I c s) n e
        (exec-promised t rest s (fits-with W P B I s.operands h (above-match W a.in_order s.store rest s.operands h.operands m)))
    exec-promised {C = C} (handling_rule {c = c} {hs = hs} {xs = xs} b g o t d) rest s h =
        alone W P B I
        (with_signature W P again B I b
        (λ g. with_top (length g.takes) s.operands
        (λ below top. catching (λ x u e. handle W P again B I hs (length g.gives) below x u e)
        (labelled falls_through (length g.gives) below (exec W P again B I c (holding top s))))))
        (signed-promised (Q s.store C [] (rest ++ vals g.gives)) b g
        (λ g. with_top (length g.takes) s.operands
        (λ below top. catching (λ x u e. handle W P again B I hs (length g.gives) below x u e)
        (labelled falls_through (length g.gives) below (exec W P again B I c (holding top s))))) (opened (a_try b) b g refl o)
        (with_top-promised (Q s.store C [] (rest ++ vals g.gives)) (length g.takes) s.operands
        (λ below top. catching (λ x u e. handle W P again B I hs (length g.gives) below x u e)
        (labelled falls_through (length g.gives) below (exec W P again B I c (holding top s)))) rest (vals g.takes)
        (long g.takes) h.operands
        (λ below top k q. catching-promised W P B I (λ x u e. handle W P again B I hs (length g.gives) below x u e)
        (labelled falls_through (length g.gives) below (exec W P again B I c (holding top s)))
        (λ x u e left i w. handle-promised d rest below s.store x u e left k i w)
        (label-promised W P B I s.store C g.gives g.gives xs falls_through below rest (exec W P again B I c (holding top s)) k (λ u w. falling w)
        (exec-promised t [] (holding top s) (fits-with W P B I top h q))))))
    exec-promised {C = C} (delegating_rule {c = c} {xs = xs} {l = l} {ls = ls} b g o t e) rest s h =
        alone W P B I (handed l (with_signature W P again B I b (λ g. in_block g (λ t. exec W P again B I c t) s)))
        (handed-promised W P B I l ls (with_signature W P again B I b (λ g. in_block g (λ t. exec W P again B I c t) s)) e
        (signed-promised (Q s.store C [] (rest ++ vals g.gives)) b g (λ g. in_block g (λ t. exec W P again B I c t) s) (opened (a_try b) b g refl o)
        (in_block-promised W P B I C g rest (λ t. exec W P again B I c t) s h (λ top q. (xs, exec-promised t [] (holding top s) (fits-with W P B I top h q))))))

    handle-promised :
        {C : Scope R} {hs : Handlers} {us : List (Val R)} → Handle W B C hs us
        → (rest : List (ValueType R)) (below : List (Value R)) (S : Store R) (x : ℕ) (s : State R) (e : Exception R) (left : List (ValueType R))
        → HaveTypes W S below rest → slice_get s.store.exceptions x ≡ Some e → Fits W P B I S C.sets left s
        → Q S C [] (rest ++ vals us) (handle W P again B I hs (length us) below x s e)
    handle-promised {C = C} {us = us} (last_rule {h = a_catch y} {c = c} {ts = ts} {xs = xs} k t) rest below S x s e left b i h =
        let g = tag_of C y (k.holds.1.1.0, tt) in
        tagged-promised y g.0 e s (labelled falls_through (length us) below (again_from x (exec W P again B I c (holding e.values s))))
        (leaves (throws x s)) left g.1 (h.store.exceptions x e i) h
        (λ q. promised-since W P B I h.grown
        (label-promised W P B I s.store C us us xs falls_through below rest (again_from x (exec W P again B I c (holding e.values s))) (types-grow h.grown b)
        (λ u w. falling w)
        (again_from-promised W P B I s.store C us xs x e (exec W P again B I c (holding e.values s)) i
        (exec-promised t [] (holding e.values s)
        (fits-with W P B I e.values (fits-now W P B I h)
        (subst (λ (z : List (Val R)). HaveTypes W s.store e.values (vals z)) (the_same g.0.takes ts (sym g.2 ∙ k.found)) q))))))
        (leaving (throwing e left i h))
    handle-promised {C = C} {us = us} (last_rule {h = a_catch_all} {c = c} {ts = ts} {xs = xs} k t) rest below S x s e left b i h =
        promised-since W P B I h.grown
        (label-promised W P B I s.store C us us xs falls_through below rest (again_from x (exec W P again B I c (holding [] s))) (types-grow h.grown b)
        (λ u w. falling w)
        (again_from-promised W P B I s.store C us xs x e (exec W P again B I c (holding [] s)) i
        (exec-promised t [] (holding [] s)
        (fits-with W P B I [] (fits-now W P B I h) (subst (λ (z : List (Val R)). HaveTypes W s.store [] (vals z)) (the_same [] ts k.found) no_values)))))
    handle-promised {C = C} {us = us} (before_rule {x = y} {c = c} {hs = hs} {ts = ts} {xs = xs} k t d) rest below S x s e left b i h =
        let g = tag_of C y (k.holds.1.1.0, tt) in
        tagged-promised y g.0 e s (labelled falls_through (length us) below (again_from x (exec W P again B I c (holding e.values s))))
        (handle W P again B I hs (length us) below x s e) left g.1
        (h.store.exceptions x e i) h
        (λ q. promised-since W P B I h.grown
        (label-promised W P B I s.store C us us xs falls_through below rest (again_from x (exec W P again B I c (holding e.values s))) (types-grow h.grown b)
        (λ u w. falling w)
        (again_from-promised W P B I s.store C us xs x e (exec W P again B I c (holding e.values s)) i
        (exec-promised t [] (holding e.values s)
        (fits-with W P B I e.values (fits-now W P B I h)
        (subst (λ (z : List (Val R)). HaveTypes W s.store e.values (vals z)) (the_same g.0.takes ts (sym g.2 ∙ k.found)) q))))))
        (handle-promised d rest below S x s e left b i h)

module _ {R : Type 0} (W : World R) (P : Primitives R) (a : AreSound W P) where
  run-sound : (n : ℕ) → Sound W P (run W P n)
  run-sound zero = record { code = λ B I C c ts xs us t rest s h. leaving waiting; function = λ B I C x f g rest s e w h. leaving waiting }
  run-sound (suc n) = record {
    code = λ B I C c ts xs us t rest s h. exec-promised W P a (run W P n) (run-sound n) B I t rest s h;
    function = λ B I C x f g rest s e w h. invoke-promised W P a (run W P n) (run-sound n) B I C x f g rest s e w h;
  }

  pub not_stuck :
      {B : Surroundings R} {I : Instance} {S : Store R} {C : Scope R} {xs : List ℕ} {us : List (ValueType R)} (o : Outcome R) → IsPromised W P B I S C xs us o
      → o ≡ leaves stuck → ⊥
  not_stuck o (falling h) e = cc
  not_stuck o (leaving (branching ls left i h)) e = cc
  not_stuck o (leaving (returning rs left i h)) e = cc
  not_stuck o (leaving (throwing x left i h)) e = cc
  not_stuck o (leaving (calling f g rs i j r m h)) e = cc
  not_stuck o (leaving (rethrowing left i h)) e = cc
  not_stuck o (leaving (delegating ls x left j i h)) e = cc
  not_stuck o (leaving trapping) e = cc
  not_stuck o (leaving waiting) e = cc

  high :
      {B : Surroundings R} {I : Instance} {S : Store R} {C : Scope R} {xs : List ℕ} {us : List (ValueType R)} (o : Outcome R) (t : State R)
      → IsPromised W P B I S C xs us o → o ≡ falls_through t → length t.operands ≡ length us
  high {us = us} o t (falling {s = s} h) e = let w : s ≡ t = cc in ap (λ (z : State R). length z.operands) (sym w) ∙ types-length h.operands
  high o t (leaving m) e = cc

pub soundness : (R : Type 0) → Soundness R
soundness R W P a B I C c ts xs us t n s h = (run-sound W P a n).code B I C c ts xs us t [] s h

pub never_stuck : (R : Type 0) → NeverStuck R
never_stuck R W P a B I C c ts xs us t n s h = not_stuck W P a (run W P n (does B I c) s) (soundness R W P a B I C c ts xs us t n s h)

pub functions_are_sound : (R : Type 0) → FunctionsAreSound R
functions_are_sound R W P a B I C x f g rest n s e w h = (run-sound W P a n).function B I C x f g rest s e w h

pub heights_are_as_typed : (R : Type 0) → HeightsAreAsTyped R
heights_are_as_typed R W P a B I C c ts xs us t n s u h = high W P a (run W P n (does B I c) s) u (soundness R W P a B I C c ts xs us t n s h)
