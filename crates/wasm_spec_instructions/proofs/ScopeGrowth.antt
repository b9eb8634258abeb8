-- What is typed in a scope is typed in each that has more; and code that is typed is proper.
use Rattle.std.proofs.Common.{◌≡◌, refl, ap, ◌∙◌, ℕ, zero, suc, Bool, true, false, List, [], ◌∷◌, ◌++◌, length, Option, Some, None, option_map, slice_get}
use Rattle.wasm_spec_steps.specs.WasmSpecRules.WasmSpec.Syntax.{Val}
use Rattle.wasm_spec_steps.specs.WasmSpecRules.WasmSpec.MatchingTests.{World}
use Rattle.wasm_spec_steps.specs.WasmSpecRules.Attempts.{◌>>=◌, passes, front_of, last_of, list_of}
use Rattle.wasm_spec_steps.specs.Matching.{matches_vals, match_some}
use Rattle.wasm_spec_steps.specs.Bodies.{Surroundings}
use Rattle.wasm_spec_steps.specs.Actions as actions
use Rattle.wasm_spec_steps.specs.Actions.{OperandTypes, these, params, results, label, returned, local, global, function_reference, new_reference, fields, element, field, table_address, memory_address, table_element, segment, lesser_table_address, lesser_memory_address, top, descriptor_of, descriptor_for, repeated, front, last, continued, taken_by, given_by, joined, before, Check, has, allows, global_is_mutable, local_is_set, function_is_referenced, is_exception, each_matches, each_matches_some, may_be_cast, can_be_tested, is_aligned, suits, fields_have_defaults, has_no_descriptor, field_is_mutable, field_is_packed, element_is_mutable, element_has_default, element_is_number, element_is_packed, element_is_storable, data_is_there, segment_is_there, reaches_global, reaches_table, reaches_type, reaches_function}
use Rattle.wasm_spec_steps.specs.Shapes.{Shape, shape_of}
use Rattle.wasm_spec_steps.specs.Meanings.{copies, all_but, last_ones, continued_signature}
use Rattle.wasm_spec_instructions.specs.Code.{Opening, Handler, Code, done, simply, enclosing, choosing_between, handling, delegating_to, Handlers, and_then, checks_of, handler_checks, handler_operands, is_simple, IsProper, AreProper}
use Rattle.wasm_spec_instructions.specs.ValueTypes.{ValueType}
use Rattle.wasm_spec_instructions.specs.Scopes.{Scope, labelled, inside, in_handler, behind, types_in, holds_in, AllHold, AreSet}
use Rattle.wasm_spec_instructions.specs.Rules.{MatchLabels, Rule, plain_rule, ending_rule, dropping_rule, choosing_rule, testing_null_rule, asserting_non_null_rule, branching_on_null_rule, branching_on_non_null_rule, branching_by_table_rule, setting_rule, giving_back_rule, measuring_rule, comparing_rule, converting_rule, describing_exactly_rule, describing_rule, rethrowing_rule}
use Rattle.wasm_spec_instructions.specs.Sequences.{Opens, Catches, Typed, empty_rule, instruction_rule, block_rule, loop_rule, if_rule, if_else_rule, try_table_rule, try_rule, handling_rule, delegating_rule, sequence_rule, frame_rule, subsumption_rule, Handle, last_rule, before_rule}
use Rattle.wasm_spec_instructions.specs.Consequences.{Extends, ScopesMayGrow, TypedCodeIsProper}
use Rattle.wasm_spec_steps.specs.WasmSpecRules.Signatures.{Signature}
use Rattle.wasm_spec_instructions.proofs.Attempts.{absent, passes-gives}
use Rattle.wasm_spec_instructions.proofs.LocalSets.{Covers, covers-behind}

-- an attempt that finds what another one found
Finds : {A : Type 0} → Option A → Option A → Type 0
Finds {A} o p = (a : A) → o ≡ Some a → p ≡ Some a

map-finds : {A X : Type 0} (f : A → X) (o p : Option A) → Finds o p → Finds (option_map f o) (option_map f p)
unfolding Finds
map-finds f None p h b e = absurd (absent b e)
map-finds f (Some a) p h b e = ap (option_map f) (h a refl) ∙ e

bind-finds : {A X : Type 0} (f g : A → Option X) (o p : Option A) → Finds o p → ((a : A) → Finds (f a) (g a)) → Finds (o >>= f) (p >>= g)
unfolding Finds
bind-finds f g None p h k b e = absurd (absent b e)
bind-finds f g (Some a) p h k b e = ap (λ o. o >>= g) (h a refl) ∙ k a b e

itself-finds : {A : Type 0} (o : Option A) → Finds o o
unfolding Finds
itself-finds o a e = e

module _ {R : Type 0} (W : World R) (B : Surroundings R) where
  signature-finds : (o p : Option (List (Val R))) → Finds o p → Finds (o >>= continued_signature W B) (p >>= continued_signature W B)
  signature-finds o p h = bind-finds (continued_signature W B) (continued_signature W B) o p h (λ vs. itself-finds (continued_signature W B vs))

  module _ (L M : List (List (Val R))) (r s : Option (List (Val R))) (h : (n : ℕ) → Finds (slice_get L n) (slice_get M n)) (k : Finds r s) where
    types-grow : (t : OperandTypes) → Finds (types_in W B L r t) (types_in W B M s t)
    types-grow (label n) = h n
    types-grow returned = k
    types-grow (repeated n t) = map-finds (copies n) (types_in W B L r t) (types_in W B M s t) (types-grow t)
    types-grow (front t) = map-finds front_of (types_in W B L r t) (types_in W B M s t) (types-grow t)
    types-grow (last t) =
        map-finds list_of (types_in W B L r t >>= last_of) (types_in W B M s t >>= last_of)
        (bind-finds last_of last_of (types_in W B L r t) (types_in W B M s t) (types-grow t) (λ vs. itself-finds (last_of vs)))
    types-grow (taken_by t) = map-finds (λ (g : Signature R). g.takes) (types_in W B L r t >>= continued_signature W B) (types_in W B M s t >>= continued_signature W B) (signature-finds (types_in W B L r t) (types_in W B M s t) (types-grow t))
    types-grow (given_by t) = map-finds (λ (g : Signature R). g.gives) (types_in W B L r t >>= continued_signature W B) (types_in W B M s t >>= continued_signature W B) (signature-finds (types_in W B L r t) (types_in W B M s t) (types-grow t))
    types-grow (before t u) =
        bind-finds (λ vs. types_in W B L r u >>= λ ws. all_but (length ws) vs) (λ vs. types_in W B M s u >>= λ ws. all_but (length ws) vs) (types_in W B L r t) (types_in W B M s t) (types-grow t)
        (λ vs. bind-finds (λ ws. all_but (length ws) vs) (λ ws. all_but (length ws) vs) (types_in W B L r u) (types_in W B M s u) (types-grow u) (λ ws. itself-finds (all_but (length ws) vs)))
    types-grow (actions.behind t u) =
        bind-finds (λ vs. types_in W B L r u >>= λ ws. last_ones (length ws) vs) (λ vs. types_in W B M s u >>= λ ws. last_ones (length ws) vs) (types_in W B L r t) (types_in W B M s t) (types-grow t)
        (λ vs. bind-finds (λ ws. last_ones (length ws) vs) (λ ws. last_ones (length ws) vs) (types_in W B L r u) (types_in W B M s u) (types-grow u) (λ ws. itself-finds (last_ones (length ws) vs)))
    types-grow (joined t u) =
        bind-finds (λ vs. types_in W B L r u >>= λ ws. Some (vs ++ ws)) (λ vs. types_in W B M s u >>= λ ws. Some (vs ++ ws)) (types_in W B L r t) (types_in W B M s t) (types-grow t)
        (λ vs. bind-finds (λ ws. Some (vs ++ ws)) (λ ws. Some (vs ++ ws)) (types_in W B L r u) (types_in W B M s u) (types-grow u) (λ ws. itself-finds (Some (vs ++ ws))))
    types-grow (these vs) = itself-finds (types_in W B L r (these vs))
    types-grow (params g) = itself-finds (types_in W B L r (params g))
    types-grow (results g) = itself-finds (types_in W B L r (results g))
    types-grow (local n) = itself-finds (types_in W B L r (local n))
    types-grow (global n) = itself-finds (types_in W B L r (global n))
    types-grow (function_reference n) = itself-finds (types_in W B L r (function_reference n))
    types-grow (new_reference n) = itself-finds (types_in W B L r (new_reference n))
    types-grow (fields n) = itself-finds (types_in W B L r (fields n))
    types-grow (element n) = itself-finds (types_in W B L r (element n))
    types-grow (field n i) = itself-finds (types_in W B L r (field n i))
    types-grow (table_address n) = itself-finds (types_in W B L r (table_address n))
    types-grow (memory_address n) = itself-finds (types_in W B L r (memory_address n))
    types-grow (table_element n) = itself-finds (types_in W B L r (table_element n))
    types-grow (segment n) = itself-finds (types_in W B L r (segment n))
    types-grow (lesser_table_address m n) = itself-finds (types_in W B L r (lesser_table_address m n))
    types-grow (lesser_memory_address m n) = itself-finds (types_in W B L r (lesser_memory_address m n))
    types-grow (top q) = itself-finds (types_in W B L r (top q))
    types-grow (descriptor_of n) = itself-finds (types_in W B L r (descriptor_of n))
    types-grow (continued n) = itself-finds (types_in W B L r (continued n))
    types-grow (descriptor_for x) = itself-finds (types_in W B L r (descriptor_for x))

    each-grows : (t u : OperandTypes) → passes (λ vs. passes (matches_vals W vs) (types_in W B L r u)) (types_in W B L r t) ≡ true → passes (λ vs. passes (matches_vals W vs) (types_in W B M s u)) (types_in W B M s t) ≡ true
    unfolding Finds
    each-grows t u e =
        let a = passes-gives (λ vs. passes (matches_vals W vs) (types_in W B L r u)) (types_in W B L r t) e in
        let b = passes-gives (matches_vals W a.0) (types_in W B L r u) a.2 in
        ap (passes (λ vs. passes (matches_vals W vs) (types_in W B M s u))) (types-grow t a.0 a.1) ∙ ap (passes (matches_vals W a.0)) (types-grow u b.0 b.1) ∙ b.2

    some-grows : (t u : OperandTypes) → passes (λ vs. passes (λ ws. match_some W ws vs) (types_in W B L r u)) (types_in W B L r t) ≡ true → passes (λ vs. passes (λ ws. match_some W ws vs) (types_in W B M s u)) (types_in W B M s t) ≡ true
    unfolding Finds
    some-grows t u e =
        let a = passes-gives (λ vs. passes (λ ws. match_some W ws vs) (types_in W B L r u)) (types_in W B L r t) e in
        let b = passes-gives (λ ws. match_some W ws a.0) (types_in W B L r u) a.2 in
        ap (passes (λ vs. passes (λ ws. match_some W ws vs) (types_in W B M s u))) (types-grow t a.0 a.1) ∙ ap (passes (λ ws. match_some W ws a.0)) (types-grow u b.0 b.1) ∙ b.2

    module _ (X Y : List ℕ) (v : Covers W B X Y) where
      holds-grow : (c : Check) → holds_in W B L r X c ≡ true → holds_in W B M s Y c ≡ true
      holds-grow (local_is_set n) e = v n e
      holds-grow (each_matches t u) e = each-grows t u e
      holds-grow (each_matches_some t u) e = some-grows t u e
      holds-grow (has n) e = e
      holds-grow (allows x) e = e
      holds-grow (global_is_mutable n) e = e
      holds-grow (function_is_referenced n) e = e
      holds-grow (is_exception n) e = e
      holds-grow (may_be_cast a b) e = e
      holds-grow (can_be_tested a) e = e
      holds-grow (is_aligned op m) e = e
      holds-grow (suits f values) e = e
      holds-grow (fields_have_defaults n) e = e
      holds-grow (has_no_descriptor n) e = e
      holds-grow (field_is_mutable n i) e = e
      holds-grow (field_is_packed b n i) e = e
      holds-grow (element_is_mutable n) e = e
      holds-grow (element_has_default n) e = e
      holds-grow (element_is_number n) e = e
      holds-grow (element_is_packed b n) e = e
      holds-grow (element_is_storable m n) e = e
      holds-grow (data_is_there n) e = e
      holds-grow (segment_is_there n) e = e
      holds-grow (reaches_global n) e = e
      holds-grow (reaches_table n) e = e
      holds-grow (reaches_type n) e = e
      holds-grow (reaches_function n) e = e

  tables-grow : (L M : List (List (Val R))) (ts : List (ValueType R)) (ns : List ℕ) → ((n : ℕ) (ls : List (Val R)) → slice_get L n ≡ Some ls → slice_get M n ≡ Some ls) → MatchLabels W L ts ns → MatchLabels W M ts ns
  tables-grow L M ts [] h m = tt
  tables-grow L M ts (n ∷ ns) h m = (m.0, h n m.0 m.1, m.2, tables-grow L M ts ns h m.3)

  module _ (C D : Scope R) (x : Extends W B C D) where
    found : (t : OperandTypes) (vs : List (Val R)) → types_in W B C.labels C.returns t ≡ Some vs → types_in W B D.labels D.returns t ≡ Some vs
    unfolding Finds
    found t vs e = types-grow C.labels D.labels C.returns D.returns x.labels x.returns t vs e

    all-grow : (cs : List Check) → AllHold W B C cs → AllHold W B D cs
    unfolding Finds
    all-grow [] h = tt
    all-grow (c ∷ cs) h = (holds-grow C.labels D.labels C.returns D.returns x.labels x.returns C.sets D.sets x.sets c h.0, all-grow cs h.1)

    rule-grows : (s : Shape) (ts us : List (ValueType R)) → Rule W B C s ts us → Rule W B D s ts us
    rule-grows s ts us (plain_rule {cs = cs} {t = t} {u = u} {ts = vs} {us = ws} h e f) = plain_rule (all-grow cs h) (found t vs e) (found u ws f)
    rule-grows s ts us (ending_rule {cs = cs} {t = t} {ts = vs} low after h e) = ending_rule low after (all-grow cs h) (found t vs e)
    rule-grows s ts us (rethrowing_rule {cs = cs} {l = l} low after h e) = rethrowing_rule low after (all-grow cs h) (x.caught l e)
    rule-grows s ts us (dropping_rule t) = dropping_rule t
    rule-grows s ts us (choosing_rule t v e f) = choosing_rule t v e f
    rule-grows s ts us (testing_null_rule {cs = cs} a h) = testing_null_rule a (all-grow cs h)
    rule-grows s ts us (asserting_non_null_rule {cs = cs} a h) = asserting_non_null_rule a (all-grow cs h)
    rule-grows s ts us (branching_on_null_rule {cs = cs} {l = l} {ls = ls} a h e) = branching_on_null_rule a (all-grow cs h) (x.labels l ls e)
    rule-grows s ts us (branching_on_non_null_rule {cs = cs} {l = l} ls r h e) = branching_on_non_null_rule ls r (all-grow cs h) (x.labels l _ e)
    rule-grows s ts us (branching_by_table_rule {ls = ls} {l = l} low vs after m) = branching_by_table_rule low vs after (tables-grow C.labels D.labels vs (l ∷ ls) x.labels m)
    rule-grows s ts us (setting_rule l e) = setting_rule l e
    rule-grows s ts us (giving_back_rule l e) = giving_back_rule l e
    rule-grows s ts us (measuring_rule {cs = cs} {t = t} {us = vs} b h e) = measuring_rule b (all-grow cs h) (found t vs e)
    rule-grows s ts us (comparing_rule {cs = cs} {t = t} {us = vs} b h e) = comparing_rule b (all-grow cs h) (found t vs e)
    rule-grows s ts us (converting_rule {cs = cs} n b h) = converting_rule n b (all-grow cs h)
    rule-grows s ts us (describing_exactly_rule {cs = cs} h e f) = describing_exactly_rule (all-grow cs h) e f
    rule-grows s ts us (describing_rule {cs = cs} h e f) = describing_rule (all-grow cs h) e f

    opens-grow : (y : Opening) (g : Signature R) → Opens W B C y g → Opens W B D y g
    opens-grow y g h = record { block = h.block; holds = all-grow (checks_of y) h.holds; resolves = h.resolves; signed = h.signed }

    catches-grow : (y : Handler) (ts : List (Val R)) → Catches W B C y ts → Catches W B D y ts
    catches-grow y ts h = record { holds = all-grow (handler_checks y) h.holds; found = found (handler_operands y) ts h.found }

    set-grow : (ys X Y : List ℕ) → Covers W B X Y → AreSet W B X ys → AreSet W B Y ys
    set-grow [] X Y v a = tt
    set-grow (y ∷ ys) X Y v a = (v y a.0, set-grow ys X Y v a.1)

    deeper : (ls : List (Val R)) (n : ℕ) (ks : List (Val R)) → slice_get (ls ∷ C.labels) n ≡ Some ks → slice_get (ls ∷ D.labels) n ≡ Some ks
    deeper ls zero ks e = e
    deeper ls (suc n) ks e = x.labels n ks e

    deeper-caught : (b : Bool) (n : ℕ) → slice_get (b ∷ C.caught) n ≡ Some true → slice_get (b ∷ D.caught) n ≡ Some true
    deeper-caught b zero e = e
    deeper-caught b (suc n) e = x.caught n e

    label-extends : (b : Bool) (ls : List (Val R)) → Extends W B (labelled b ls C) (labelled b ls D)
    label-extends b ls = record { labels = deeper ls; caught = deeper-caught b; returns = x.returns; sets = x.sets }

    inside-extends : (ls : List (Val R)) → Extends W B (inside ls C) (inside ls D)
    inside-extends ls = label-extends false ls

    behind-extends : (xs : List ℕ) → Extends W B (behind xs C) (behind xs D)
    behind-extends xs = record { labels = x.labels; caught = x.caught; returns = x.returns; sets = covers-behind W B xs C.sets D.sets x.sets }

  mutual
    pub typed-grows : {C : Scope R} {c : Code} {ts us : List (ValueType R)} {xs : List ℕ} (D : Scope R) → Extends W B C D → Typed W B C c ts xs us → Typed W B D c ts xs us
    typed-grows D x empty_rule = empty_rule
    typed-grows D x (instruction_rule {C = C} {i = i} {ts = ts} {us = us} r) = instruction_rule (rule-grows C D x (shape_of i) ts us r)
    typed-grows D x (block_rule {C = C} b g h t) = block_rule b g (opens-grow C D x _ g h) (typed-grows (inside g.gives D) (inside-extends C D x g.gives) t)
    typed-grows D x (loop_rule {C = C} b g h t) = loop_rule b g (opens-grow C D x _ g h) (typed-grows (inside g.takes D) (inside-extends C D x g.takes) t)
    typed-grows D x (if_rule {C = C} b g h t s) =
        if_rule b g (opens-grow C D x _ g h) (typed-grows (inside g.gives D) (inside-extends C D x g.gives) t) (typed-grows (inside g.gives D) (inside-extends C D x g.gives) s)
    typed-grows D x (if_else_rule {C = C} b g h t s) =
        if_else_rule b g (opens-grow C D x _ g h) (typed-grows (inside g.gives D) (inside-extends C D x g.gives) t) (typed-grows (inside g.gives D) (inside-extends C D x g.gives) s)
    typed-grows D x (try_table_rule {C = C} b cs g h t) = try_table_rule b cs g (opens-grow C D x _ g h) (typed-grows (inside g.gives D) (inside-extends C D x g.gives) t)
    typed-grows D x (try_rule {C = C} b g h t) = try_rule b g (opens-grow C D x _ g h) (typed-grows (inside g.gives D) (inside-extends C D x g.gives) t)
    typed-grows D x (handling_rule {C = C} b g h t i) = handling_rule b g (opens-grow C D x _ g h) (typed-grows (inside g.gives D) (inside-extends C D x g.gives) t) (handlers-grow D x i)
    typed-grows D x (delegating_rule {C = C} {l = l} {ls = ls} b g h t e) = delegating_rule b g (opens-grow C D x _ g h) (typed-grows (inside g.gives D) (inside-extends C D x g.gives) t) (x.labels l ls e)
    typed-grows D x (sequence_rule {C = C} {xs = xs} i t s) = sequence_rule i (typed-grows D x t) (typed-grows (behind xs D) (behind-extends C D x xs) s)
    typed-grows D x (frame_rule low t) = frame_rule low (typed-grows D x t)
    typed-grows D x (subsumption_rule {C = C} {xs = xs} {ys = ys} m n a t) =
        subsumption_rule m n (set-grow C D x ys (xs ++ C.sets) (xs ++ D.sets) (covers-behind W B xs C.sets D.sets x.sets) a) (typed-grows D x t)

    handlers-grow : {C : Scope R} {hs : Handlers} {us : List (Val R)} (D : Scope R) → Extends W B C D → Handle W B C hs us → Handle W B D hs us
    handlers-grow D x (last_rule {C = C} {h = y} {ts = ts} {us = us} h t) = last_rule (catches-grow C D x y ts h) (typed-grows (in_handler us D) (label-extends C D x true us) t)
    handlers-grow D x (before_rule {C = C} {ts = ts} {us = us} h t i) = before_rule (catches-grow C D x _ ts h) (typed-grows (in_handler us D) (label-extends C D x true us) t) (handlers-grow D x i)

pub scopes_may_grow : (R : Type 0) → ScopesMayGrow R
scopes_may_grow R W B C D c ts us xs x t = typed-grows W B D x t

-- what has a rule opens, turns and closes nothing
ruled-simple : {R : Type 0} (W : World R) (B : Surroundings R) (C : Scope R) (s : Shape) (ts us : List (ValueType R)) → Rule W B C s ts us → is_simple s ≡ true
ruled-simple W B C s ts us (plain_rule h e f) = refl
ruled-simple W B C s ts us (ending_rule low after h e) = refl
ruled-simple W B C s ts us (rethrowing_rule low after h e) = refl
ruled-simple W B C s ts us (dropping_rule t) = refl
ruled-simple W B C s ts us (choosing_rule t v e f) = refl
ruled-simple W B C s ts us (testing_null_rule a h) = refl
ruled-simple W B C s ts us (asserting_non_null_rule a h) = refl
ruled-simple W B C s ts us (branching_on_null_rule a h e) = refl
ruled-simple W B C s ts us (branching_on_non_null_rule ls r h e) = refl
ruled-simple W B C s ts us (branching_by_table_rule low vs after m) = refl
ruled-simple W B C s ts us (setting_rule l e) = refl
ruled-simple W B C s ts us (giving_back_rule l e) = refl
ruled-simple W B C s ts us (measuring_rule b h e) = refl
ruled-simple W B C s ts us (comparing_rule b h e) = refl
ruled-simple W B C s ts us (converting_rule n b h) = refl
ruled-simple W B C s ts us (describing_exactly_rule h e f) = refl
ruled-simple W B C s ts us (describing_rule h e f) = refl

both-proper : (c d : Code) → IsProper c → IsProper d → IsProper (and_then c d)
both-proper done d h k = k
both-proper (simply i c) d h k = (h.0, both-proper c d h.1 k)
both-proper (enclosing o b c) d h k = (h.0, both-proper c d h.1 k)
both-proper (choosing_between g b e c) d h k = (h.0, h.1, both-proper c d h.2 k)
both-proper (handling g b hs c) d h k = (h.0, h.1, both-proper c d h.2 k)
both-proper (delegating_to l g b c) d h k = (h.0, both-proper c d h.1 k)

mutual
  pub proper : {R : Type 0} (W : World R) (B : Surroundings R) {C : Scope R} {c : Code} {ts us : List (ValueType R)} {xs : List ℕ} → Typed W B C c ts xs us → IsProper c
  proper W B empty_rule = tt
  proper W B (instruction_rule {C = C} {i = i} {ts = ts} {us = us} r) = (ruled-simple W B C (shape_of i) ts us r, tt)
  proper W B (block_rule b g h t) = (proper W B t, tt)
  proper W B (loop_rule b g h t) = (proper W B t, tt)
  proper W B (if_rule b g h t s) = (proper W B t, tt)
  proper W B (if_else_rule b g h t s) = (proper W B t, proper W B s, tt)
  proper W B (try_table_rule b cs g h t) = (proper W B t, tt)
  proper W B (try_rule b g h t) = (proper W B t, tt)
  proper W B (handling_rule b g h t i) = (proper W B t, all-proper W B i, tt)
  proper W B (delegating_rule b g h t e) = (proper W B t, tt)
  proper W B (sequence_rule {c = c} {d = d} i t s) = both-proper c d (proper W B t) (proper W B s)
  proper W B (frame_rule low t) = proper W B t
  proper W B (subsumption_rule m n a t) = proper W B t

  all-proper : {R : Type 0} (W : World R) (B : Surroundings R) {C : Scope R} {hs : Handlers} {us : List (Val R)} → Handle W B C hs us → AreProper hs
  all-proper W B (last_rule h t) = proper W B t
  all-proper W B (before_rule h t i) = (proper W B t, all-proper W B i)

pub typed_code_is_proper : (R : Type 0) → TypedCodeIsProper R
typed_code_is_proper R W B C c ts us xs t = proper W B t
