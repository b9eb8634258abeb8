-- The groups with one hash, one after another from the last.
use Rattle.std.proofs.Common.{◌≡◌, refl, sym, ap, subst, ◌∙◌, ⊎_elim, ℕ, ◌+◌, ◌<◌, ◌≤◌, Bool, true, false, true≢false, cond, nat_eq, List, [], ◌∷◌, ◌++◌, length, slice_get, Option, Some, None, arith}
use Rattle.std.specs.Option.{MatchOption}
use Rattle.std.specs.Hash.{HashWrites}
use Rattle.std.specs.Ordering.{nat_cmp, eq_by_cmp}
use Rattle.std.specs.Option.{option_flatten}
use Rattle.std.proofs.lemmas.Bool.{cases_lt}
use Rattle.std.proofs.lemmas.Bool.Decides.{Decides-eqb}
use Rattle.std.specs.Cmp.{unsigned_tied}
use Rattle.std.proofs.lemmas.Option.{slice_get_within}
use Rattle.std.proofs.lemmas.List.{length_push}
use Rattle.wasm_validator_type_groups.proofs.Places.{get-left, get-end, get-push}
use Rattle.wasm_validator_type_groups.specs.Places.{IsNew}
use Rattle.wasm_validator_type_groups.specs.GroupHashes.{group_hash, latest_of, earlier_of, with_earlier, HaveOthers, IsLast, IsLatest, AreKnown, FindSame, FindsOneMore}
use Rattle.wasm_validator_type_groups.specs.declared.known_groups.KnownGroups.{KnownGroups}

cond-other : {X : Type 0} (b : Bool) (x y : X) → (b ≡ true → ⊥) → cond b x y ≡ y
cond-other true x y h = absurd (h refl)
cond-other false x y h = refl

earlier-old : (p : Option ℕ) (n number : ℕ) (o : Option ℕ) → n < number → with_earlier p number o n ≡ o
earlier-old None n number o l = refl
earlier-old (Some m) n number o l = cond-other (nat_eq number n) (Some m) o (λ e. let same : number ≡ n = (Decides-eqb number n).0 e in omega (arith, same, l))

earlier-own : (p : Option ℕ) (number : ℕ) (o : Option ℕ) → o ≡ None → with_earlier p number o number ≡ p
earlier-own None number o e = e
earlier-own (Some m) number o e = ap (λ b. cond b (Some m) o) ((Decides-eqb number number).1 refl)

earlier-beyond : (p : Option ℕ) (n number : ℕ) (o : Option ℕ) → number < n → o ≡ None → with_earlier p number o n ≡ None
earlier-beyond None n number o l e = e
earlier-beyond (Some m) n number o l e = cond-other (nat_eq number n) (Some m) o (λ f. let same : number ≡ n = (Decides-eqb number n).0 f in omega (arith, same, l)) ∙ e

-- how many groups may be looked at from this one on
abbrev pub steps_left : Option ℕ → ℕ
steps_left None = 0
steps_left (Some n) = n + 1

module _ {X : Type 0} (F : X → HashWrites) where
  -- the group n has the hash of this one, which stands nowhere behind it
  pub record IsUpTo (gs : List (List X)) (g : List X) (n : ℕ) : Type 0 where
    pub group : List X
    pub there : slice_get gs n ≡ Some group
    pub hash : group_hash F group ≡ group_hash F g
    pub up_to : (k : ℕ) → slice_get gs k ≡ Some g → k ≤ n

  -- where the group may still be
  abbrev pub IsLeft : List (List X) → List X → Option ℕ → Type 0
  IsLeft gs g o = MatchOption o (IsNew gs g) (λ n. IsUpTo gs g n)

  left-at : (gs : List (List X)) (g : List X) (bound : ℕ) (o : Option ℕ) → ((k : ℕ) → slice_get gs k ≡ Some g → k < bound) → IsLatest F gs bound (group_hash F g) o → IsLeft gs g o
  left-at gs g bound None below h = λ k e. h k g (omega arith) (below k e) e refl
  left-at gs g bound (Some n) below h = record {
    group = h.group;
    there = h.there;
    hash = h.hash;
    up_to = λ k e. ⊎_elim
        (λ (less : k < n + 1). let l : k ≤ n = omega (arith, less) in l)
        (λ (more : n + 1 ≤ k). absurd (h.others k g more (below k e) e refl))
        (cases_lt k (n + 1));
  }

  others-push : (gs : List (List X)) (g : List X) (from bound h : ℕ) → bound ≤ length gs → HaveOthers F gs from bound h → HaveOthers F (gs ++ g ∷ []) from bound h
  others-push gs g from bound h w o j q a b e = get-push gs g j q e (λ f. o j q a b f) (λ same _. absurd (omega (arith, same, b, w)))

  latest-stays : (gs : List (List X)) (g : List X) (bound h : ℕ) (o : Option ℕ) → bound ≤ length gs → IsLatest F gs bound h o → IsLatest F (gs ++ g ∷ []) bound h o
  latest-stays gs g bound h None w l = others-push gs g 0 bound h w l
  latest-stays gs g bound h (Some n) w l = record {
    below = l.below;
    group = l.group;
    there = get-left gs (g ∷ []) n (omega (arith, l.below, w)) ∙ l.there;
    hash = l.hash;
    others = others-push gs g (n + 1) bound h w l.others;
  }

  -- one more group: the last with its hash, and behind those with another
  others-more : (gs : List (List X)) (g : List X) (from h : ℕ) → (group_hash F g ≡ h → ⊥) → HaveOthers F gs from (length gs) h → HaveOthers F (gs ++ g ∷ []) from (length (gs ++ g ∷ [])) h
  others-more gs g from h other o j q a b e same = get-push gs g j q e (λ f. o j q a (slice_get_within gs j q f) f same) (λ _ is. other (ap (group_hash F) is ∙ same))

  latest-more : (gs : List (List X)) (g : List X) (h : ℕ) (o : Option ℕ) → (group_hash F g ≡ h → ⊥) → IsLatest F gs (length gs) h o → IsLatest F (gs ++ g ∷ []) (length (gs ++ g ∷ [])) h o
  latest-more gs g h None other l = others-more gs g 0 h other l
  latest-more gs g h (Some n) other l = record {
    below = omega (arith, l.below, length_push gs g);
    group = l.group;
    there = get-left gs (g ∷ []) n l.below ∙ l.there;
    hash = l.hash;
    others = others-more gs g (n + 1) h other l.others;
  }

  latest-own : (gs : List (List X)) (g : List X) (h : ℕ) → group_hash F g ≡ h → IsLast F (gs ++ g ∷ []) (length (gs ++ g ∷ [])) h (length gs)
  latest-own gs g h e = record {
    below = omega (arith, length_push gs g);
    group = g;
    there = get-end gs g;
    hash = e;
    others = λ j q a b f same. absurd (omega (arith, a, b, length_push gs g));
  }

  latest-push : (gs : List (List X)) (g : List X) (h : ℕ) (o : Option ℕ) (b : Bool) → nat_eq (group_hash F g) h ≡ b → IsLatest F gs (length gs) h o → IsLatest F (gs ++ g ∷ []) (length (gs ++ g ∷ [])) h (cond b (Some (length gs)) o)
  latest-push gs g h o true e l = latest-own gs g h ((Decides-eqb (group_hash F g) h).0 e)
  latest-push gs g h o false e l = latest-more gs g h o (λ same. true≢false (sym ((Decides-eqb (group_hash F g) h).1 same) ∙ e)) l

  module _ {A : Type 0} where
    -- where it isn't this group, it is at most the one before
    pub left-next : (k : KnownGroups A) (gs : List (List X)) (g : List X) (n : ℕ) → AreKnown F k gs → IsUpTo gs g n → (slice_get gs n ≡ Some g → ⊥) → IsLeft gs g (earlier_of k n)
    left-next k gs g n known u other = left-at gs g n (earlier_of k n)
        (λ j e. ⊎_elim
        (λ (less : j < n). less)
        (λ (more : n ≤ j). let same : j ≡ n = omega (arith, more, u.up_to j e) in absurd (other (ap (slice_get gs) (sym same) ∙ e)))
        (cases_lt j n))
        (subst (λ m. IsLatest F gs n m (earlier_of k n)) u.hash (known.earlier n u.group u.there))

    pub next-before : (k : KnownGroups A) (gs : List (List X)) (g : List X) (n m : ℕ) → AreKnown F k gs → IsUpTo gs g n → earlier_of k n ≡ Some m → m < n
    next-before k gs g n m known u e =
        let h : IsLatest F gs n (group_hash F u.group) (Some m) = subst (λ o. IsLatest F gs n (group_hash F u.group) o) e (known.earlier n u.group u.there) in
        h.below

    pub steps_fall : (k : KnownGroups A) (gs : List (List X)) (g : List X) (n : ℕ) (o : Option ℕ) → AreKnown F k gs → IsUpTo gs g n → o ≡ earlier_of k n → steps_left o < n + 1
    steps_fall k gs g n None known u e = omega arith
    steps_fall k gs g n (Some m) known u e = let l : m < n = next-before k gs g n m known u (sym e) in omega (arith, l)

    -- what finds the same
    pub known-same : (k j : KnownGroups A) (gs : List (List X)) → FindSame k j → AreKnown F k gs → AreKnown F j gs
    known-same k j gs s known = record {
      latest = λ h. rw (s.latest h) (known.latest h);
      earlier = λ n g h. rw (s.earlier n) (known.earlier n g h);
      fresh = λ n l. rw (s.earlier n) (known.fresh n l);
    }

    pub known-push : (k j : KnownGroups A) (gs : List (List X)) (g : List X) (h number : ℕ) → AreKnown F k gs → FindsOneMore k j h number → h ≡ group_hash F g → number ≡ length gs → AreKnown F j (gs ++ g ∷ [])
    known-push k j gs g h number known more e is =
        let hs = gs ++ g ∷ [] in
        let own : latest_of k h ≡ latest_of k (group_hash F g) = ap (latest_of k) e in
        record {
          latest = λ q. subst (λ o. IsLatest F hs (length hs) q o)
              ((λ i. cond (nat_eq (sym e i) q) (Some (sym is i)) (latest_of k q)) ∙ sym (more.latest q))
              (latest-push gs g q (latest_of k q) (nat_eq (group_hash F g) q) refl (known.latest q));
          earlier = λ n q f. get-push gs g n q f
              (λ old.
              let l : n < length gs = slice_get_within gs n q old in
              let same : earlier_of j n ≡ earlier_of k n = more.earlier n ∙ earlier-old (latest_of k h) n number (earlier_of k n) (omega (arith, l, is)) in
              subst (λ o. IsLatest F hs n (group_hash F q) o) (sym same) (latest-stays gs g n (group_hash F q) (earlier_of k n) (omega (arith, l)) (known.earlier n q old)))
              (λ new same.
              let here : n ≡ number = new ∙ sym is in
              let found : earlier_of j n ≡ latest_of k (group_hash F g) = more.earlier n ∙ ap (with_earlier (latest_of k h) number (earlier_of k n)) here ∙ earlier-own (latest_of k h) number (earlier_of k n) (known.fresh n (omega (arith, new))) ∙ own in
              subst (λ o. IsLatest F hs n (group_hash F q) o) (sym found)
              (subst (λ (p : ℕ × List X). IsLatest F hs p.0 (group_hash F p.1) (latest_of k (group_hash F g))) (λ i. (sym new i, same i))
              (latest-stays gs g (length gs) (group_hash F g) (latest_of k (group_hash F g)) (omega arith) (known.latest (group_hash F g)))));
          fresh = λ n l. let more_than : length gs < n = omega (arith, l, length_push gs g) in
              more.earlier n ∙ earlier-beyond (latest_of k h) n number (earlier_of k n) (omega (arith, more_than, is)) (known.fresh n (omega (arith, more_than)));
        }

-- an absent key that gets nothing as its value: what is found stays
pub flat-same : (h q : ℕ) (o : Option (Option ℕ)) (old : ℕ → Option (Option ℕ)) → old h ≡ None → o ≡ cond (eq_by_cmp nat_cmp h q) (Some None) (old q) → option_flatten o ≡ option_flatten (old q)
flat-same h q o old absent e = ap option_flatten e ∙ at-key (eq_by_cmp nat_cmp h q) (λ same. let is : h ≡ q = (Decides-eqb h q).0 (sym (unsigned_tied h q) ∙ same) in sym (ap old is) ∙ absent)
  where
    at-key : (b : Bool) → (b ≡ true → old q ≡ None) → option_flatten (cond b (Some None) (old q)) ≡ option_flatten (old q)
    at-key true none = ap option_flatten (sym (none refl))
    at-key false none = refl

pub ruleset places = (flat-same)
