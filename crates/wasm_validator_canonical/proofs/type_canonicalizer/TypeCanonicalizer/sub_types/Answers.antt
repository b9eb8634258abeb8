use Rattle.std.proofs.Common.{◌≡◌, refl, sym, ap, ◌∙◌, ℕ, ◌+◌, Bool, ◌&&◌, List, [], ◌∷◌, ◌++◌, map, length, arith, append_assoc, append-nil, length-append}
use Rattle.std.specs.Vec.Iter.{into_iter_items}
use Rattle.std.proofs.lemmas.List.{map-append}
use Rattle.wasm_spec.specs.Syntax.{Sub, map_sub}
use Rattle.wasm_readers_types.specs.SeenTypes.{sub_of}
use Rattle.wasm_readers_types.specs.WasmReadersValues.declared.indices.UnpackedIndex.{UnpackedIndex}
use Rattle.wasm_readers_types.specs.declared.types.SubType.{SubType}
use Rattle.wasm_validator_canonical.specs.declared.type_canonicalizer.TypeCanonicalizer.{TypeCanonicalizer}
use Rattle.wasm_validator_canonical.specs.Indices.{canonical_by, is_bound_by, are_bound_by}
use Rattle.wasm_validator_canonical.proofs.CanonicalTypes.{says_as}
use Rattle.wasm_validator_canonical.proofs.type_canonicalizer.TypeCanonicalizer.sub_types.Goals as goal

nothing_left : {X : Type 0} (l : List X) → length l ≡ 0 → l ≡ []
nothing_left [] h = refl
nothing_left (x ∷ xs) h = absurd (omega (arith, h))

one_longer : {X : Type 0} (more l : List X) (x : X) → more ≡ l ++ x ∷ [] → length more ≡ length l + 1
one_longer more l x e = ap length e ∙ length-append l (x ∷ [])

one_shorter : {X : Type 0} (l rest : List X) (x : X) → l ≡ x ∷ rest → length l ≡ length rest + 1
one_shorter l rest x e = let h = ap length e in omega (arith, h)

-- one more at the end, and the others behind
one_more : {A : Type 0} (f : Sub UnpackedIndex → Sub UnpackedIndex) (more done left rest : List (SubType A)) (new x : SubType A) → more ≡ done ++ new ∷ [] → left ≡ x ∷ rest → sub_of new ≡ f (sub_of x)
    → map sub_of more ++ map f (map sub_of rest) ≡ map sub_of done ++ map f (map sub_of left)
one_more f more done left rest new x p steps e =
    ap (λ l. map sub_of l ++ map f (map sub_of rest)) p
    ∙ ap (λ l. l ++ map f (map sub_of rest)) (map-append sub_of done (new ∷ []))
    ∙ append_assoc (map sub_of done) (sub_of new ∷ []) (map f (map sub_of rest))
    ∙ ap (λ s. map sub_of done ++ (s ∷ map f (map sub_of rest))) e
    ∙ sym (ap (λ l. map sub_of done ++ map f (map sub_of l)) steps)

-- the first of the types that are left, and the others
one_bound : {A : Type 0} (c : TypeCanonicalizer) (n at : ℕ) (left rest : List (SubType A)) (x : SubType A) (b : Bool) → left ≡ x ∷ rest → n ≡ at → is_bound_by c at (sub_of x) ≡ b
    → are_bound_by c n (map sub_of left) ≡ (b && are_bound_by c (n + 1) (map sub_of rest))
one_bound c n at left rest x b steps same e =
    ap (λ l. are_bound_by c n (map sub_of l)) steps
    ∙ ap (λ k. is_bound_by c k (sub_of x) && are_bound_by c (n + 1) (map sub_of rest)) same
    ∙ ap (λ a. a && are_bound_by c (n + 1) (map sub_of rest)) e

pub loop-ty-preserved : goal.loop-ty-preserved
loop-ty-preserved g c =
    let at = c.loop-ty in
    let self = c.args.self.now in
    let x = c.in-Some.ty in
    let left = into_iter_items at.ty-iterator in
    let rest = into_iter_items c.next.new.self in
    let steps = c.in-Some.ensures.steps.0 in
    let gone = c.in-Some.ensures.steps.1 in
    let pushed = c.in_ok-push-in-Ok.ensures.items in
    let short = one_shorter left rest x steps in
    let longer = one_longer c.push.new.self.items at.canonical.items c.in-Ok.sub_type pushed in
    let start = length self.ids.now in
    let size : start + length at.canonical.items ≡ start + c.len.result = omega arith in
    let next : start + length at.canonical.items + 1 ≡ start + length c.push.new.self.items = omega (arith, longer) in
    let count = at.invariant.count in
    let whole = at.invariant.whole in
    record {
      mapped = one_more (map_sub (canonical_by self)) c.push.new.self.items at.canonical.items left rest c.in-Ok.sub_type x pushed steps c.in-Ok.ensures.value ∙ at.invariant.mapped;
      so_far = at.invariant.so_far
          ∙ one_bound self (start + length at.canonical.items) (start + c.len.result) left rest x _ steps size c.in-Ok.ensures.known
          ∙ ap (λ n. are_bound_by self n (map sub_of rest)) next;
      whole = omega (arith, whole, short, longer);
      count = omega (arith, gone, short, count);
    }

pub returns-in-Err-clause-known : goal.returns-in-Err-clause-known
returns-in-Err-clause-known g c =
    let at = c.loop-ty in
    let self = c.args.self.now in
    let x = c.in-Some.ty in
    let start = length self.ids.now in
    let size : start + length at.canonical.items ≡ start + c.len.result = omega arith in
    says_as c.in-Err.error (is_bound_by self (start + c.len.result) (sub_of x)) _
    (λ h. at.invariant.so_far ∙ one_bound self (start + length at.canonical.items) (start + c.len.result) (into_iter_items at.ty-iterator) (into_iter_items c.next.new.self) x _ c.in-Some.ensures.steps.0 size h)
    c.in-Err.ensures.known

pub returns-clause-value : goal.returns-clause-value
returns-clause-value g c =
    let at = c.loop-ty in
    let self = c.args.self.now in
    let none = c.in-None.ensures.steps in
    let empty : into_iter_items at.ty-iterator ≡ [] = nothing_left (into_iter_items at.ty-iterator) (sym at.invariant.count ∙ none.0) in
    sym (append-nil (map sub_of at.canonical.items)) ∙ sym (ap (λ l. map sub_of at.canonical.items ++ map (map_sub (canonical_by self)) (map sub_of l)) empty) ∙ at.invariant.mapped
