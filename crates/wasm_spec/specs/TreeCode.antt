-- A code for recursive types, by which equal ones can be told: what the kit asks of a value that a model holds.
use Rattle.std.specs.Prelude.{◌≡◌, refl, ℕ, List, Option}
use mathlib.Core.Path.{sym, ap, subst}
use Rattle.std.specs.Coded.{Coded, codes}
use base.Stored.{Gv, gnil, gnum, gcons}
use Rattle.wasm_spec.specs.Syntax.{Sub}
use Rattle.wasm_spec.specs.Trees.{RecTree, rec_tree, TypeUse, local, outer, TypeUses, no_uses, and_use, DefType}

pub coded_start : Coded (Option ℕ)
coded_start = hlevel codes

pub coded_subs : Coded (List (Sub ℕ))
coded_subs = hlevel codes

abbrev mutual
  code_tree : RecTree → Gv
  code_tree (rec_tree start ss us) = gcons (coded_start.code start) (gcons (coded_subs.code ss) (code_uses us))

  code_use : TypeUse → Gv
  code_use (local k) = gnum k
  code_use (outer t k) = gcons (code_tree t) (gnum k)

  code_uses : TypeUses → Gv
  code_uses no_uses = gnil
  code_uses (and_use u us) = gcons (code_use u) (code_uses us)

abbrev first : Gv → Gv
first gnil = gnil
first (gnum n) = gnil
first (gcons a b) = a

abbrev second : Gv → Gv
second gnil = gnil
second (gnum n) = gnil
second (gcons a b) = b

abbrev number : Gv → ℕ
number gnil = 0
number (gnum n) = n
number (gcons a b) = 0

abbrev IsPair : Gv → Type 0
IsPair gnil = ⊥
IsPair (gnum n) = ⊥
IsPair (gcons a b) = Unit {0}

mutual
  same_tree : (t u : RecTree) → code_tree t ≡ code_tree u → t ≡ u
  same_tree (rec_tree b ss us) (rec_tree c ts vs) p =
      let q = ap second p in
      λ i. rec_tree (coded_start.inj b c (ap first p) i) (coded_subs.inj ss ts (ap first q) i) (same_uses us vs (ap second q) i)

  same_use : (u v : TypeUse) → code_use u ≡ code_use v → u ≡ v
  same_use (local k) (local j) p = ap (λ g. local (number g)) p
  same_use (local k) (outer t j) p = absurd (subst IsPair (sym p) tt)
  same_use (outer t k) (local j) p = absurd (subst IsPair p tt)
  same_use (outer t k) (outer u j) p = λ i. outer (same_tree t u (ap first p) i) (number (second (p i)))

  same_uses : (us vs : TypeUses) → code_uses us ≡ code_uses vs → us ≡ vs
  same_uses no_uses no_uses p = refl
  same_uses no_uses (and_use v vs) p = absurd (subst IsPair (sym p) tt)
  same_uses (and_use u us) no_uses p = absurd (subst IsPair p tt)
  same_uses (and_use u us) (and_use v vs) p = λ i. and_use (same_use u v (ap first p) i) (same_uses us vs (ap second p) i)

pub coded_tree : Coded RecTree
coded_tree = record { code = code_tree; inj = same_tree }

pub coded_type : Coded DefType
coded_type = hlevel (codes, coded_tree)
