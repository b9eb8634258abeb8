use Rattle.std.specs.Prelude.{◌≡◌, ◌&&◌, Bool, true, false, List, [], ◌∷◌, ⊤, refl}
use denote.Struct.Field.{Field}
use denote.Struct.Values.{Values}
use denote.Enum.Declared.{Choice}
use denote.Enum.Compared.{Each, by}
use Rattle.std.specs.Cmp.{IsEquivalence}
use mathlib.Core.Bool.{beq}
use Rattle.std.specs.Bool.{Decides}
use Rattle.std.specs.Option.{option_eq}
use Rattle.std.specs.declared.option.Option.{Option}
use Rattle.std.specs.declared.option.Option.TheVariants.{None, Some}
use Rattle.std.specs.Cmp.Lexicographic.{pointwise}
use Rattle.std.proofs.Common.{ap, inl, inr, sym, ◌∙◌}
use Rattle.std.proofs.lemmas.Slice.Eq.{slice_eq-Decides}

pub bool-exact : (x y : Bool) → Decides (beq x y) (x ≡ y)
bool-exact true true = (λ _. refl, λ _. refl)
bool-exact true false = (λ e. cc, λ e. cc)
bool-exact false true = (λ e. cc, λ e. cc)
bool-exact false false = (λ _. refl, λ _. refl)

pub option-exact : {T : Type 0} {E : T → T → Bool} → ((x y : T) → Decides (E x y) (x ≡ y)) → (x y : Option T) → Decides (option_eq E x y) (x ≡ y)
option-exact h None None = (λ _. refl, λ _. refl)
option-exact h None (Some y) = (λ e. cc, λ e. cc)
option-exact h (Some x) None = (λ e. cc, λ e. cc)
option-exact h (Some x) (Some y) = (λ e. ap Some ((h x y).0 e), λ e. (h x y).1 cc)

pub list-exact : {T : Type 0} {E : T → T → Bool} → ((x y : T) → Decides (E x y) (x ≡ y)) → (xs ys : List T) → Decides (pointwise E xs ys) (xs ≡ ys)
list-exact h xs ys = slice_eq-Decides h xs ys _ refl

-- `==` at an enum, by variants, where it decides `≡` at the fields of each variant
abbrev pub AllDecide : (Fss : List (List Field)) → Each Bool Fss → Type 0
AllDecide [] each = ⊤
AllDecide (Fs ∷ Fss) each = ((x y : Values Fs) → Decides (each.0 x y) (x ≡ y)) × AllDecide Fss each.1

pub by-exact : (Fss : List (List Field)) (each : Each Bool Fss) → AllDecide Fss each → (c d : Choice Fss) → Decides (by false false Fss each c d) (c ≡ d)
by-exact [] each h c d = absurd c
by-exact (Fs ∷ Fss) each h (inl x) (inl y) = (λ e. ap inl ((h.0 x y).0 e), λ e. (h.0 x y).1 cc)
by-exact (Fs ∷ Fss) each h (inl x) (inr y) = (λ e. cc, λ e. cc)
by-exact (Fs ∷ Fss) each h (inr x) (inl y) = (λ e. cc, λ e. cc)
by-exact (Fs ∷ Fss) each h (inr x) (inr y) = (λ e. ap inr ((by-exact Fss each.1 h.1 x y).0 e), λ e. (by-exact Fss each.1 h.1 x y).1 cc)

both_ways : (a b : Bool) → (a ≡ true → b ≡ true) → (b ≡ true → a ≡ true) → a ≡ b
both_ways true true p q = refl
both_ways true false p q = sym (p refl)
both_ways false true p q = q refl
both_ways false false p q = refl

pub equiv_from_exact : {T : Type 0} {E : T → T → Bool} → ((x y : T) → Decides (E x y) (x ≡ y)) → IsEquivalence E
equiv_from_exact {T} {E} h = record {
  refl = λ x. (h x x).1 refl;
  symm = λ x y. both_ways (E x y) (E y x) (λ e. (h y x).1 (sym ((h x y).0 e))) (λ e. (h x y).1 (sym ((h y x).0 e)));
  congr = λ x y z e. ap (λ (w : T). E w z) ((h x y).0 e);
}

pub enum_exact :
    {D : Type 0} (Fss : List (List Field)) (as_values : D → Choice Fss) (make : Choice Fss → D) (eta : (d : D) → make (as_values d) ≡ d) (each : Each Bool Fss)
    → AllDecide Fss each
    → (x y : D) → Decides (by false false Fss each (as_values x) (as_values y)) (x ≡ y)
enum_exact Fss as_values make eta each h x y =
    let d = by-exact Fss each h (as_values x) (as_values y) in
    (λ e. sym (eta x) ∙ ap make (d.0 e) ∙ eta y, λ e. d.1 (ap as_values e))

-- two tests in a row
and_by_cases : (p q : Bool) {P Q : Type 0} → Decides p P → Decides q Q → Decides (p && q) (P × Q)
and_by_cases true true d e = (λ h. (d.0 refl, e.0 refl), λ h. refl)
and_by_cases true false d e = (λ h. cc, λ h. e.1 h.1)
and_by_cases false q d e = (λ h. cc, λ h. d.1 h.0)

pub and-exact : {p q : Bool} {P Q : Type 0} → Decides p P → Decides q Q → Decides (p && q) (P × Q)
and-exact {p} {q} d e = and_by_cases p q d e

-- the same fact in other words
pub exact-as : {p : Bool} {P Q : Type 0} → Decides p P → (P → Q) → (Q → P) → Decides p Q
exact-as d f g = (λ e. f (d.0 e), λ q. d.1 (g q))

-- a clone of an option is the option, where that holds of what it holds
pub option-faithful :
    {T : Type 0} (R : Option T → Option T → Type 0)
    → ((a b : T) → R (Some a) (Some b) → b ≡ a)
    → ((b : T) → R None (Some b) → ⊥)
    → ((a : T) → R (Some a) None → ⊥)
    → (x y : Option T) → R x y → y ≡ x
option-faithful R some left right None None h = refl
option-faithful R some left right None (Some b) h = absurd (left b h)
option-faithful R some left right (Some a) None h = absurd (right a h)
option-faithful R some left right (Some a) (Some b) h = ap Some (some a b h)
