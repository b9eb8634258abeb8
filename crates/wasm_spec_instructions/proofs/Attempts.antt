-- Words on attempts, and lists with a last item.
use Rattle.std.proofs.Common.{◌≡◌, refl, ap, ◌∙◌, Bool, true, false, ◌&&◌, List, [], ◌∷◌, ◌++◌, Option, Some, None, is_some}
use Rattle.wasm_spec_steps.specs.WasmSpecRules.Attempts.{◌>>=◌, guard, passes, last_of, front_of}

pub no : {X : Type 0} → false ≡ true → X
no e = cc

pub the_same : {X : Type 0} (x y : X) → Some x ≡ Some y → x ≡ y
the_same x y e = cc

pub absent : {X : Type 0} (x : X) → None ≡ Some x → ⊥
absent x e = cc

module _ {A B C : Type 0} where
  pub bind-bind : (o : Option A) (g : A → Option B) (h : B → Option C) → ((o >>= g) >>= h) ≡ (o >>= λ x. g x >>= h)
  bind-bind None g h = refl
  bind-bind (Some x) g h = refl

module _ {A B : Type 0} where
  pub bind-like : (o : Option A) (g h : A → Option B) → ((x : A) → o ≡ Some x → g x ≡ h x) → (o >>= g) ≡ (o >>= h)
  bind-like None g h e = refl
  bind-like (Some x) g h e = e x refl

  pub bind-gives : (o : Option A) (g : A → Option B) (b : B) → (o >>= g) ≡ Some b → (a : A) × (o ≡ Some a) × (g a ≡ Some b)
  bind-gives None g b e = absurd (absent b e)
  bind-gives (Some a) g b e = (a, refl, e)

  pub bind-at : {o : Option A} (g : A → Option B) {a : A} {r : Option B} → o ≡ Some a → g a ≡ r → (o >>= g) ≡ r
  bind-at g e f = ap (λ o. o >>= g) e ∙ f

  pub some-some : (o : Option A) (f : A → B) → is_some (o >>= λ x. Some (f x)) ≡ is_some o
  some-some None f = refl
  some-some (Some x) f = refl

module _ {A : Type 0} where
  pub guard-gives : (c : Bool) (x y : A) → guard c x ≡ Some y → (c ≡ true) × (x ≡ y)
  guard-gives true x y e = (refl, the_same x y e)
  guard-gives false x y e = absurd (absent y e)

  pub guard-at : (c : Bool) (x : A) → c ≡ true → guard c x ≡ Some x
  guard-at c x e = ap (λ (b : Bool). guard b x) e

  pub passes-gives : (test : A → Bool) (o : Option A) → passes test o ≡ true → (x : A) × (o ≡ Some x) × (test x ≡ true)
  passes-gives test None e = no e
  passes-gives test (Some x) e = (x, refl, e)

  pub some-gives : (o : Option A) → is_some o ≡ true → (x : A) × (o ≡ Some x)
  some-gives None e = no e
  some-gives (Some x) e = (x, refl)

  pub with_last : (xs : List A) (x : A) → last_of xs ≡ Some x → xs ≡ front_of xs ++ x ∷ []
  with_last [] x e = absurd (absent x e)
  with_last (y ∷ []) x e = ap (λ z. z ∷ []) (the_same y x e)
  with_last (y ∷ z ∷ zs) x e = ap (λ ws. y ∷ ws) (with_last (z ∷ zs) x e)

  pub last-of_last : (xs : List A) (x : A) → last_of (xs ++ x ∷ []) ≡ Some x
  last-of_last [] x = refl
  last-of_last (y ∷ []) x = refl
  last-of_last (y ∷ z ∷ zs) x = last-of_last (z ∷ zs) x

  pub front-of_last : (xs : List A) (x : A) → front_of (xs ++ x ∷ []) ≡ xs
  front-of_last [] x = refl
  front-of_last (y ∷ []) x = refl
  front-of_last (y ∷ z ∷ zs) x = ap (λ ws. y ∷ ws) (front-of_last (z ∷ zs) x)

pub and-both : (a b : Bool) → (a && b) ≡ true → (a ≡ true) × (b ≡ true)
and-both true b e = (refl, e)
and-both false b e = no e

pub not_true : (b : Bool) → (b ≡ true → ⊥) → b ≡ false
not_true true h = absurd (h refl)
not_true false h = refl
