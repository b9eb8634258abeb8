-- Renaming through attempts.
use Rattle.std.proofs.Common.{◌≡◌, refl, ◌∙◌, Bool, true, false, List, [], ◌∷◌, map, Option, Some, None, option_map, is_some, if◌then◌else◌}
use Rattle.wasm_spec_rules.specs.Attempts.{◌>>=◌, guard, passes, last_of, front_of}

module _ {A A' B B' : Type 0} (u : A → A') (v : B → B') (g : A → Option B) (g' : A' → Option B') (e : (x : A) → g' (u x) ≡ option_map v (g x)) where
  bind-some : (o : Option A) → (option_map u o >>= g') ≡ option_map v (o >>= g)
  bind-some None = refl
  bind-some (Some x) = e x

  pub bind-map : (o : Option A) {o' : Option A'} → o' ≡ option_map u o → (o' >>= g') ≡ option_map v (o >>= g)
  bind-map o p = (λ i. p i >>= g') ∙ bind-some o

module _ {A A' B B' : Type 0} (u : A → A') (v : B → B') (g : A → B) (g' : A' → B') (e : (x : A) → g' (u x) ≡ v (g x)) where
  then-some : (o : Option A) → option_map g' (option_map u o) ≡ option_map v (option_map g o)
  then-some None = refl
  then-some (Some x) = λ i. Some (e x i)

  pub then-map : (o : Option A) {o' : Option A'} → o' ≡ option_map u o → option_map g' o' ≡ option_map v (option_map g o)
  then-map o p = (λ i. option_map g' (p i)) ∙ then-some o

module _ {A A' : Type 0} (u : A → A') (test : A → Bool) (test' : A' → Bool) (e : (x : A) → test' (u x) ≡ test x) where
  passes-some : (o : Option A) → passes test' (option_map u o) ≡ passes test o
  passes-some None = refl
  passes-some (Some x) = e x

  pub passes-map : (o : Option A) {o' : Option A'} → o' ≡ option_map u o → passes test' o' ≡ passes test o
  passes-map o p = (λ i. passes test' (p i)) ∙ passes-some o

module _ {A B : Type 0} (u : A → B) where
  guard-true : (b : Bool) (x : A) → guard b (u x) ≡ option_map u (guard b x)
  guard-true true x = refl
  guard-true false x = refl

  pub guard-map : {b b' : Bool} (x : A) {y : B} → b' ≡ b → y ≡ u x → guard b' y ≡ option_map u (guard b x)
  guard-map {b} x p q = (λ i. guard (p i) (q i)) ∙ guard-true b x

  if-true : (b : Bool) (x y : Option A) → (if b then option_map u x else option_map u y) ≡ option_map u (if b then x else y)
  if-true true x y = refl
  if-true false x y = refl

  pub if-map : {b b' : Bool} (x y : Option A) {x' y' : Option B} → b' ≡ b → x' ≡ option_map u x → y' ≡ option_map u y → (if b' then x' else y') ≡ option_map u (if b then x else y)
  if-map {b} x y p q r = (λ i. if p i then q i else r i) ∙ if-true b x y

  pub is_some-map : (o : Option A) → is_some (option_map u o) ≡ is_some o
  is_some-map None = refl
  is_some-map (Some x) = refl

  pub last_of-map : (xs : List A) → last_of (map u xs) ≡ option_map u (last_of xs)
  last_of-map [] = refl
  last_of-map (x ∷ []) = refl
  last_of-map (x ∷ y ∷ ys) = last_of-map (y ∷ ys)

  pub front_of-map : (xs : List A) → front_of (map u xs) ≡ map u (front_of xs)
  front_of-map [] = refl
  front_of-map (x ∷ []) = refl
  front_of-map (x ∷ y ∷ ys) = λ i. u x ∷ front_of-map (y ∷ ys) i

-- an attempt that is over no identity
module _ {A B B' : Type 0} (v : B → B') (g : A → Option B) (g' : A → Option B') (e : (x : A) → g' x ≡ option_map v (g x)) where
  pub bind-same : (o : Option A) → (o >>= g') ≡ option_map v (o >>= g)
  bind-same None = refl
  bind-same (Some x) = e x
