-- Tests that decide rules, part by part.
use Rattle.std.proofs.Common.{◌≡◌, refl, sym, ap, subst, ◌∙◌, ℕ, Bool, true, false, true≢false, ◌&&◌, Option, Some, None, is_some, IfSome}
use Rattle.std.specs.Bool.{Decides}
use Rattle.std.specs.Option.{option_map}
use Rattle.wasm_spec.specs.ValueTypes.{implies}
use Rattle.wasm_readers_types.specs.WasmReadersValues.declared.indices.CoreTypeId.{CoreTypeId}
use Rattle.wasm_validator_type_checks.specs.TypesById.{numbered}

-- a rule fails where a part of it does
pub misses : {P Q : Type 0} (r s : Bool) → Decides r P → r ≡ false → s ≡ false → (Q → P) → Decides s Q
misses r s d e f g = ((λ t. absurd (true≢false (sym t ∙ f))), (λ q. absurd (true≢false (sym (d.1 (g q)) ∙ e))))

-- a test that is another one
pub is_decided : {P : Type 0} (r s : Bool) → r ≡ s → Decides s P → Decides r P
is_decided r s e d = ((λ t. d.0 (sym e ∙ t)), (λ p. e ∙ d.1 p))

pub decided_itself : (r b : Bool) → r ≡ b → Decides r (b ≡ true)
decided_itself r b e = ((λ t. sym e ∙ t), (λ t. e ∙ t))

-- implications of tests
pub implied : (a b : Bool) → implies a b ≡ true → a ≡ true → b ≡ true
implied true b h e = h
implied false b h e = absurd (true≢false (sym e))

pub implies_from : (a b : Bool) → (a ≡ true → b ≡ true) → implies a b ≡ true
implies_from true b h = h refl
implies_from false b h = refl

pub both : (a b : Bool) → (a && b) ≡ true → (a ≡ true) × (b ≡ true)
both true b h = (refl, h)
both false b h = absurd (true≢false (sym h))

pub both_from : (a b : Bool) → a ≡ true → b ≡ true → (a && b) ≡ true
both_from true b p q = q
both_from false b p q = absurd (true≢false (sym p))

-- what may be there
pub on_none : {X Y : Type 0} (f : X → Y) (P : Y → Type 0) (o : Option X) (u : Option Y) (r : Bool) → option_map f o ≡ u → o ≡ None → r ≡ true → Decides r (IfSome u P)
on_none f P o u r e n t = subst (λ v. Decides r (IfSome v P)) (sym (ap (option_map f) n) ∙ e) ((λ _. tt), (λ _. t))

pub on_some : {X Y : Type 0} (f : X → Y) (P : Y → Type 0) (o : Option X) (u : Option Y) (x : X) (r : Bool) → option_map f o ≡ u → o ≡ Some x → Decides r (P (f x)) → Decides r (IfSome u P)
on_some f P o u x r e s d = subst (λ v. Decides r (IfSome v P)) (sym (ap (option_map f) s) ∙ e) d

pub is_some_map : {X Y : Type 0} (f : X → Y) (o : Option X) → is_some (option_map f o) ≡ is_some o
is_some_map f None = refl
is_some_map f (Some x) = refl

pub nothing_there : {X : Type 0} (o : Option X) → is_some o ≡ false → o ≡ None
nothing_there None e = refl
nothing_there (Some x) e = absurd (true≢false e)

-- a test behind one that passed
pub then_decides : {P Q T : Type 0} (x y r : Bool) → Decides x P → x ≡ true → r ≡ y → Decides y Q → (P → Q → T) → (T → Q) → Decides r T
then_decides x y r d e f g h k = ((λ t. h (d.0 e) (g.0 (sym f ∙ t))), (λ t. f ∙ g.1 (k t)))

-- two ids that may be there
pub same_ids : (a b : Option CoreTypeId) (x y : Option ℕ) (r : Bool) → numbered a ≡ x → numbered b ≡ y → Decides r (numbered a ≡ numbered b) → Decides r (x ≡ y)
same_ids a b x y r e f d = ((λ t. sym e ∙ d.0 t ∙ f), (λ h. d.1 (e ∙ h ∙ sym f)))
