-- How many ancestors a type has.
use Rattle.std.proofs.Common.{◌≡◌, refl, sym, ap, ℕ, zero, suc, ◌<◌, Option, Some, None, arith}
use Rattle.std.specs.Option.{option_and_then}
use Rattle.std.proofs.lemmas.Option.{none-some}
use Rattle.wasm_spec.specs.SupertypeOrder.{supertype_of, ancestor_at}
use Rattle.wasm_spec.specs.Trees.{DefType, declared}

abbrev pub above_it : (DefType → ℕ) → Option DefType → ℕ
above_it count None = 0
above_it count (Some y) = suc (count y)

-- so many ancestors, up to a limit
abbrev pub ancestors : ℕ → DefType → ℕ
ancestors zero d = 0
ancestors (suc k) d = above_it (ancestors k) (supertype_of declared d)

no_more : {P X : Type 0} (x : X) → Some x ≡ None → P
no_more x e = absurd (none-some x (sym e))

-- a higher limit changes nothing where the chain ends
stays_above : (k : ℕ) (o : Option DefType) → option_and_then (ancestor_at declared k) o ≡ None → ((y : DefType) → ancestor_at declared k y ≡ None → ancestors k y ≡ ancestors (suc k) y)
    → above_it (ancestors k) o ≡ above_it (ancestors (suc k)) o
stays_above k None e h = refl
stays_above k (Some y) e h = ap suc (h y e)

stays : (k : ℕ) (d : DefType) → ancestor_at declared k d ≡ None → ancestors k d ≡ ancestors (suc k) d
stays zero d e = no_more d e
stays (suc k) d e = stays_above k (supertype_of declared d) e (stays k)

-- a supertype has fewer ancestors
fewer_by : (k : ℕ) (d y : DefType) (o : Option DefType) → supertype_of declared d ≡ o → o ≡ Some y → option_and_then (ancestor_at declared k) o ≡ None → ancestors (suc k) y < ancestors (suc k) d
fewer_by k d y None g e h = absurd (none-some y e)
fewer_by k d y (Some x) g e h =
    let is : ancestors k x ≡ ancestors (suc k) x = stays k x h in
    let same : x ≡ y = cc in
    let more : ancestors (suc k) d ≡ suc (ancestors k x) = ap (above_it (ancestors k)) g in
    let at : ancestors (suc k) x ≡ ancestors (suc k) y = ap (ancestors (suc k)) same in
    omega (arith, is, more, at)

pub fewer : (k : ℕ) (d y : DefType) → ancestor_at declared (suc k) d ≡ None → supertype_of declared d ≡ Some y → ancestors (suc k) y < ancestors (suc k) d
fewer k d y e g = fewer_by k d y (supertype_of declared d) refl g e
