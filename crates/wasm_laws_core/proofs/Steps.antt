-- Steps that give something where a test says so, and what their verdicts say as laws.
use Rattle.std.proofs.Common.{◌≡◌, refl, ap, ◌∙◌, ℕ, ◌≤◌, Bool, true, false, not, ◌||◌, ◌&&◌, leb, cond, List, length, Option, Some, None, IsTrue}
use Rattle.std.specs.Prelude.{◌↔◌}
use Rattle.std.specs.Bool.{Decides}
use Rattle.std.specs.Option.{option_map}
use Rattle.std.proofs.lemmas.Bool.{leb-true, le-leb}
use Rattle.std.proofs.lemmas.Bool.Decides.{Decides-and}
use Rattle.wasm_spec.specs.Features.{Features}
use Rattle.wasm_spec.specs.CrateLimits.{most_name_bytes, IsShortName}
use Rattle.wasm_validator_core.specs.Items.{is_short}
use Rattle.wasm_spec_rules.proofs.Verdicts.{Verdict, if_verdict, verdict_as, always, verdict_some, verdict_yes}

-- a test under an option
pub if_map : {X Y : Type 0} (f : X → Y) (b : Bool) (x : X) → option_map f (cond b (Some x) None) ≡ cond b (Some (f x)) None
if_map f true x = refl
if_map f false x = refl

-- what a test lets through
pub passed : {X P : Type 0} (b : Bool) (x : X) → Decides b P → Verdict P (cond b (Some x) None) x
passed b x d = verdict_as _ _ (λ g. g.0) (λ g. (g, tt)) (if_verdict {Q = Unit {0}} b (Some x) x d (λ p. always x tt))

-- a verdict as the law of a step
pub law_of_verdict : {S P : Type 0} (o : Option S) (s : S) → Verdict P o s → (t : S) → (o ≡ Some t) ↔ (P × (s ≡ t))
law_of_verdict {S} o s v t = (λ e. verdict_some o s t v e, λ h. verdict_yes o s v h.0 ∙ ap (λ (u : S). Some u) h.1)

-- whether names are short, where limits are asked for
asked : (b : Bool) (n most : ℕ) → Decides (not b || leb n most) (IsTrue b → n ≤ most)
asked true n most = (λ h e. leb-true n most h, λ f. le-leb n most (f refl))
asked false n most = (λ h e. absurd (let z : false ≡ true = e in cc), λ f. refl)

pub name_decided : (F : Features) (name : List ℕ) → Decides (is_short F name) (IsShortName F name)
name_decided F name = asked F.crate_limits (length name) most_name_bytes

pub names_decided : (F : Features) (first second : List ℕ) → Decides (is_short F first && is_short F second) (IsShortName F first × IsShortName F second)
names_decided F first second = Decides-and (is_short F first) (is_short F second) (name_decided F first) (name_decided F second)
