-- Each section as the list of its items.
use Rattle.std.proofs.Common.{◌≡◌, refl, sym, ap, subst, ◌∙◌, inl, inr, ℕ, zero, suc, ◌+◌, Bool, true, false, cond, eqb, leb, ◌≤◌, List, [], ◌∷◌, map, length, Option, Some, None, arith}
use Rattle.std.specs.Option.{option_and_then}
use Rattle.std.proofs.lemmas.Bool.{le-leb, leb-true}
use Rattle.wasm_spec_rules.proofs.Tests.{then_some, guarded}
use Rattle.wasm_spec.specs.Framing.{Piece, Counted}
use Rattle.wasm_spec_rules.specs.Sections.{each}
use Rattle.wasm_spec_rules.specs.Parts.{all_items}
use Rattle.wasm_readers_errors.specs.WasmReadersFeatures.declared.features.WasmFeatures.{WasmFeatures}
use Rattle.wasm_validator_types.specs.Spaces.{Spaces}
use Rattle.wasm_validator_sections.specs.WasmValidatorCore.Answers.{TypesSoFar}
use Rattle.wasm_validator_sections.specs.Sections.{read_each, read_section}
use Rattle.wasm_validator_states.proofs.ModuleRun.{step, SectionOf, one_section}
use Rattle.wasm_validator_sections.proofs.SectionEntries.{limited, Renames, section_entries}

then_same : {X : Type 0} (o : Option X) → option_and_then (λ x. Some x) o ≡ o
then_same None = refl
then_same (Some x) = refl

-- what is read and added of a section, from the state s to u: items, of which there are at most so many
pub record ReadAdded {S V W : Type 0} (add : S → W → Option S) (f : V → W) (most : ℕ) (s : S) (read : Option (List V)) (u : S) : Type 0 where
  pub items : List V
  pub are : read ≡ Some items
  pub few : length items ≤ most
  pub ran : each add s (map f items) ≡ Some u

module _ {S V W : Type 0} (add : S → W → Option S) (f : V → W) (there most : ℕ) (s : S) where
  limited_read : (o : Option (List V)) (u : S) → option_and_then (limited add f there most s) o ≡ Some u → ReadAdded add f most s o u
  limited_read o u e =
      let a = then_some (limited add f there most s) o u e in
      let b = guarded (leb (there + length a.0) most) (each add s (map f a.0)) u a.2 in
      let few = leb-true (there + length a.0) most b.0 in
      record { items = a.0; are = a.1; few = omega (arith, few); ran = b.1 }

  read_limited : (vs : List V) (u : S) → there + length vs ≤ most → each add s (map f vs) ≡ Some u → limited add f there most s vs ≡ Some u
  read_limited vs u few e = ap (λ b. cond b (each add s (map f vs)) None) (le-leb (there + length vs) most few) ∙ e

none_read : {V : Type 0} (vs : List V) → Some [] ≡ Some vs → [] ≡ vs
none_read vs e = cc

-- a section that is added to the whole state
module _ {V W : Type 0} (features : WasmFeatures) (add : TypesSoFar × Spaces → W → Option (TypesSoFar × Spaces)) (f : V → W) (most id : ℕ) (reads : List ℕ → Option (V × List ℕ)) (renamed : List ℕ → Option (W × List ℕ)) (renames : Renames f reads renamed) (s : TypesSoFar × Spaces) (there : ℕ) where
  -- how the step reads it
  abbrev pub IsStep : List Piece → Type 0
  IsStep ps = (n : ℕ) (bytes : List ℕ) → ps ≡ Counted id n bytes ∷ [] → step features s (Counted id n bytes) ≡ read_section renamed add there most n bytes s

  step_is : (n : ℕ) (bytes : List ℕ) → step features s (Counted id n bytes) ≡ read_section renamed add there most n bytes s
      → each (step features) s (Counted id n bytes ∷ []) ≡ option_and_then (limited add f there most s) (all_items id reads (Counted id n bytes ∷ []))
  step_is n bytes e =
      then_same (step features s (Counted id n bytes))
      ∙ e
      ∙ section_entries add f there most s reads renamed renames n bytes
      ∙ ap (option_and_then (limited add f there most s)) (sym (one_section id reads n bytes))

  pub step_read : (ps : List Piece) → SectionOf id ps → IsStep ps → (u : TypesSoFar × Spaces) → each (step features) s ps ≡ Some u → ReadAdded add f most s (all_items id reads ps) u
  step_read ps (inl a) is u e =
      subst (λ (xs : List Piece). ReadAdded add f most s (all_items id reads xs) u) (sym a) (record { items = []; are = refl; few = omega arith; ran = sym (ap (each (step features) s) a) ∙ e })
  step_read ps (inr x) is u e =
      let h = step_is x.count x.contents (is x.count x.contents x.is) in
      subst (λ (xs : List Piece). ReadAdded add f most s (all_items id reads xs) u) (sym x.is)
      (limited_read add f there most s (all_items id reads (Counted id x.count x.contents ∷ [])) u (sym h ∙ sym (ap (each (step features) s) x.is) ∙ e))

  pub read_step : (ps : List Piece) → SectionOf id ps → IsStep ps → (vs : List V) (u : TypesSoFar × Spaces) → all_items id reads ps ≡ Some vs → there + length vs ≤ most → each add s (map f vs) ≡ Some u
      → each (step features) s ps ≡ Some u
  read_step ps (inl a) is vs u e few r =
      let none : [] ≡ vs = none_read vs (sym (ap (all_items id reads) a) ∙ e) in
      ap (each (step features) s) a ∙ ap (λ (xs : List V). each add s (map f xs)) none ∙ r
  read_step ps (inr x) is vs u e few r =
      let h = step_is x.count x.contents (is x.count x.contents x.is) in
      ap (each (step features) s) x.is
      ∙ h
      ∙ ap (option_and_then (limited add f there most s)) (sym (ap (all_items id reads) x.is) ∙ e)
      ∙ read_limited add f there most s vs u few r

-- a section that leaves the list of types: its items are added beside the list
abbrev pub each_beside : {W : Type 0} → (TypesSoFar → Spaces → W → Option Spaces) → TypesSoFar × Spaces → W → Option (TypesSoFar × Spaces)
each_beside add p w = option_and_then (λ s. Some (p.0, s)) (add p.0 p.1 w)

module _ {W : Type 0} (add : TypesSoFar → Spaces → W → Option Spaces) where
  abbrev beside_list : TypesSoFar → Option Spaces → Option (TypesSoFar × Spaces)
  beside_list T o = option_and_then (λ s. Some (T, s)) o

  under_beside : (T : TypesSoFar) (o : Option Spaces) (f : TypesSoFar × Spaces → Option (TypesSoFar × Spaces)) (g : Spaces → Option Spaces) → ((s : Spaces) → f (T, s) ≡ beside_list T (g s)) → option_and_then f (beside_list T o) ≡ beside_list T (option_and_then g o)
  under_beside T None f g h = refl
  under_beside T (Some s) f g h = h s

  pub beside_each : (ws : List W) (T : TypesSoFar) (s : Spaces) → each (each_beside add) (T, s) ws ≡ beside_list T (each (add T) s ws)
  beside_each [] T s = refl
  beside_each (w ∷ ws) T s = under_beside T (add T s w) (λ t. each (each_beside add) t ws) (λ t. each (add T) t ws) (λ t. beside_each ws T t)

  -- the same for items that are read one by one
  read_more : (encoded : List ℕ → Option (W × List ℕ)) (n : ℕ) (T : TypesSoFar) (s : Spaces) (o : Option (W × List ℕ)) → ((bytes : List ℕ) (t : Spaces) → read_each encoded (each_beside add) n bytes (T, t) ≡ beside_list T (read_each encoded (add T) n bytes t))
      → option_and_then (λ x. option_and_then (λ t. read_each encoded (each_beside add) n x.1 t) (each_beside add (T, s) x.0)) o ≡ beside_list T (option_and_then (λ x. option_and_then (λ t. read_each encoded (add T) n x.1 t) (add T s x.0)) o)
  read_more encoded n T s None h = refl
  read_more encoded n T s (Some x) h = under_beside T (add T s x.0) (λ t. read_each encoded (each_beside add) n x.1 t) (λ t. read_each encoded (add T) n x.1 t) (λ t. h x.1 t)

  if_beside : (b : Bool) (T : TypesSoFar) (o : Option Spaces) (p : Option (TypesSoFar × Spaces)) → p ≡ beside_list T o → cond b p None ≡ beside_list T (cond b o None)
  if_beside true T o p e = e
  if_beside false T o p e = refl

  read_beside : (encoded : List ℕ → Option (W × List ℕ)) (n : ℕ) (bytes : List ℕ) (T : TypesSoFar) (s : Spaces) → read_each encoded (each_beside add) n bytes (T, s) ≡ beside_list T (read_each encoded (add T) n bytes s)
  read_beside encoded zero bytes T s = if_beside (eqb (length bytes) 0) T (Some s) (Some (T, s)) refl
  read_beside encoded (suc n) bytes T s = read_more encoded n T s (encoded bytes) (λ more t. read_beside encoded n more T t)

  pub section_beside : (encoded : List ℕ → Option (W × List ℕ)) (there most n : ℕ) (bytes : List ℕ) (T : TypesSoFar) (s : Spaces)
      → beside_list T (read_section encoded (add T) there most n bytes s) ≡ read_section encoded (each_beside add) there most n bytes (T, s)
  section_beside encoded there most n bytes T s = sym (if_beside (leb (there + n) most) T (read_each encoded (add T) n bytes s) (read_each encoded (each_beside add) n bytes (T, s)) (read_beside encoded n bytes T s))
