-- The groups of a type section as the machine adds them: one after another, within the limit of a module's types.
use Rattle.std.proofs.Common.{◌≡◌, refl, ap, ◌∙◌, ℕ, suc, ◌+◌, ◌≤◌, cond, leb, List, [], ◌∷◌, map, length, Some, None, arith}
use Rattle.std.specs.Option.{option_map, option_and_then}
use Rattle.std.specs.List.{AllZip}
use Rattle.std.proofs.lemmas.Bool.{leb-true, le-leb}
use Rattle.std.proofs.lemmas.Option.{same_Some}
use Rattle.wasm_spec.specs.Syntax.{Rec, map_rec, map_sub}
use Rattle.wasm_spec.specs.Features.{Features, canonical}
use Rattle.wasm_spec.specs.Trees.{DefType}
use Rattle.wasm_spec_rules.specs.FeatureFlags.{features_of}
use Rattle.wasm_spec_rules.specs.Sections.{each}
use Rattle.wasm_spec_rules.proofs.Tests.{guarded, map_some, then_some}
use Rattle.wasm_readers.specs.WrittenIndices.{written}
use Rattle.wasm_readers_errors.specs.WasmReadersFeatures.declared.features.WasmFeatures.{WasmFeatures}
use Rattle.wasm_validator_canonical.specs.Groups.{AreValid, with_written}
use Rattle.wasm_validator_canonical.specs.Sections.{with_all_written, StandsFor, HoldsSection}
use Rattle.wasm_validator_canonical.proofs.Sections.{added_sections_are_valid}
use Rattle.wasm_validator_canonical.proofs.Steps.{written_length}
use Rattle.wasm_validator_types.specs.Spaces.{Spaces}
use Rattle.wasm_validator_sections.specs.WasmValidatorCore.declared.limits.TheConstants.{MAX_TYPES}
use Rattle.wasm_validator_sections.specs.WasmValidatorCore.Answers.{TypesSoFar}
use Rattle.wasm_validator_sections.specs.WasmValidatorCore.Machine.{with_ids, add_group}

pub as_many_zipped : {X Y : Type 0} (P : X → Y → Type 0) (xs : List X) (ys : List Y) → AllZip P xs ys → length xs ≡ length ys
as_many_zipped P [] [] a = refl
as_many_zipped P [] (y ∷ ys) a = absurd a
as_many_zipped P (x ∷ xs) [] a = absurd a
as_many_zipped P (x ∷ xs) (y ∷ ys) a = ap suc (as_many_zipped P xs ys a.1)

module _ (features : WasmFeatures) where
  abbrev F : Features
  F = features_of features

  -- ids become more
  more_ids : (gs : List (Rec ℕ)) (us : TypesSoFar) (ids : List ℕ) (q : TypesSoFar × List ℕ) → with_all_written F us ids gs ≡ Some q → length ids ≤ length q.1
  more_ids [] us ids q e = let same : length ids ≡ length q.1 = ap (λ (p : TypesSoFar × List ℕ). length p.1) (same_Some (us, ids) q e) in omega (arith, same)
  more_ids (g ∷ gs) us ids q e =
      let r = then_some (λ (p : TypesSoFar × List ℕ). with_all_written F p.0 p.1 gs) (with_written F us ids (map_rec written g)) q e in
      let here = written_length F us ids (map_rec written g) r.0 r.1 in
      let later = more_ids gs r.0.0 r.0.1 q r.2 in
      omega (arith, here, later)

  -- one group, where the limit is kept
  pub one_group : (p : TypesSoFar × Spaces) (g : Rec ℕ) (r : TypesSoFar × List ℕ) → with_written F p.0 p.1.types (map_rec written g) ≡ Some r → length r.1 ≤ MAX_TYPES
      → add_group features p (map_rec written g) ≡ Some (with_ids p.1 r)
  one_group p g r e few =
      let many = written_length F p.0 p.1.types (map_rec written g) r e in
      let fits = le-leb (length p.1.types + length (map (map_sub written) g.types)) MAX_TYPES (omega (arith, many, few)) in
      (λ i. cond (fits i) (option_map (with_ids p.1) (e i)) None)

  pub runs_to : (gs : List (Rec ℕ)) (p : TypesSoFar × Spaces) (q : TypesSoFar × List ℕ) → with_all_written F p.0 p.1.types gs ≡ Some q → length q.1 ≤ MAX_TYPES
      → each (add_group features) p (map (map_rec written) gs) ≡ Some (with_ids p.1 q)
  runs_to [] p q e few = ap (λ (r : TypesSoFar × List ℕ). Some (with_ids p.1 r)) (same_Some (p.0, p.1.types) q e)
  runs_to (g ∷ gs) p q e few =
      let r = then_some (λ (x : TypesSoFar × List ℕ). with_all_written F x.0 x.1 gs) (with_written F p.0 p.1.types (map_rec written g)) q e in
      let later = more_ids gs r.0.0 r.0.1 q r.2 in
      ap (option_and_then (λ t. each (add_group features) t (map (map_rec written) gs))) (one_group p g r.0 r.1 (omega (arith, later, few)))
      ∙ runs_to gs (with_ids p.1 r.0) q r.2 few

  -- and the other way round
  pub record EndsAt (p q : TypesSoFar × Spaces) (gs : List (Rec ℕ)) : Type 0 where
    pub end : TypesSoFar × List ℕ
    pub ran : with_all_written F p.0 p.1.types gs ≡ Some end
    pub few : length end.1 ≤ MAX_TYPES
    pub is : with_ids p.1 end ≡ q

  pub record OneEnds (p q : TypesSoFar × Spaces) (g : Rec ℕ) : Type 0 where
    pub end : TypesSoFar × List ℕ
    pub ran : with_written F p.0 p.1.types (map_rec written g) ≡ Some end
    pub few : length end.1 ≤ MAX_TYPES
    pub is : with_ids p.1 end ≡ q

  pub one_ends : (p q : TypesSoFar × Spaces) (g : Rec ℕ) → add_group features p (map_rec written g) ≡ Some q → OneEnds p q g
  one_ends p q g e =
      let n = length p.1.types + length (map (map_sub written) g.types) in
      let a = guarded (leb n MAX_TYPES) (option_map (with_ids p.1) (with_written F p.0 p.1.types (map_rec written g))) q e in
      let b = map_some (with_ids p.1) (with_written F p.0 p.1.types (map_rec written g)) q a.1 in
      let many = written_length F p.0 p.1.types (map_rec written g) b.0 b.1 in
      let few = leb-true n MAX_TYPES a.0 in
      record { end = b.0; ran = b.1; few = omega (arith, many, few); is = b.2 }

  pub ends_at : (gs : List (Rec ℕ)) (p q : TypesSoFar × Spaces) → length p.1.types ≤ MAX_TYPES → each (add_group features) p (map (map_rec written) gs) ≡ Some q → EndsAt p q gs
  ends_at [] p q few e = record { end = (p.0, p.1.types); ran = refl; few = few; is = same_Some p q e }
  ends_at (g ∷ gs) p q few e =
      let a = then_some (λ t. each (add_group features) t (map (map_rec written) gs)) (add_group features p (map_rec written g)) q e in
      let b = one_ends p a.0 g a.1 in
      let c = ends_at gs (with_ids p.1 b.end) q b.few (ap (λ t. each (add_group features) t (map (map_rec written) gs)) b.is ∙ a.2) in
      record {
        end = c.end;
        ran = ap (option_and_then (λ (x : TypesSoFar × List ℕ). with_all_written F x.0 x.1 gs)) b.ran ∙ c.ran;
        few = c.few;
        is = c.is;
      }

-- A module's groups that are added behind the types that a validator had: the list with them, whose types are valid,
-- and the ids of the module's types.
pub record TypesAdded (features : WasmFeatures) (T : TypesSoFar) (gs : List (Rec ℕ)) : Type 0 where
  pub end : TypesSoFar × List ℕ
  pub ran : with_all_written (features_of features) T [] gs ≡ Some end
  pub few : length end.1 ≤ MAX_TYPES
  pub valid : AreValid (features_of features) end.0

module _ (features : WasmFeatures) (T : TypesSoFar) (gs : List (Rec ℕ)) (types : TypesAdded features T gs) where
  -- they are valid, and the list holds them
  abbrev pub section : HoldsSection (features_of features) T gs types.end
  section = added_sections_are_valid (features_of features) T gs types.end types.ran types.valid

  abbrev pub type_space : List DefType
  type_space = section.section.types

  abbrev pub list_after : TypesSoFar
  list_after = types.end.0

  abbrev pub ids : List ℕ
  ids = types.end.1

  pub as_many_types : length ids ≡ length type_space
  as_many_types = as_many_zipped (StandsFor (canonical (features_of features)) list_after) ids type_space section.stand
