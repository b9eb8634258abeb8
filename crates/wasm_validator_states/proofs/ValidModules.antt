-- Framed bytes are a valid module exactly where the machine accepts them and their bodies are typed.
use Rattle.std.proofs.Common.{◌≡◌, sym, ap, subst, ◌∙◌, ℕ, ◌≤◌, List, [], ◌∷◌, ◌++◌, length, slice_get, Some}
use Rattle.std.specs.Prelude.{nat_eq}
use Rattle.std.specs.List.{All}
use Rattle.std.proofs.lemmas.List.Elements.{All-cons, All-tail}
use Rattle.std.proofs.lemmas.Option.{same_Some}
use Rattle.wasm_spec.specs.Syntax.{Rec}
use Rattle.wasm_spec.specs.Features.{Features, canonical}
use Rattle.wasm_spec.specs.Trees.{DefType}
use Rattle.wasm_spec.specs.GroupRules.{IsValidTypeSection}
use Rattle.wasm_spec.specs.Framing.{Piece, Version, End, IsFramed}
use Rattle.wasm_spec_rules.specs.FeatureFlags.{features_of}
use Rattle.wasm_spec_rules.specs.Parts.{Parts, HasParts}
use Rattle.wasm_spec_rules.specs.IndexSpaces.{IndexSpaces, index_spaces}
use Rattle.wasm_spec_rules.specs.Modules.{IsAllowedPiece, AreValidParts, IsWellFormed}
use Rattle.wasm_readers_errors.specs.WasmReadersFeatures.declared.features.WasmFeatures.{WasmFeatures}
use Rattle.wasm_spec_validity.specs.Expressions.{expression_at}
use Rattle.wasm_spec_validity.specs.Typing.{HasTypedConstants, HasTypedBodies}
use Rattle.wasm_spec_validity.specs.Modules.{Numbering, IsValidUpToBodies, IsValidModule, context_of, imported_globals, number_at}
use Rattle.wasm_validator_canonical.specs.Sections.{StandsFor}
use Rattle.wasm_validator_canonical.proofs.Sections.{added_sections_are_valid, counted_sections_are_added}
use Rattle.wasm_validator_canonical.specs.Groups.{AreValid}
use Rattle.wasm_validator_canonical.specs.DistinctTypes.{AreApart}
use Rattle.wasm_validator_sections.specs.WasmValidatorCore.declared.limits.TheConstants.{MAX_TYPES}
use Rattle.wasm_validator_sections.specs.WasmValidatorCore.Answers.{TypesSoFar}
use Rattle.wasm_validator_states.specs.Verdict.{HasIdsWith}
use Rattle.wasm_validator_states.proofs.AddedTypes.{TypesAdded, section, type_space, as_many_zipped}
use Rattle.wasm_validator_states.proofs.FramedParts.{allowed_to_end, allowed_before_end, whole_has, inside_has}
use Rattle.wasm_validator_states.proofs.KnownSections.{framed_parts}
use Rattle.wasm_validator_states.proofs.ModuleRun.{AreParts}
use Rattle.wasm_validator_states.proofs.RunOfParts.{Accepted}
use Rattle.wasm_validator_states.proofs.ValidRules.{parts_valid, valid_lists, keeps_others}

module _ (features : WasmFeatures) (T : TypesSoFar) (bytes : List ℕ) where
  abbrev F : Features
  F = features_of features

  -- a module that is accepted is valid
  module _ (pieces : List Piece) (f : IsFramed bytes pieces) (header : Version f.number f.kind ≡ Version 1 0) (parts : AreParts f.others) (allowed : All (IsAllowedPiece F) f.others) (a : Accepted features T f.others) where
    abbrev pub accepted_spaces : IndexSpaces
    accepted_spaces = index_spaces (type_space features T a.parts.groups a.types) a.parts

    abbrev pub accepted_formed : IsWellFormed expression_at F bytes
    accepted_formed = record {
      pieces = pieces;
      framed = f;
      first = ap (λ (ps : List Piece). slice_get ps 0) f.all ∙ ap Some header;
      allowed = subst (All (IsAllowedPiece F)) (sym f.all) (All-cons (IsAllowedPiece F) (Version f.number f.kind) (f.others ++ End ∷ []) tt (allowed_to_end F f.others allowed));
      parts = a.parts;
      has_parts = subst (λ (ps : List Piece). HasParts F.compact_imports expression_at ps a.parts) (sym f.all) (whole_has F.compact_imports f.number f.kind f.others a.parts a.has);
      types = (section features T a.parts.groups a.types).section;
      rules = parts_valid F accepted_spaces a.parts a.valid a.others;
    }

    abbrev pub accepted_valid : HasTypedBodies nat_eq F (context_of accepted_spaces a.numbering a.parts) a.parts → IsValidModule F bytes
    accepted_valid bodies = record { well_formed = accepted_formed; typed = record { numbering = a.numbering; constants = a.typed; bodies = bodies } }

    -- as far as its bodies in any case
    abbrev pub accepted_up_to_bodies : IsValidUpToBodies F bytes
    accepted_up_to_bodies = record { well_formed = accepted_formed; numbering = a.numbering; constants = a.typed }

  -- A valid module is accepted, where there is room for its types, and one that is valid up to its bodies likewise; `Typed` says that these
  -- are typed.
  pub record WouldBeAccepted (pieces : List Piece) (f : IsFramed bytes pieces) (Typed : Type 0) : Type 0 where
    pub header : Version f.number f.kind ≡ Version 1 0
    pub parts : AreParts f.others
    pub allowed : All (IsAllowedPiece F) f.others
    pub accepted : Accepted features T f.others
    pub bodies : Typed → HasTypedBodies nat_eq F (context_of (accepted_spaces pieces f header parts allowed accepted) accepted.numbering accepted.parts) accepted.parts

  -- the same of index spaces
  record IsTypedUpTo (Typed : Type 0) (C : IndexSpaces) (p : Parts) : Type 0 where
    numbering : Numbering C.types
    constants : HasTypedConstants nat_eq F (context_of C numbering p) (imported_globals p) (number_at numbering) p
    bodies : Typed → HasTypedBodies nat_eq F (context_of C numbering p) p

  abbrev pub AreTypedBodies : IsValidUpToBodies F bytes → Type 0
  AreTypedBodies m = let w = m.well_formed in HasTypedBodies nat_eq F (context_of (index_spaces w.types.types w.parts) m.numbering w.parts) w.parts

  -- its types can be added
  record SectionAdded (gs : List (Rec ℕ)) (types : List DefType) : Type 0 where
    added : TypesAdded features T gs
    same : (section features T gs added).section.types ≡ types

  section_added : AreApart (canonical F) T → AreValid F T → (gs : List (Rec ℕ)) → (v : IsValidTypeSection F gs) → HasIdsWith F T v.types → length v.types ≤ MAX_TYPES → SectionAdded gs v.types
  section_added apart before gs v room few =
      let a = counted_sections_are_added F T gs apart before v room in
      let h = added_sections_are_valid F T gs a.held a.added a.valid in
      let same : h.section.types ≡ v.types = same_Some h.section.types v.types (sym h.section.gives ∙ v.gives) in
      let many = as_many_zipped (StandsFor (canonical F) a.held.0) a.held.1 h.section.types h.stand ∙ ap length same in
      record { added = record { end = a.held; ran = a.added; few = subst (λ n. n ≤ MAX_TYPES) (sym many) few; valid = a.valid }; same = same }

  pub valid_accepted : AreApart (canonical F) T → AreValid F T → (m : IsValidUpToBodies F bytes) → HasIdsWith F T m.well_formed.types.types → WouldBeAccepted m.well_formed.pieces m.well_formed.framed (AreTypedBodies m)
  valid_accepted apart before m room =
      let w = m.well_formed in
      let f = w.framed in
      let p = w.parts in
      let here : Some (Version f.number f.kind) ≡ Some (Version 1 0) = sym (ap (λ (ps : List Piece). slice_get ps 0) f.all) ∙ w.first in
      let header : Version f.number f.kind ≡ Version 1 0 = cc in
      let allowed = allowed_before_end F f.others (All-tail (IsAllowedPiece F) (Version f.number f.kind) (f.others ++ End ∷ []) (subst (All (IsAllowedPiece F)) f.all w.allowed)) in
      let has : HasParts F.compact_imports expression_at f.others p = inside_has F.compact_imports f.number f.kind f.others p (subst (λ (ps : List Piece). HasParts F.compact_imports expression_at ps p) f.all w.has_parts) in
      let types = section_added apart before p.groups w.types room w.rules.limits.types in
      let space = (section features T p.groups types.added).section.types in
      let rules : AreValidParts F (index_spaces space p) p = subst (λ (x : List DefType). AreValidParts F (index_spaces x p) p) (sym types.same) w.rules in
      let as_written : IsTypedUpTo (AreTypedBodies m) (index_spaces w.types.types p) p = record { numbering = m.numbering; constants = m.constants; bodies = λ b. b } in
      let typed : IsTypedUpTo (AreTypedBodies m) (index_spaces space p) p = subst (λ (x : List DefType). IsTypedUpTo (AreTypedBodies m) (index_spaces x p) p) (sym types.same) as_written in
      record {
        header = header;
        parts = framed_parts F bytes w.pieces f allowed;
        allowed = allowed;
        accepted = record {
          parts = p;
          has = has;
          types = types.added;
          valid = valid_lists F (index_spaces space p) p rules;
          numbering = typed.numbering;
          typed = typed.constants;
          others = keeps_others F (index_spaces space p) p rules;
        };
        bodies = typed.bodies;
      }
