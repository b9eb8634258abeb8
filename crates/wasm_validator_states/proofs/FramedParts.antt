-- The parts of a module are those of the pieces between its header and its end.
use Rattle.std.proofs.Common.{◌≡◌, refl, sym, ap, ◌∙◌, ℕ, Bool, true, false, List, [], ◌∷◌, ◌++◌}
use Rattle.std.specs.Option.{option_map}
use Rattle.std.specs.List.{flat_map, All}
use Rattle.std.proofs.lemmas.List.Elements.{All-nil, All-cons, All-head, All-tail}
use Rattle.wasm_spec.specs.Values.{u32_at}
use Rattle.wasm_spec.specs.BinaryTypes.{rec_at, memory_at, tag_at}
use Rattle.wasm_spec.specs.BinaryModules.{import_at, entry_at, export_at}
use Rattle.wasm_spec.specs.BinarySections.{table_entry_at, global_entry_at, element_at, data_at}
use Rattle.wasm_spec.specs.Features.{Features}
use Rattle.wasm_spec.specs.Framing.{Piece, Version, End}
use Rattle.wasm_spec_rules.specs.Parts.{Parts, HasParts, imports_of, in_order, index, starts_of, data_counts_of, bodies_of}
use Rattle.wasm_spec_rules.specs.Modules.{IsAllowedPiece}
use Rattle.wasm_spec_validity.specs.Expressions.{expression_at}
use Rattle.wasm_validator_states.proofs.ModuleRun.{framed_items}

-- the pieces of a module: its header, what is between, and the end
abbrev pub whole : ℕ → ℕ → List Piece → List Piece
whole number kind ps = Version number kind ∷ (ps ++ End ∷ [])

pub allowed_to_end : (F : Features) (ps : List Piece) → All (IsAllowedPiece F) ps → All (IsAllowedPiece F) (ps ++ End ∷ [])
allowed_to_end F [] a = All-cons (IsAllowedPiece F) End [] tt (All-nil (IsAllowedPiece F))
allowed_to_end F (p ∷ ps) a = All-cons (IsAllowedPiece F) p (ps ++ End ∷ []) (All-head (IsAllowedPiece F) p ps a) (allowed_to_end F ps (All-tail (IsAllowedPiece F) p ps a))

pub allowed_before_end : (F : Features) (ps : List Piece) → All (IsAllowedPiece F) (ps ++ End ∷ []) → All (IsAllowedPiece F) ps
allowed_before_end F [] a = All-nil (IsAllowedPiece F)
allowed_before_end F (p ∷ ps) a = All-cons (IsAllowedPiece F) p ps (All-head (IsAllowedPiece F) p (ps ++ End ∷ []) a) (allowed_before_end F ps (All-tail (IsAllowedPiece F) p (ps ++ End ∷ []) a))

-- what the end has nothing of
before_end : {V : Type 0} (f : Piece → List V) → f End ≡ [] → (ps : List Piece) → flat_map f (ps ++ End ∷ []) ≡ flat_map f ps
before_end f ends [] = ap (λ xs. xs ++ []) ends
before_end f ends (p ∷ ps) = ap (λ xs. f p ++ xs) (before_end f ends ps)

-- the header and the end have no imports
framed_imports : (compact : Bool) (number kind : ℕ) (ps : List Piece) → imports_of compact (whole number kind ps) ≡ imports_of compact ps
framed_imports true number kind ps = ap (option_map in_order) (framed_items 2 (entry_at index) number kind ps)
framed_imports false number kind ps = framed_items 2 (import_at index) number kind ps

module _ (compact : Bool) (number kind : ℕ) (ps : List Piece) (parts : Parts) where
  pub whole_has : HasParts compact expression_at ps parts → HasParts compact expression_at (whole number kind ps) parts
  whole_has h = record {
    groups = framed_items 1 (rec_at index) number kind ps ∙ h.groups;
    imports = framed_imports compact number kind ps ∙ h.imports;
    functions = framed_items 3 u32_at number kind ps ∙ h.functions;
    tables = framed_items 4 (table_entry_at expression_at index) number kind ps ∙ h.tables;
    memories = framed_items 5 memory_at number kind ps ∙ h.memories;
    globals = framed_items 6 (global_entry_at expression_at index) number kind ps ∙ h.globals;
    exports = framed_items 7 export_at number kind ps ∙ h.exports;
    starts = before_end starts_of refl ps ∙ h.starts;
    elements = framed_items 9 (element_at expression_at index) number kind ps ∙ h.elements;
    bodies = before_end bodies_of refl ps ∙ h.bodies;
    segments = framed_items 11 (data_at expression_at) number kind ps ∙ h.segments;
    data_counts = before_end data_counts_of refl ps ∙ h.data_counts;
    tags = framed_items 13 tag_at number kind ps ∙ h.tags;
  }

  pub inside_has : HasParts compact expression_at (whole number kind ps) parts → HasParts compact expression_at ps parts
  inside_has h = record {
    groups = sym (framed_items 1 (rec_at index) number kind ps) ∙ h.groups;
    imports = sym (framed_imports compact number kind ps) ∙ h.imports;
    functions = sym (framed_items 3 u32_at number kind ps) ∙ h.functions;
    tables = sym (framed_items 4 (table_entry_at expression_at index) number kind ps) ∙ h.tables;
    memories = sym (framed_items 5 memory_at number kind ps) ∙ h.memories;
    globals = sym (framed_items 6 (global_entry_at expression_at index) number kind ps) ∙ h.globals;
    exports = sym (framed_items 7 export_at number kind ps) ∙ h.exports;
    starts = sym (before_end starts_of refl ps) ∙ h.starts;
    elements = sym (framed_items 9 (element_at expression_at index) number kind ps) ∙ h.elements;
    bodies = sym (before_end bodies_of refl ps) ∙ h.bodies;
    segments = sym (framed_items 11 (data_at expression_at) number kind ps) ∙ h.segments;
    data_counts = sym (before_end data_counts_of refl ps) ∙ h.data_counts;
    tags = sym (framed_items 13 tag_at number kind ps) ∙ h.tags;
  }
