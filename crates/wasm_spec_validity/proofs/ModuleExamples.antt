-- Whole modules with a global.
use Rattle.std.proofs.Common.{◌≡◌, refl, sym, ap, ◌∙◌, subst, arith, ℕ, zero, suc, ◌+◌, ◌≤◌, ◌<◌, true, false, nat_eq, List, [], ◌∷◌, ◌++◌, length, drop, slice_get, Some}
use Rattle.std.proofs.lemmas.List.Elements.{All-nil, All-cons}
use Rattle.std.proofs.lemmas.Map.Made.{IsDistinct-from_count}
use Rattle.std.specs.Cmp.Lexicographic.{nat_list_eq_equiv}
use Rattle.std.proofs.lemmas.Option.{none-some, same_Some}
use Rattle.wasm_spec.specs.Syntax.{i32, i64}
use Rattle.wasm_spec.specs.BinarySections.{GlobalEntry, global_entry_at}
use Rattle.wasm_spec.specs.BinaryTypes.{val_at, flags_at, global_at}
use Rattle.wasm_spec.specs.Features.{Features}
use Rattle.wasm_spec.specs.Framing.{Piece, Version, Counted, End, u16_at, section_at, Frames, piece_of, all_pieces, IsFramed}
use Rattle.wasm_spec.specs.GroupRules.{IsValidType}
use Rattle.wasm_spec.specs.Trees.{declared}
use Rattle.wasm_spec.specs.Limits.{most_segments, most_body_bytes}
use Rattle.wasm_operators.specs.Control.{control_from, value_block}
use Rattle.wasm_operators.specs.Instructions.{instruction_at, plain_from}
use Rattle.wasm_operators.specs.WasmOperatorsPlain.Constants.{constant_from}
use Rattle.wasm_spec_steps.specs.WasmSpecRules.Contexts.{Context}
use Rattle.wasm_spec_steps.specs.WasmSpecRules.IndexSpaces.{IndexSpaces, index_spaces, IsFunctionType}
use Rattle.wasm_spec_steps.specs.WasmSpecRules.ItemRules.{IsValidTableEntry, IsValidMemory, IsValidTag, IsValidGlobal}
use Rattle.wasm_spec_steps.specs.WasmSpecRules.LinkRules.{IsValidImport, IsValidExport, IsValidStart}
use Rattle.wasm_spec_steps.specs.WasmSpecRules.ModuleExamples.{first_version}
use Rattle.wasm_spec_steps.specs.WasmSpecRules.Modules.{IsAllowedPiece}
use Rattle.wasm_spec_steps.specs.WasmSpecRules.Parts.{Parts, Expression, all_items, index}
use Rattle.wasm_spec_steps.specs.WasmSpecRules.SegmentRules.{IsValidElement, IsValidData}
use Rattle.wasm_spec_steps.specs.WasmSpecRules.Worlds.{world_of}
use Rattle.wasm_spec_steps.specs.Steps.{start}
use Rattle.wasm_spec_validity.specs.Examples.{one_i32, initialized, GlobalIsModule, NoGlobalOfAnotherType}
use Rattle.wasm_spec_validity.specs.Expressions.{expression_at}
use Rattle.wasm_spec_validity.specs.Modules.{context_of, imported_globals, number_at, IsTyped}
use Rattle.wasm_spec_validity.specs.Typing.{seeing, around, IsConstant, IsTypedGlobal, IsTypedTable, IsTypedElement, IsTypedData}
use Rattle.wasm_spec_validity.proofs.ExpressionTests.{is_constant-if, is_constant-by}
use Rattle.wasm_spec_validity.proofs.FirstAppearances.{types_are_numbered}

no : false ≡ true → ⊥
no e = cc

abbrev entry : GlobalEntry Expression ℕ
entry = initialized one_i32

abbrev parts : Parts
parts = record { groups = []; imports = []; functions = []; tables = []; memories = []; tags = []; globals = entry ∷ []; exports = []; starts = []; elements = []; data_counts = []; bodies = []; segments = [] }

abbrev spaces : IndexSpaces
spaces = index_spaces [] parts

abbrev section : List ℕ
section = 0x7f ∷ 0 ∷ 0x41 ∷ 1 ∷ 0x0b ∷ []

abbrev pieces : List Piece
pieces = Version 1 0 ∷ Counted 6 1 section ∷ End ∷ []

is_framed : IsFramed (0x00 ∷ 0x61 ∷ 0x73 ∷ 0x6d ∷ 1 ∷ 0 ∷ 0 ∷ 0 ∷ 6 ∷ 6 ∷ 1 ∷ section) pieces
unfolding piece_of
is_framed = record {
  numbered = 1 ∷ 0 ∷ 0 ∷ 0 ∷ 6 ∷ 6 ∷ 1 ∷ section;
  number = 1;
  kinded = 0 ∷ 0 ∷ 6 ∷ 6 ∷ 1 ∷ section;
  kind = 0;
  rest = 6 ∷ 6 ∷ 1 ∷ section;
  sections = (6, 1 ∷ section) ∷ [];
  others = Counted 6 1 section ∷ [];
  begins = refl;
  has_number = refl;
  has_kind = refl;
  known_kind = omega arith;
  frames = ([], refl, refl);
  in_order = (tt, tt);
  made = refl;
  all = refl;
  agree = refl;
}

one_global : IsValidGlobal first_version [] entry.ty
one_global = record {
  content = record { allowed = refl; in_range = All-nil (λ x. x < 0) };
  shared_needs_shared_everything_threads = λ h. absurd (no h);
  shared_has_shared_content = λ h. absurd (no h);
}

typed_number : (C : Context ℕ) (visible : ℕ) → IsConstant nat_eq first_version C 0 visible i32 one_i32
unfolding instruction_at plain_from constant_from control_from
typed_number C visible =
    let x = is_constant-by (world_of nat_eq C) (around first_version (seeing visible C)) 0 (start (value_block i32)) one_i32 refl refl in
    record { last = x.0; is = x.1 }

is_typed : IsTyped first_version spaces parts
is_typed =
    let n = types_are_numbered [] in
    let C = context_of spaces n parts in
    record {
      numbering = n;
      constants = record {
        globals = λ i g e. one i g e;
        tables = All-nil (IsTypedTable nat_eq first_version C 0 (number_at n));
        elements = All-nil (IsTypedElement nat_eq first_version C 0 (number_at n));
        segments = All-nil (IsTypedData nat_eq first_version C 0 (number_at n));
      };
      bodies = λ i x bytes s b. absurd (none-some x s);
    }
  where
    one : (i : ℕ) (g : GlobalEntry Expression ℕ) → slice_get (entry ∷ []) i ≡ Some g
        → IsTypedGlobal nat_eq first_version (context_of spaces (types_are_numbered []) parts) 0 (number_at (types_are_numbered [])) (0 + i) g
    one zero g e =
        subst (IsTypedGlobal nat_eq first_version (context_of spaces (types_are_numbered []) parts) 0 (number_at (types_are_numbered [])) 0) (same_Some entry g e)
        (typed_number (context_of spaces (types_are_numbered []) parts) 0)
    one (suc i) g e = absurd (none-some g e)

pub global_is_module : GlobalIsModule
unfolding global_entry_at global_at val_at flags_at expression_at instruction_at plain_from constant_from control_from
global_is_module = record {
  well_formed = record {
    pieces = pieces;
    framed = is_framed;
    first = refl;
    allowed =
        All-cons (IsAllowedPiece first_version) (Version 1 0) (Counted 6 1 section ∷ End ∷ []) tt
        (All-cons (IsAllowedPiece first_version) (Counted 6 1 section) (End ∷ []) (λ h. absurd (no h), λ h. absurd (no h))
        (All-cons (IsAllowedPiece first_version) End [] tt (All-nil (IsAllowedPiece first_version))));
    parts = parts;
    has_parts = record { groups = refl; imports = refl; functions = refl; tables = refl; memories = refl; globals = refl; exports = refl; starts = refl; elements = refl; bodies = refl; segments = refl; data_counts = refl; tags = refl };
    types = record { types = []; gives = refl; valid = All-nil (IsValidType first_version declared) };
    rules = record {
      imports = All-nil (IsValidImport first_version []);
      functions = All-nil (IsFunctionType []);
      tables = All-nil (IsValidTableEntry first_version []);
      memories = All-nil (IsValidMemory first_version);
      tags = All-nil (IsValidTag first_version []);
      globals = All-cons (λ (g : GlobalEntry Expression ℕ). IsValidGlobal first_version [] g.ty) entry [] one_global (All-nil (λ (g : GlobalEntry Expression ℕ). IsValidGlobal first_version [] g.ty));
      exports = All-nil (IsValidExport first_version spaces);
      export_names = IsDistinct-from_count nat_list_eq_equiv [] refl;
      size = omega arith;
      starts = All-nil (IsValidStart spaces);
      elements = All-nil (IsValidElement first_version spaces);
      segments = All-nil (IsValidData first_version spaces);
      limits = record {
        groups = omega arith;
        types = omega arith;
        imports = omega arith;
        functions = omega arith;
        tables = omega arith;
        memories = omega arith;
        globals = omega arith;
        tags = omega arith;
        exports = omega arith;
        elements = omega arith;
        segments = omega arith;
        data_counts = All-nil (λ n. n ≤ most_segments);
        bodies = All-nil (λ (b : List ℕ). length b ≤ most_body_bytes);
      };
    };
  };
  typed = is_typed;
}

-- a global of another type, in whatever way the module's bytes are framed
abbrev another : List ℕ
another = 0x7e ∷ 0 ∷ 0x41 ∷ 1 ∷ 0x0b ∷ []

abbrev framed : List ℕ
framed = 6 ∷ 6 ∷ 1 ∷ another

abbrev and_bytes : {V : Type 0} → V → List ℕ → V × List ℕ
and_bytes v bytes = (v, bytes)

second : {V : Type 0} (v w : V) (a b : List ℕ) → Some (and_bytes v a) ≡ Some (and_bytes w b) → a ≡ b
second v w a b e = let same = same_Some (and_bytes v a) (and_bytes w b) e in λ i. (same i).1

first : {V : Type 0} (v w : V) (a b : List ℕ) → Some (and_bytes v a) ≡ Some (and_bytes w b) → v ≡ w
first v w a b e = let same = same_Some (and_bytes v a) (and_bytes w b) e in λ i. (same i).0

not_empty : {X : Type 0} (x : X) (xs : List X) → x ∷ xs ≡ [] → ⊥
not_empty x xs e = cc

abbrev Section : Type 0
Section = ℕ × List ℕ

abbrev the_section : Section
the_section = (6, 1 ∷ another)

sections_are : (ss : List Section) (rest : List ℕ) → framed ≡ rest → Frames ss rest → ss ≡ the_section ∷ []
sections_are [] rest e f = absurd (not_empty 6 (6 ∷ 1 ∷ another) (e ∙ f))
sections_are (s ∷ []) rest e f = let same = first the_section s [] f.0 (ap section_at e ∙ f.1) in λ i. sym same i ∷ []
sections_are (s ∷ t ∷ ss) rest e f =
    let empty = second the_section s [] f.0 (ap section_at e ∙ f.1) in
    let g = f.2 in
    absurd (none-some (t, g.0) (ap section_at empty ∙ g.1))

pieces_are : (ss : List Section) (others : List Piece) → ss ≡ the_section ∷ [] → all_pieces ss ≡ Some others → others ≡ Counted 6 1 another ∷ []
unfolding piece_of
pieces_are ss others e f = sym (same_Some (Counted 6 1 another ∷ []) others (sym (ap all_pieces e) ∙ f))

abbrev other_entry : GlobalEntry Expression ℕ
other_entry = record { ty = record { content = i64; mutable = false; shared = false }; init = one_i32 }

globals_are : (number kind : ℕ) (ps : List Piece) (globals : List (GlobalEntry Expression ℕ)) → ps ≡ Version number kind ∷ Counted 6 1 another ∷ End ∷ []
    → all_items 6 (global_entry_at expression_at index) ps ≡ Some globals → other_entry ∷ [] ≡ globals
unfolding global_entry_at global_at val_at flags_at expression_at instruction_at plain_from constant_from control_from
globals_are number kind ps globals e f = same_Some (other_entry ∷ []) globals (sym (ap (all_items 6 (global_entry_at expression_at index)) e) ∙ f)

not_typed : (F : Features) (C : Context ℕ) (imported visible : ℕ) → IsConstant nat_eq F C imported visible i64 one_i32 → ⊥
unfolding instruction_at plain_from constant_from control_from
not_typed F C imported visible x = no (is_constant-if (world_of nat_eq C) (around F (seeing visible C)) imported (start (value_block i64)) x.last one_i32 x.is)

pub no_global_of_another_type : NoGlobalOfAnotherType
no_global_of_another_type F v =
    let w = v.well_formed in
    let f = w.framed in
    let numbered : 1 ∷ 0 ∷ 0 ∷ 0 ∷ framed ≡ f.numbered = ap (drop 4) f.begins in
    let kinded = second 1 f.number (0 ∷ 0 ∷ framed) f.kinded (ap u16_at numbered ∙ f.has_number) in
    let rest = second 0 f.kind framed f.rest (ap u16_at kinded ∙ f.has_kind) in
    let others = pieces_are f.sections f.others (sections_are f.sections f.rest rest f.frames) f.made in
    let all : w.pieces ≡ Version f.number f.kind ∷ Counted 6 1 another ∷ End ∷ [] = f.all ∙ ap (λ (ps : List Piece). Version f.number f.kind ∷ (ps ++ End ∷ [])) others in
    let globals = globals_are f.number f.kind w.pieces w.parts.globals all w.has_parts.globals in
    let typed = v.typed.constants.globals 0 other_entry (sym (ap (λ (gs : List (GlobalEntry Expression ℕ)). slice_get gs 0) globals)) in
    not_typed F (context_of (index_spaces w.types.types w.parts) v.typed.numbering w.parts) (imported_globals w.parts) (imported_globals w.parts + 0) typed
