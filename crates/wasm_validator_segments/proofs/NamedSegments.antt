-- The functions that an element segment names are those of its place and of its items.
use Rattle.std.proofs.Common.{◌≡◌, sym, ap, ◌∙◌, ℕ, zero, suc, ◌≤◌, Bool, true, false, if◌then◌else◌, List, [], ◌++◌, Option, Some, None, option_map, arith}
use Rattle.std.specs.Prelude.{Result, Ok, Err, OnOk}
use Rattle.std.specs.List.{flat_map}
use Rattle.std.specs.Option.{option_and_then}
use Rattle.wasm_spec.specs.Syntax.{Ref, Val, reference}
use Rattle.wasm_spec.specs.Values.{u32_at, list_at}
use Rattle.wasm_spec.specs.BinaryTypes.{flags_at, ref_at}
use Rattle.wasm_spec.specs.BinarySections.{Element, functions, expressions, SegmentMode, passive, active, declarative, funcref, ref_func, functions_with, expressions_with, element_from, element_at}
use Rattle.wasm_spec.specs.Features.{Features}
use Rattle.wasm_spec_rules.specs.Contexts.{Context}
use Rattle.wasm_spec_rules.specs.Parts.{Expression}
use Rattle.wasm_readers.specs.WrittenIndices.{written}
use Rattle.wasm_readers_types.specs.WasmReadersValues.declared.indices.UnpackedIndex.{UnpackedIndex}
use Rattle.wasm_readers_errors.specs.Errors.{Reads}
use Rattle.wasm_readers_errors.specs.declared.error.Error.{Error}
use Rattle.wasm_validator_resources.specs.Answers.{val_in}
use Rattle.wasm_validator_constants.specs.WasmValidatorReferences.WasmSpecValidity.Expressions.{expression_at, named}
use Rattle.wasm_validator_constants.specs.WasmValidatorReferences.Notes.{noting}
use Rattle.wasm_validator_constants.specs.WasmValidatorReferences.References.{names_if, names_of_expression, names_of_element, mode_names, element_names}
use Rattle.wasm_validator_constants.proofs.WasmValidatorReferences.FunctionNotes.{noting_more}
use Rattle.wasm_items.specs.ItemExpressions.{written_type_at}
use Rattle.wasm_validator_segments.specs.Elements.{behind_function, reference_at, items_type_at, segment_table_at, may_go, behind_items, typed_items_at}
use Rattle.wasm_validator_segments.specs.Expressions.{behind_expression}
use Rattle.wasm_validator_segments.specs.Lists.{behind_list}
use Rattle.wasm_validator_segments.specs.NamedFunctions.{itself, names_of_functions, names_of_expressions, names_of_list, names_of_place, names_of_items, names_of_element_from}
use Rattle.wasm_validator_segments.specs.Offsets.{behind_table_offset}
use Rattle.wasm_validator_segments.proofs.PartReads.{then_gives, map_gives, function_read, expression_read, offset_read, list_read, themselves}

abbrev Segment : Type 0
Segment = Element Expression UnpackedIndex × List ℕ

same_read : {V : Type 0} (x y : V) → Some x ≡ Some y → x ≡ y
same_read x y e = cc

module _ (C : Context UnpackedIndex) (F : Features) (imported : ℕ) where
  -- where a segment goes
  first_place : (bytes next : List ℕ) (t : Option ℕ) → option_map {U = Option ℕ × List ℕ} (λ more. (Some 0, more)) (behind_table_offset C F imported 0 bytes) ≡ Some (t, next) → (e : Expression) × (expression_at bytes ≡ Some (e, next))
  first_place bytes next t e =
      let a = map_gives {B = Option ℕ × List ℕ} (λ (more : List ℕ). (Some 0, more)) (behind_table_offset C F imported 0 bytes) (t, next) e in
      offset_read C F imported 0 bytes next (a.1 ∙ ap (λ (p : Option ℕ × List ℕ). Some p.1) a.2)

  abbrev WrittenPlace : List ℕ → List ℕ → Type 0
  WrittenPlace bytes next = (x : ℕ × List ℕ) × (u32_at bytes ≡ Some x) × (e : Expression) × (expression_at x.1 ≡ Some (e, next))

  written_place : (bytes next : List ℕ) (t : Option ℕ) → option_and_then (λ x. option_map {U = Option ℕ × List ℕ} (λ more. (Some x.0, more)) (behind_table_offset C F imported x.0 x.1)) (u32_at bytes) ≡ Some (t, next) → WrittenPlace bytes next
  written_place bytes next t e =
      let x = then_gives (λ (y : ℕ × List ℕ). option_map {U = Option ℕ × List ℕ} (λ more. (Some y.0, more)) (behind_table_offset C F imported y.0 y.1)) (u32_at bytes) (t, next) e in
      let a = map_gives {B = Option ℕ × List ℕ} (λ (more : List ℕ). (Some x.0.0, more)) (behind_table_offset C F imported x.0.0 x.0.1) (t, next) x.2 in
      let o = offset_read C F imported x.0.0 x.0.1 next (a.1 ∙ ap (λ (p : Option ℕ × List ℕ). Some p.1) a.2) in
      (x.0, x.1, o.0, o.1)

  abbrev nowhere : List ℕ → Option (Option ℕ × List ℕ)
  nowhere bytes = Some (None, bytes)

  no_place : (b : Bool) (bytes next : List ℕ) (t : Option ℕ) → (if b then nowhere bytes else None) ≡ Some (t, next) → bytes ≡ next
  no_place true bytes next t e = let none : Option ℕ × List ℕ = (None, bytes) in ap (λ (p : Option ℕ × List ℕ). p.1) (same_read none (t, next) e)
  no_place false bytes next t e = absurd cc

  -- the type of its items
  abbrev Typed : Type 0
  Typed = Val UnpackedIndex × List ℕ

  abbrev typed : Val UnpackedIndex → List ℕ → Option Typed
  typed w bytes = Some (w, bytes)

  no_kind : (bytes next : List ℕ) (v w : Val UnpackedIndex) → typed w bytes ≡ Some (v, next) → bytes ≡ next
  no_kind bytes next v w e = let x : Typed = (w, bytes) in ap (λ (p : Typed). p.1) (same_read x (v, next) e)

  kind_read : (bytes next : List ℕ) (v : Val UnpackedIndex) → option_map {U = Typed} (λ k. (reference ref_func, k.1)) (flags_at 0 bytes) ≡ Some (v, next) → (k : ℕ) × (flags_at 0 bytes ≡ Some (k, next))
  kind_read bytes next v e =
      let a = map_gives {B = Typed} (λ (k : ℕ × List ℕ). (reference ref_func, k.1)) (flags_at 0 bytes) (v, next) e in
      (a.0.0, a.1 ∙ ap (λ (p : Typed). Some (a.0.0, p.1)) a.2)

  type_read : (flag : ℕ) (bytes next : List ℕ) (v : Val UnpackedIndex) → reference_at C F flag bytes ≡ Some (v, next) → (r : Ref UnpackedIndex) × (written_type_at flag bytes ≡ Some (r, next))
  unfolding reference_at
  type_read flag bytes next v e =
      let a = then_gives (λ (r : Ref UnpackedIndex × List ℕ). option_map {U = Typed} (λ w. (w, r.1)) (val_in C F (reference r.0))) (written_type_at flag bytes) (v, next) e in
      let b = map_gives {B = Typed} (λ (w : Val UnpackedIndex). (w, a.0.1)) (val_in C F (reference a.0.0)) (v, next) a.2 in
      (a.0.0, a.1 ∙ ap (λ (p : Typed). Some (a.0.0, p.1)) b.2)

  -- its items
  functions_read : (bytes more : List ℕ) → behind_list (behind_function C) bytes ≡ Some more → (xs : List ℕ) × (list_at u32_at bytes ≡ Some (xs, more)) × (names_of_list names_of_functions bytes ≡ xs)
  functions_read bytes more e = let l = list_read (behind_function C) u32_at (function_read C) itself bytes more e in (l.0, l.1, l.2 ∙ themselves l.0)

  expressions_read : (v : Val UnpackedIndex) (bytes more : List ℕ) → behind_list (behind_expression C F imported v) bytes ≡ Some more
      → (es : List Expression) × (list_at expression_at bytes ≡ Some (es, more)) × (names_of_list names_of_expressions bytes ≡ flat_map named es)
  expressions_read v bytes more e = list_read (behind_expression C F imported v) expression_at (expression_read C F imported v) named bytes more e

  module _ (t : Option ℕ) (v : Val UnpackedIndex) (bytes place next more : List ℕ) where
    abbrev AreNamed : ℕ → Type 0
    AreNamed flag = segment_table_at C F imported flag bytes ≡ Some (t, place) → items_type_at C F flag place ≡ Some (v, next) → behind_items C F imported flag v next ≡ Some more
        → names_of_element_from flag bytes ≡ names_of_place flag bytes ++ names_of_items flag next

    -- functions and expressions that stand behind a mode
    abbrev listed : SegmentMode Expression → List ℕ → Option Segment
    listed m bs = functions_with expression_at m bs

    abbrev typed_list : SegmentMode Expression → Ref UnpackedIndex → List ℕ → Option Segment
    typed_list m r bs = expressions_with expression_at m r bs

    with_functions : (m : SegmentMode Expression) → behind_list (behind_function C) next ≡ Some more → names_if element_names (listed m next) ≡ mode_names m ++ names_of_list names_of_functions next
    with_functions m e =
        let l = functions_read next more e in
        ap (λ (o : Option (List ℕ × List ℕ)). names_if element_names (option_map {U = Segment} (λ xs. (record { mode = m; items = functions xs.0 }, xs.1)) o)) l.1 ∙ ap (λ (xs : List ℕ). mode_names m ++ xs) (sym l.2)

    with_expressions : (m : SegmentMode Expression) (r : Ref UnpackedIndex) → behind_list (behind_expression C F imported v) next ≡ Some more
        → names_if element_names (typed_list m r next) ≡ mode_names m ++ names_of_list names_of_expressions next
    with_expressions m r e =
        let l = expressions_read v next more e in
        ap (λ (o : Option (List Expression × List ℕ)). names_if element_names (option_map {U = Segment} (λ es. (record { mode = m; items = expressions r es.0 }, es.1)) o)) l.1 ∙ ap (λ (xs : List ℕ). mode_names m ++ xs) (sym l.2)

    -- behind a kind, and behind a type
    with_kind : (m : SegmentMode Expression) → option_map {U = Typed} (λ k. (reference ref_func, k.1)) (flags_at 0 place) ≡ Some (v, next) → behind_list (behind_function C) next ≡ Some more
        → names_if element_names (option_and_then (λ k. listed m k.1) (flags_at 0 place)) ≡ mode_names m ++ names_of_list names_of_functions next
    with_kind m e f =
        let k = kind_read place next v e in
        ap (λ (o : Option (ℕ × List ℕ)). names_if element_names (option_and_then (λ k. listed m k.1) o)) k.1 ∙ with_functions m f

    with_type : (m : SegmentMode Expression) (r : Ref UnpackedIndex) → ref_at written place ≡ Some (r, next) → behind_list (behind_expression C F imported v) next ≡ Some more
        → names_if element_names (option_and_then (λ r. typed_list m r.0 r.1) (ref_at written place)) ≡ mode_names m ++ names_of_list names_of_expressions next
    with_type m r e f =
        ap (λ (o : Option (Ref UnpackedIndex × List ℕ)). names_if element_names (option_and_then (λ r. typed_list m r.0 r.1) o)) e ∙ with_expressions m r f

    -- behind an offset
    abbrev Form : Type 0
    Form = SegmentMode Expression → List ℕ → Option Segment

    at_first : (form : Form) (e : Expression) (xs : List ℕ) → expression_at bytes ≡ Some (e, place) → names_if element_names (form (active None e) place) ≡ named e ++ xs
        → names_if element_names (option_and_then (λ x. form (active None x.0) x.1) (expression_at bytes)) ≡ names_of_expression bytes ++ xs
    at_first form e xs f g =
        ap (λ (o : Option (Expression × List ℕ)). names_if element_names (option_and_then (λ x. form (active None x.0) x.1) o)) f ∙ g
        ∙ ap (λ (ns : List ℕ). ns ++ xs) (sym (ap (names_if named) f))

    at_written : (form : Form) (w : WrittenPlace bytes place) (xs : List ℕ) → names_if element_names (form (active (Some w.0.0) w.2) place) ≡ named w.2 ++ xs
        → names_if element_names (option_and_then (λ t. option_and_then (λ x. form (active (Some t.0) x.0) x.1) (expression_at t.1)) (u32_at bytes))
        ≡ (elim (u32_at bytes) [ None ↦ [] | Some x ↦ names_of_expression x.1 ]) ++ xs
    at_written form w xs g =
        ap (λ (o : Option (ℕ × List ℕ)). names_if element_names (option_and_then (λ t. option_and_then (λ x. form (active (Some t.0) x.0) x.1) (expression_at t.1)) o)) w.1
        ∙ ap (λ (o : Option (Expression × List ℕ)). names_if element_names (option_and_then (λ x. form (active (Some w.0.0) x.0) x.1) o)) w.3 ∙ g
        ∙ ap (λ (ns : List ℕ). ns ++ xs) (sym (ap (λ (o : Option (ℕ × List ℕ)). elim o [ None ↦ [] | Some x ↦ names_of_expression x.1 ]) w.1 ∙ ap (names_if named) w.3))

    abbrev kinds : Form
    kinds m bs = option_and_then (λ k. listed m k.1) (flags_at 0 bs)

    abbrev types : Form
    types m bs = option_and_then (λ r. typed_list m r.0 r.1) (ref_at written bs)

    -- by the flag
    flag_0 : AreNamed 0
    unfolding segment_table_at
    flag_0 a b c =
        let p = first_place bytes place t a in
        let same : place ≡ next = no_kind place next v (reference ref_func) b in
        at_first listed p.0 (names_of_list names_of_functions next) p.1
        (ap (λ (r : List ℕ). names_if element_names (listed (active None p.0) r)) same ∙ with_functions (active None p.0) c)

    flag_1 : AreNamed 1
    unfolding segment_table_at
    flag_1 a b c = ap (λ (r : List ℕ). names_if element_names (kinds passive r)) (no_place F.bulk_memory bytes place t a) ∙ with_kind passive b c

    flag_2 : AreNamed 2
    unfolding segment_table_at
    flag_2 a b c =
        let w = written_place bytes place t a in
        at_written kinds w (names_of_list names_of_functions next) (with_kind (active (Some w.0.0) w.2) b c)

    flag_3 : AreNamed 3
    unfolding segment_table_at
    flag_3 a b c = ap (λ (r : List ℕ). names_if element_names (kinds declarative r)) (no_place F.bulk_memory bytes place t a) ∙ with_kind declarative b c

    flag_4 : AreNamed 4
    unfolding segment_table_at
    flag_4 a b c =
        let p = first_place bytes place t a in
        let r = type_read 4 place next v b in
        let here : Ref UnpackedIndex × List ℕ = (funcref, place) in
        let same : place ≡ next = ap (λ (x : Ref UnpackedIndex × List ℕ). x.1) (same_read here (r.0, next) r.1) in
        at_first (λ m. typed_list m funcref) p.0 (names_of_list names_of_expressions next) p.1
        (ap (λ (x : List ℕ). names_if element_names (typed_list (active None p.0) funcref x)) same ∙ with_expressions (active None p.0) funcref c)

    flag_5 : AreNamed 5
    unfolding segment_table_at
    flag_5 a b c =
        let r = type_read 5 place next v b in
        ap (λ (x : List ℕ). names_if element_names (types passive x)) (no_place F.bulk_memory bytes place t a) ∙ with_type passive r.0 r.1 c

    flag_6 : AreNamed 6
    unfolding segment_table_at
    flag_6 a b c =
        let w = written_place bytes place t a in
        let r = type_read 6 place next v b in
        at_written types w (names_of_list names_of_expressions next) (with_type (active (Some w.0.0) w.2) r.0 r.1 c)

    flag_7 : AreNamed 7
    unfolding segment_table_at
    flag_7 a b c =
        let r = type_read 7 place next v b in
        ap (λ (x : List ℕ). names_if element_names (types declarative x)) (no_place F.bulk_memory bytes place t a) ∙ with_type declarative r.0 r.1 c

    pub are_named : (flag : ℕ) → flag ≤ 7 → AreNamed flag
    are_named zero h = flag_0
    are_named (suc zero) h = flag_1
    are_named (suc (suc zero)) h = flag_2
    are_named (suc (suc (suc zero))) h = flag_3
    are_named (suc (suc (suc (suc zero)))) h = flag_4
    are_named (suc (suc (suc (suc (suc zero))))) h = flag_5
    are_named (suc (suc (suc (suc (suc (suc zero)))))) h = flag_6
    are_named (suc (suc (suc (suc (suc (suc (suc zero))))))) h = flag_7
    are_named (suc (suc (suc (suc (suc (suc (suc (suc n)))))))) h = absurd (omega (arith, h))

    -- what is noted of the one part and then of the other
    pub both_noted : {S : Type 0} (note : ℕ → S → S) (kept middle last : S) (flag : ℕ) → flag ≤ 7
        → segment_table_at C F imported flag bytes ≡ Some (t, place) → items_type_at C F flag place ≡ Some (v, next) → behind_items C F imported flag v next ≡ Some more
        → middle ≡ noting note (names_of_place flag bytes) kept → last ≡ noting note (names_of_items flag next) middle → last ≡ noting note (names_of_element_from flag bytes) kept
    both_noted note kept middle last flag h a b c e f =
        f ∙ ap (noting note (names_of_items flag next)) e ∙ sym (noting_more note (names_of_place flag bytes) (names_of_items flag next) kept)
        ∙ ap (λ (xs : List ℕ). noting note xs kept) (sym (are_named flag h a b c))

    abbrev kept_with : Val UnpackedIndex → List ℕ → Typed
    kept_with w rest = (w, rest)

    placed : (b : Bool) (o : Option (List ℕ)) (w : Val UnpackedIndex) → (if b then option_map (kept_with v) o else None) ≡ Some (kept_with w more) → o ≡ Some more
    placed true None w e = absurd cc
    placed true (Some rest) w e = ap (λ (p : Typed). Some p.1) (same_read (kept_with v rest) (kept_with w more) e)
    placed false o w e = absurd cc

    -- the same where the items' type is an answer
    pub all_noted : {S T : Type 0} (note : ℕ → S → S) (kept middle last : S) (seen : T → Val UnpackedIndex) (r : Result T Error) (flag : ℕ) → flag ≤ 7
        → segment_table_at C F imported flag bytes ≡ Some (t, place) → items_type_at C F flag place ≡ Some (v, next) → middle ≡ noting note (names_of_place flag bytes) kept
        → Reads seen r (typed_items_at C F imported flag t v next) more → OnOk r (last ≡ noting note (names_of_items flag next) middle) → OnOk r (last ≡ noting note (names_of_element_from flag bytes) kept)
    all_noted note kept middle last seen (Ok x) flag h a b e reads f =
        both_noted note kept middle last flag h a b (placed (may_go C t v) (behind_items C F imported flag v next) (seen x) reads) e f
    all_noted note kept middle last seen (Err x) flag h a b e reads f = tt

-- an element segment is what its flag says
pub behind_flag : (bytes next : List ℕ) (flag : ℕ) → u32_at bytes ≡ Some (flag, next) → names_of_element bytes ≡ names_of_element_from flag next
unfolding element_at
behind_flag bytes next flag e = ap (λ (o : Option (ℕ × List ℕ)). names_if element_names (option_and_then (λ x. element_from expression_at written x.0 x.1) o)) e

pub flag_noted : {S T E : Type 0} (note : ℕ → S → S) (kept last : S) (r : Result T E) (bytes next : List ℕ) (flag : ℕ) → u32_at bytes ≡ Some (flag, next)
    → OnOk r (last ≡ noting note (names_of_element_from flag next) kept) → OnOk r (last ≡ noting note (names_of_element bytes) kept)
flag_noted note kept last (Ok x) bytes next flag e f = f ∙ ap (λ (xs : List ℕ). noting note xs kept) (sym (behind_flag bytes next flag e))
flag_noted note kept last (Err x) bytes next flag e f = tt
