-- Items with constant expressions, as the grammar reads them.
use Rattle.std.proofs.Common.{◌≡◌, refl, sym, ap, ◌∙◌, subst, ℕ, Bool, true, false, ◌==◌, if◌then◌else◌, List, Option, Some, None, option_map, slice_get}
use Rattle.std.specs.Option.{option_and_then}
use Rattle.std.proofs.lemmas.Option.{same_Some}
use Rattle.wasm_spec.specs.Syntax.{Val, Memory, Global}
use Rattle.wasm_spec.specs.Values.{u32_at, sized_at}
use Rattle.wasm_spec.specs.BinaryTypes.{global_at}
use Rattle.wasm_spec.specs.BinarySections.{GlobalEntry, Data, SegmentMode, passive, active, data_mode_from, data_at, global_entry_at}
use Rattle.wasm_spec.specs.Features.{Features}
use Rattle.wasm_spec_rules.specs.Contexts.{Context}
use Rattle.wasm_spec_rules.specs.Parts.{Expression}
use Rattle.wasm_readers.specs.WrittenIndices.{written}
use Rattle.wasm_readers_types.specs.WasmReadersValues.declared.indices.UnpackedIndex.{UnpackedIndex}
use Rattle.wasm_validator_resources.specs.Answers.{world, val_in}
use Rattle.wasm_validator_segments.specs.WasmValidatorReferences.WasmSpecValidity.Expressions.{expression_at}
use Rattle.wasm_validator_segments.proofs.WasmValidatorReferences.WasmSpecValidity.WholeExpressions.{expressions_are_whole}
use Rattle.wasm_validator_segments.specs.Data.{behind_data_mode, behind_data}
use Rattle.wasm_validator_items.specs.Expressions.{around_constants, behind_expression}
use Rattle.wasm_validator_segments.specs.Globals.{with_content, global_type_at, typed_global_at}
use Rattle.wasm_validator_segments.specs.Offsets.{address_type, behind_memory_offset}
use Rattle.wasm_validator_items.proofs.ConstantBytes.{are_found}
use Rattle.wasm_validator_items.specs.Items.{IsTypedExpressionAt, ExpressionsAreTyped, IsTypedGlobalAt, GlobalsAreTyped, IsTypedDataModeIn, IsTypedDataAt, DataAreTyped}

-- attempts that give something, taken apart
then_gives : {A B : Type 0} (f : A → Option B) (o : Option A) (y : B) → option_and_then f o ≡ Some y → (x : A) × (o ≡ Some x) × (f x ≡ Some y)
then_gives f None y e = absurd cc
then_gives f (Some x) y e = (x, refl, e)

map_gives : {A B : Type 0} (f : A → B) (o : Option A) (y : B) → option_map f o ≡ Some y → (x : A) × (o ≡ Some x) × (f x ≡ y)
map_gives f None y e = absurd cc
map_gives f (Some x) y e = (x, refl, cc)

-- and put together
then_of : {A B : Type 0} (f : A → Option B) (o : Option A) (x : A) (y : B) → o ≡ Some x → f x ≡ Some y → option_and_then f o ≡ Some y
then_of f o x y e g = ap (option_and_then f) e ∙ g

map_of : {A B : Type 0} (f : A → B) (o : Option A) (x : A) → o ≡ Some x → option_map f o ≡ Some (f x)
map_of f o x e = ap (option_map f) e

-- bytes that are kept where a test passes
kept_where : (b : Bool) (bytes more : List ℕ) → (if b then Some bytes else None) ≡ Some more → (b ≡ true) × (bytes ≡ more)
kept_where true bytes more e = (refl, same_Some bytes more e)
kept_where false bytes more e = absurd cc

are_kept : (b : Bool) (bytes more : List ℕ) → b ≡ true → bytes ≡ more → (if b then Some bytes else None) ≡ Some more
are_kept b bytes more e same = ap (λ (c : Bool). if c then Some bytes else None) e ∙ ap (λ (r : List ℕ). Some r) same

module _ (C : Context UnpackedIndex) (F : Features) (imported : ℕ) where
  expression_found : (v : Val UnpackedIndex) (bytes more : List ℕ) → behind_expression C F imported v bytes ≡ Some more → IsTypedExpressionAt C F imported v bytes more
  expression_found v bytes more e =
      let x = (are_found C F imported v bytes more).0 e in
      let w = (expressions_are_whole (world C) (around_constants C F) imported v bytes x.last more).0 x.is in
      record { expression = w.0; read = w.1; typed = (x.last, w.2) }

  is_expression : (v : Val UnpackedIndex) (bytes more : List ℕ) → IsTypedExpressionAt C F imported v bytes more → behind_expression C F imported v bytes ≡ Some more
  is_expression v bytes more x =
      let w = (expressions_are_whole (world C) (around_constants C F) imported v bytes x.typed.0 more).1 (x.expression, x.read, x.typed.1) in
      (are_found C F imported v bytes more).1 (record { last = x.typed.0; is = w })

  pub expressions : ExpressionsAreTyped C F imported
  expressions v bytes more = (expression_found v bytes more, is_expression v bytes more)

  -- globals
  abbrev typed_rest : Global UnpackedIndex × List ℕ → Option (Global UnpackedIndex × List ℕ)
  typed_rest g = option_map (λ m. (g.0, m)) (behind_expression C F imported g.0.content g.1)

  abbrev resolved_rest : Global UnpackedIndex × List ℕ → Option (Global UnpackedIndex × List ℕ)
  resolved_rest g = option_map (λ v. (with_content g.0 v, g.1)) (val_in C F g.0.content)

  abbrev entry_rest : Global UnpackedIndex × List ℕ → Option (GlobalEntry Expression UnpackedIndex × List ℕ)
  entry_rest g = option_map (λ e. (record { ty = g.0; init = e.0 }, e.1)) (expression_at g.1)

  global_typed : (bytes : List ℕ) → typed_global_at C F imported bytes ≡ option_and_then typed_rest (global_type_at C F bytes)
  unfolding typed_global_at
  global_typed bytes = refl

  global_resolved : (bytes : List ℕ) → global_type_at C F bytes ≡ option_and_then resolved_rest (global_at written bytes)
  unfolding global_type_at
  global_resolved bytes = refl

  global_entered : (bytes : List ℕ) → global_entry_at expression_at written bytes ≡ option_and_then entry_rest (global_at written bytes)
  unfolding global_entry_at
  global_entered bytes = refl

  global_found : (bytes : List ℕ) (g : Global UnpackedIndex) (more : List ℕ) → typed_global_at C F imported bytes ≡ Some (g, more) → IsTypedGlobalAt C F imported bytes g more
  global_found bytes g more e =
      let a = then_gives typed_rest (global_type_at C F bytes) (g, more) (sym (global_typed bytes) ∙ e) in
      let b = map_gives (λ m. (a.0.0, m)) (behind_expression C F imported a.0.0.content a.0.1) (g, more) a.2 in
      let c = then_gives resolved_rest (global_at written bytes) a.0 (sym (global_resolved bytes) ∙ a.1) in
      let d = map_gives (λ v. (with_content c.0.0 v, c.0.1)) (val_in C F c.0.0.content) a.0 c.2 in
      let behind : behind_expression C F imported d.0 c.0.1 ≡ Some more =
      subst (λ (p : Global UnpackedIndex × List ℕ). behind_expression C F imported p.0.content p.1 ≡ Some b.0) (sym d.2) b.1 ∙ ap (λ (q : Global UnpackedIndex × List ℕ). Some q.1) b.2 in
      let x = expression_found d.0 c.0.1 more behind in
      record {
        entry = record { ty = c.0.0; init = x.expression };
        read = global_entered bytes ∙ then_of entry_rest (global_at written bytes) c.0 (record { ty = c.0.0; init = x.expression }, more) c.1
            (map_of (λ (e : Expression × List ℕ). (record { ty = c.0.0; init = e.0 }, e.1)) (expression_at c.0.1) (x.expression, more) x.read);
        content = d.0;
        resolved = d.1;
        is = sym (ap (λ (q : Global UnpackedIndex × List ℕ). q.0) b.2) ∙ ap (λ (p : Global UnpackedIndex × List ℕ). p.0) (sym d.2);
        typed = x.typed;
      }

  is_global : (bytes : List ℕ) (g : Global UnpackedIndex) (more : List ℕ) → IsTypedGlobalAt C F imported bytes g more → typed_global_at C F imported bytes ≡ Some (g, more)
  is_global bytes g more p =
      let c = then_gives entry_rest (global_at written bytes) (p.entry, more) (sym (global_entered bytes) ∙ p.read) in
      let d = map_gives (λ (e : Expression × List ℕ). (record { ty = c.0.0; init = e.0 }, e.1)) (expression_at c.0.1) (p.entry, more) c.2 in
      let ty : p.entry.ty ≡ c.0.0 = sym (ap (λ (q : GlobalEntry Expression UnpackedIndex × List ℕ). q.0.ty) d.2) in
      let v : val_in C F c.0.0.content ≡ Some p.content = subst (λ (t : Global UnpackedIndex). val_in C F t.content ≡ Some p.content) ty p.resolved in
      let there : global_type_at C F bytes ≡ Some (with_content c.0.0 p.content, c.0.1) =
      global_resolved bytes ∙ then_of resolved_rest (global_at written bytes) c.0 (with_content c.0.0 p.content, c.0.1) c.1
      (map_of (λ (w : Val UnpackedIndex). (with_content c.0.0 w, c.0.1)) (val_in C F c.0.0.content) p.content v) in
      let whole : expression_at c.0.1 ≡ Some (p.entry.init, more) = d.1 ∙ ap (λ (q : GlobalEntry Expression UnpackedIndex × List ℕ). Some (q.0.init, q.1)) d.2 in
      let behind : behind_expression C F imported p.content c.0.1 ≡ Some more = is_expression p.content c.0.1 more (record { expression = p.entry.init; read = whole; typed = p.typed }) in
      let same : with_content c.0.0 p.content ≡ g = ap (λ (t : Global UnpackedIndex). with_content t p.content) (sym ty) ∙ sym p.is in
      global_typed bytes ∙ then_of typed_rest (global_type_at C F bytes) (with_content c.0.0 p.content, c.0.1) (g, more) there
      (map_of (λ (m : List ℕ). (with_content c.0.0 p.content, m)) (behind_expression C F imported p.content c.0.1) more behind ∙ ap (λ (h : Global UnpackedIndex). Some (h, more)) same)

  pub globals : GlobalsAreTyped C F imported
  globals bytes g more = (global_found bytes g more, is_global bytes g more)

  -- offsets into a memory
  abbrev offset_rest : List ℕ → Memory → Option (List ℕ)
  offset_rest bytes m = behind_expression C F imported (address_type m.is_64) bytes

  offset_typed : (x : ℕ) (bytes : List ℕ) → behind_memory_offset C F imported x bytes ≡ option_and_then (offset_rest bytes) (slice_get C.memories x)
  unfolding behind_memory_offset
  offset_typed x bytes = refl

  offset_found : (x : ℕ) (bytes more : List ℕ) → behind_memory_offset C F imported x bytes ≡ Some more
      → (m : Memory) × (slice_get C.memories x ≡ Some m) × IsTypedExpressionAt C F imported (address_type m.is_64) bytes more
  offset_found x bytes more e =
      let o = then_gives (offset_rest bytes) (slice_get C.memories x) more (sym (offset_typed x bytes) ∙ e) in
      (o.0, o.1, expression_found (address_type o.0.is_64) bytes more o.2)

  is_offset : (x : ℕ) (bytes more : List ℕ) (m : Memory) → slice_get C.memories x ≡ Some m → IsTypedExpressionAt C F imported (address_type m.is_64) bytes more → behind_memory_offset C F imported x bytes ≡ Some more
  is_offset x bytes more m e t = offset_typed x bytes ∙ then_of (offset_rest bytes) (slice_get C.memories x) m more e (is_expression (address_type m.is_64) bytes more t)

  -- where a data segment goes, by the tests of its flag
  abbrev behind_by : Bool → Bool → Bool → List ℕ → Option (List ℕ)
  behind_by b c d bytes =
      if b then behind_memory_offset C F imported 0 bytes
      else (if c then (if F.bulk_memory then Some bytes else None) else (if d then option_and_then (λ m. behind_memory_offset C F imported m.0 m.1) (u32_at bytes) else None))

  abbrev written_mode : ℕ × List ℕ → Option (SegmentMode Expression × List ℕ)
  written_mode m = option_map (λ e. (active (Some m.0) e.0, e.1)) (expression_at m.1)

  abbrev mode_by : Bool → Bool → Bool → List ℕ → Option (SegmentMode Expression × List ℕ)
  mode_by b c d bytes =
      if b then option_map (λ e. (active None e.0, e.1)) (expression_at bytes)
      else (if c then Some (passive, bytes) else (if d then option_and_then written_mode (u32_at bytes) else None))

  mode_found : (b c d : Bool) (bytes more : List ℕ) → behind_by b c d bytes ≡ Some more → (m : SegmentMode Expression) × (mode_by b c d bytes ≡ Some (m, more)) × IsTypedDataModeIn C F imported m
  mode_found true c d bytes more e =
      let o = offset_found 0 bytes more e in
      (active None o.2.expression, map_of (λ (x : Expression × List ℕ). (active None x.0, x.1)) (expression_at bytes) (o.2.expression, more) o.2.read, (o.0, o.1, o.2.typed))
  mode_found false true d bytes more e =
      let k = kept_where F.bulk_memory bytes more e in
      (passive, ap (λ (r : List ℕ). Some (passive, r)) k.1, k.0)
  mode_found false false true bytes more e =
      let u = then_gives (λ (m : ℕ × List ℕ). behind_memory_offset C F imported m.0 m.1) (u32_at bytes) more e in
      let o = offset_found u.0.0 u.0.1 more u.2 in (
        active (Some u.0.0) o.2.expression,
        then_of written_mode (u32_at bytes) u.0 (active (Some u.0.0) o.2.expression, more) u.1
            (map_of (λ (x : Expression × List ℕ). (active (Some u.0.0) x.0, x.1)) (expression_at u.0.1) (o.2.expression, more) o.2.read),
        (o.0, o.1, o.2.typed),
      )
  mode_found false false false bytes more e = absurd cc

  is_mode : (b c d : Bool) (bytes more : List ℕ) (m : SegmentMode Expression) → mode_by b c d bytes ≡ Some (m, more) → IsTypedDataModeIn C F imported m → behind_by b c d bytes ≡ Some more
  is_mode true c d bytes more m e t =
      let x = map_gives (λ (x : Expression × List ℕ). (active None x.0, x.1)) (expression_at bytes) (m, more) e in
      let typed : IsTypedDataModeIn C F imported (active None x.0.0) = subst (λ k. IsTypedDataModeIn C F imported k) (sym (ap (λ (q : SegmentMode Expression × List ℕ). q.0) x.2)) t in
      is_offset 0 bytes more typed.0 typed.1 (record { expression = x.0.0; read = x.1 ∙ ap (λ (q : SegmentMode Expression × List ℕ). Some (x.0.0, q.1)) x.2; typed = typed.2 })
  is_mode false true d bytes more m e t =
      let p = same_Some (passive, bytes) (m, more) e in
      let on : F.bulk_memory ≡ true = subst (λ k. IsTypedDataModeIn C F imported k) (sym (ap (λ (q : SegmentMode Expression × List ℕ). q.0) p)) t in
      are_kept F.bulk_memory bytes more on (ap (λ (q : SegmentMode Expression × List ℕ). q.1) p)
  is_mode false false true bytes more m e t =
      let u = then_gives written_mode (u32_at bytes) (m, more) e in
      let x = map_gives (λ (x : Expression × List ℕ). (active (Some u.0.0) x.0, x.1)) (expression_at u.0.1) (m, more) u.2 in
      let typed : IsTypedDataModeIn C F imported (active (Some u.0.0) x.0.0) = subst (λ k. IsTypedDataModeIn C F imported k) (sym (ap (λ (q : SegmentMode Expression × List ℕ). q.0) x.2)) t in
      then_of (λ (p : ℕ × List ℕ). behind_memory_offset C F imported p.0 p.1) (u32_at bytes) u.0 more u.1
      (is_offset u.0.0 u.0.1 more typed.0 typed.1 (record { expression = x.0.0; read = x.1 ∙ ap (λ (q : SegmentMode Expression × List ℕ). Some (x.0.0, q.1)) x.2; typed = typed.2 }))
  is_mode false false false bytes more m e t = absurd cc

  -- data segments
  abbrev sized_rest : List ℕ → Option (List ℕ)
  sized_rest bytes = option_map (λ b. b.1) (sized_at bytes)

  abbrev behind_rest : ℕ × List ℕ → Option (List ℕ)
  behind_rest f = option_and_then sized_rest (behind_data_mode C F imported f.0 f.1)

  abbrev data_sized : SegmentMode Expression × List ℕ → Option (Data Expression × List ℕ)
  data_sized m = option_map (λ b. (record { mode = m.0; bytes = b.0 }, b.1)) (sized_at m.1)

  abbrev data_rest : ℕ × List ℕ → Option (Data Expression × List ℕ)
  data_rest f = option_and_then data_sized (data_mode_from expression_at f.0 f.1)

  data_typed : (bytes : List ℕ) → behind_data C F imported bytes ≡ option_and_then behind_rest (u32_at bytes)
  unfolding behind_data
  data_typed bytes = refl

  data_entered : (bytes : List ℕ) → data_at expression_at bytes ≡ option_and_then data_rest (u32_at bytes)
  unfolding data_at
  data_entered bytes = refl

  data_found : (bytes more : List ℕ) → behind_data C F imported bytes ≡ Some more → IsTypedDataAt C F imported bytes more
  data_found bytes more e =
      let f = then_gives behind_rest (u32_at bytes) more (sym (data_typed bytes) ∙ e) in
      let m = then_gives sized_rest (behind_data_mode C F imported f.0.0 f.0.1) more f.2 in
      let s = map_gives (λ (b : List ℕ × List ℕ). b.1) (sized_at m.0) more m.2 in
      let k = mode_found (f.0.0 == 0) (f.0.0 == 1) (f.0.0 == 2) f.0.1 m.0 m.1 in
      record {
        segment = record { mode = k.0; bytes = s.0.0 };
        read = data_entered bytes ∙ then_of data_rest (u32_at bytes) f.0 (record { mode = k.0; bytes = s.0.0 }, more) f.1
            (then_of data_sized (data_mode_from expression_at f.0.0 f.0.1) (k.0, m.0) (record { mode = k.0; bytes = s.0.0 }, more) k.1
            (map_of (λ (b : List ℕ × List ℕ). (record { mode = k.0; bytes = b.0 }, b.1)) (sized_at m.0) s.0 s.1 ∙ ap (λ r. Some (record { mode = k.0; bytes = s.0.0 }, r)) s.2));
        typed = k.2;
      }

  is_data : (bytes more : List ℕ) → IsTypedDataAt C F imported bytes more → behind_data C F imported bytes ≡ Some more
  is_data bytes more p =
      let f = then_gives data_rest (u32_at bytes) (p.segment, more) (sym (data_entered bytes) ∙ p.read) in
      let m = then_gives data_sized (data_mode_from expression_at f.0.0 f.0.1) (p.segment, more) f.2 in
      let s = map_gives (λ (b : List ℕ × List ℕ). (record { mode = m.0.0; bytes = b.0 }, b.1)) (sized_at m.0.1) (p.segment, more) m.2 in
      let same : m.0.0 ≡ p.segment.mode = ap (λ (q : Data Expression × List ℕ). q.0.mode) s.2 in
      let there : behind_data_mode C F imported f.0.0 f.0.1 ≡ Some m.0.1 =
      is_mode (f.0.0 == 0) (f.0.0 == 1) (f.0.0 == 2) f.0.1 m.0.1 m.0.0 m.1 (subst (λ k. IsTypedDataModeIn C F imported k) (sym same) p.typed) in
      data_typed bytes ∙ then_of behind_rest (u32_at bytes) f.0 more f.1
      (then_of sized_rest (behind_data_mode C F imported f.0.0 f.0.1) m.0.1 more there
      (map_of (λ (b : List ℕ × List ℕ). b.1) (sized_at m.0.1) s.0 s.1 ∙ ap (λ (q : Data Expression × List ℕ). Some q.1) s.2))

  pub segments : DataAreTyped C F imported
  segments bytes more = (data_found bytes more, is_data bytes more)
