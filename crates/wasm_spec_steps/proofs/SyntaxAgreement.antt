-- Two renamings that agree on the identities in a piece of syntax rename it to the same; and a renaming after a renaming is one.
use Rattle.std.proofs.Common.{◌≡◌, refl, ap, zero, suc, arith, List, [], ◌∷◌, ◌++◌, map, Option, Some, None, option_map}
use Rattle.std.specs.List.{flat_map, Contains}
use Rattle.std.proofs.lemmas.List.Elements.{Contains-append_left, Contains-append_right}
use Rattle.wasm_spec_rules.specs.WasmSpec.Syntax.{Heap, abstract_heap, concrete, exact, Ref, Val, i32, i64, f32, f64, v128, reference, Storage, i8, i16, unpacked, Field, Comp, func, array, struct, cont, Sub, Table, Global, map_heap, map_ref, map_val, map_storage, map_field, map_comp, map_sub, map_table, map_global}
use Rattle.wasm_spec_rules.specs.WasmSpec.References.{refs_option, refs_heap, refs_val, refs_storage, refs_field, refs_comp, refs_sub}
use Rattle.wasm_spec_rules.proofs.WasmSpec.SyntaxMaps.{map-map_by, map_ref-map, map_val-map, map_table-map, map_global-map, map_sub-map}
use Rattle.wasm_spec_rules.specs.Contexts.{Context, renamed_declared, map_context}
use Rattle.wasm_operators.specs.Control.{Block, empty_block, value_block, func_block}
use Rattle.wasm_operators.specs.Maps.{map_block}
use Rattle.wasm_spec_steps.specs.Bodies.{Local, Surroundings, map_local, map_surroundings}
use Rattle.wasm_spec_steps.specs.Machine.{Operand, bottom, bottom_reference, open_reference, known, Frame, State, map_operand, map_frame, map_state}
use Rattle.wasm_spec_steps.specs.Identities.{refs_ref, refs_declared, refs_table, refs_global, refs_context, refs_local, refs_surroundings, refs_block, refs_operand, refs_frame, refs_state}

pub Contains-behind : {X : Type 0} (y x : X) (xs : List X) → Contains xs x → Contains (y ∷ xs) x
Contains-behind y x xs c = (suc c.0, omega (arith, c.1), c.2)

module _ {R S : Type 0} (p q : R → S) where
  abbrev pub AgreeOn : List R → Type 0
  AgreeOn ids = (a : R) → Contains ids a → p a ≡ q a

  left : (xs ys : List R) → AgreeOn (xs ++ ys) → AgreeOn xs
  left xs ys h a c = h a (Contains-append_left xs ys a c)

  right : (xs ys : List R) → AgreeOn (xs ++ ys) → AgreeOn ys
  right xs ys h a c = h a (Contains-append_right xs ys a c)

  at_first : (a : R) (ids : List R) → AgreeOn (a ∷ ids) → p a ≡ q a
  at_first a ids h = h a (zero, omega arith, refl)

  behind : (b : R) (ids : List R) → AgreeOn (b ∷ ids) → AgreeOn ids
  behind b ids h a c = h a (Contains-behind b a ids c)

  each : {X Y : Type 0} (refs : X → List R) (u v : X → Y) → ((x : X) → AgreeOn (refs x) → u x ≡ v x) → (xs : List X) → AgreeOn (flat_map refs xs) → map u xs ≡ map v xs
  each refs u v e [] h = refl
  each refs u v e (x ∷ xs) h = λ i. e x (left (refs x) (flat_map refs xs) h) i ∷ each refs u v e xs (right (refs x) (flat_map refs xs) h) i

  agree_list : (ids : List R) → AgreeOn ids → map p ids ≡ map q ids
  agree_list [] h = refl
  agree_list (a ∷ ids) h = λ i. at_first a ids h i ∷ agree_list ids (behind a ids h) i

  agree_option : (o : Option R) → AgreeOn (refs_option o) → option_map p o ≡ option_map q o
  agree_option None h = refl
  agree_option (Some a) h = ap Some (at_first a [] h)

  agree_heap : (x : Heap R) → AgreeOn (refs_heap x) → map_heap p x ≡ map_heap q x
  agree_heap (abstract_heap s k) h = refl
  agree_heap (concrete a) h = ap concrete (at_first a [] h)
  agree_heap (exact a) h = ap exact (at_first a [] h)

  agree_ref : (r : Ref R) → AgreeOn (refs_ref r) → map_ref p r ≡ map_ref q r
  agree_ref r h = λ i. record { nullable = r.nullable; heap = agree_heap r.heap h i }

  agree_val : (v : Val R) → AgreeOn (refs_val v) → map_val p v ≡ map_val q v
  agree_val i32 h = refl
  agree_val i64 h = refl
  agree_val f32 h = refl
  agree_val f64 h = refl
  agree_val v128 h = refl
  agree_val (reference r) h = ap reference (agree_ref r h)

  agree_storage : (x : Storage R) → AgreeOn (refs_storage x) → map_storage p x ≡ map_storage q x
  agree_storage i8 h = refl
  agree_storage i16 h = refl
  agree_storage (unpacked v) h = ap unpacked (agree_val v h)

  agree_field : (x : Field R) → AgreeOn (refs_field x) → map_field p x ≡ map_field q x
  agree_field x h = λ i. record { storage = agree_storage x.storage h i; mutable = x.mutable }

  agree_comp : (c : Comp R) → AgreeOn (refs_comp c) → map_comp p c ≡ map_comp q c
  agree_comp (func ps rs) h = λ i.
      func (each refs_val (map_val p) (map_val q) agree_val ps (left (flat_map refs_val ps) (flat_map refs_val rs) h) i)
      (each refs_val (map_val p) (map_val q) agree_val rs (right (flat_map refs_val ps) (flat_map refs_val rs) h) i)
  agree_comp (array x) h = ap array (agree_field x h)
  agree_comp (struct xs) h = ap struct (each refs_field (map_field p) (map_field q) agree_field xs h)
  agree_comp (cont r) h = ap cont (at_first r [] h)

  agree_sub : (s : Sub R) → AgreeOn (refs_sub s) → map_sub p s ≡ map_sub q s
  agree_sub s h =
      let after_supers : AgreeOn (refs_option s.describes ++ (refs_option s.descriptor ++ refs_comp s.comp)) = right s.supers (refs_option s.describes ++ (refs_option s.descriptor ++ refs_comp s.comp)) h in
      let after_describes : AgreeOn (refs_option s.descriptor ++ refs_comp s.comp) = right (refs_option s.describes) (refs_option s.descriptor ++ refs_comp s.comp) after_supers in
      λ i. record {
        is_final = s.is_final;
        supers = agree_list s.supers (left s.supers (refs_option s.describes ++ (refs_option s.descriptor ++ refs_comp s.comp)) h) i;
        shared = s.shared;
        comp = agree_comp s.comp (right (refs_option s.descriptor) (refs_comp s.comp) after_describes) i;
        descriptor = agree_option s.descriptor (left (refs_option s.descriptor) (refs_comp s.comp) after_describes) i;
        describes = agree_option s.describes (left (refs_option s.describes) (refs_option s.descriptor ++ refs_comp s.comp) after_supers) i;
      }

  agree_declared : (d : R × Sub R) → AgreeOn (refs_declared d) → renamed_declared p d ≡ renamed_declared q d
  agree_declared d h = λ i. (at_first d.0 (refs_sub d.1) h i, agree_sub d.1 (behind d.0 (refs_sub d.1) h) i)

  agree_table : (t : Table R) → AgreeOn (refs_table t) → map_table p t ≡ map_table q t
  agree_table t h = λ i. record { element = agree_ref t.element h i; is_64 = t.is_64; minimum = t.minimum; maximum = t.maximum; shared = t.shared }

  agree_global : (g : Global R) → AgreeOn (refs_global g) → map_global p g ≡ map_global q g
  agree_global g h = λ i. record { content = agree_val g.content h i; mutable = g.mutable; shared = g.shared }

  agree_context : (C : Context R) → AgreeOn (refs_context C) → map_context p C ≡ map_context q C
  agree_context C h =
      let elements : List R = flat_map refs_ref C.elements in
      let globals : List R = flat_map refs_global C.globals ++ elements in
      let tables : List R = flat_map refs_table C.tables ++ globals in
      let declared : List R = flat_map refs_declared C.declares ++ tables in
      let in_declared : AgreeOn declared = right C.types declared h in
      let in_tables : AgreeOn tables = right (flat_map refs_declared C.declares) tables in_declared in
      let in_globals : AgreeOn globals = right (flat_map refs_table C.tables) globals in_tables in
      λ i. record {
        types = agree_list C.types (left C.types declared h) i;
        declares = each refs_declared (renamed_declared p) (renamed_declared q) agree_declared C.declares (left (flat_map refs_declared C.declares) tables in_declared) i;
        functions = C.functions;
        exact = C.exact;
        tables = each refs_table (map_table p) (map_table q) agree_table C.tables (left (flat_map refs_table C.tables) globals in_tables) i;
        memories = C.memories;
        globals = each refs_global (map_global p) (map_global q) agree_global C.globals (left (flat_map refs_global C.globals) elements in_globals) i;
        tags = C.tags;
        elements = each refs_ref (map_ref p) (map_ref q) agree_ref C.elements (right (flat_map refs_global C.globals) elements in_globals) i;
        data_count = C.data_count;
        references = C.references;
      }

  agree_local : (x : Local R) → AgreeOn (refs_local x) → map_local p x ≡ map_local q x
  agree_local x h = λ i. record { content = agree_val x.content h i; set = x.set }

  pub agree_surroundings : (B : Surroundings R) → AgreeOn (refs_surroundings B) → map_surroundings p B ≡ map_surroundings q B
  agree_surroundings B h = λ i. record {
    features = B.features;
    context = agree_context B.context (left (refs_context B.context) (flat_map refs_local B.locals) h) i;
    locals = each refs_local (map_local p) (map_local q) agree_local B.locals (right (refs_context B.context) (flat_map refs_local B.locals) h) i;
    shared = B.shared;
  }

  pub agree_block : (b : Block R) → AgreeOn (refs_block b) → map_block p b ≡ map_block q b
  agree_block empty_block h = refl
  agree_block (value_block v) h = ap value_block (agree_val v h)
  agree_block (func_block x) h = refl

  agree_operand : (x : Operand R) → AgreeOn (refs_operand x) → map_operand p x ≡ map_operand q x
  agree_operand bottom h = refl
  agree_operand bottom_reference h = refl
  agree_operand (open_reference k) h = refl
  agree_operand (known v) h = ap known (agree_val v h)

  agree_frame : (x : Frame R) → AgreeOn (refs_frame x) → map_frame p x ≡ map_frame q x
  agree_frame x h = λ i. record { kind = x.kind; block = agree_block x.block h i; height = x.height; unreachable = x.unreachable; init_height = x.init_height }

  pub agree_state : (s : State R) → AgreeOn (refs_state s) → map_state p s ≡ map_state q s
  agree_state s h = λ i. record {
    operands = each refs_operand (map_operand p) (map_operand q) agree_operand s.operands (left (flat_map refs_operand s.operands) (flat_map refs_frame s.frames) h) i;
    frames = each refs_frame (map_frame p) (map_frame q) agree_frame s.frames (right (flat_map refs_operand s.operands) (flat_map refs_frame s.frames) h) i;
    inits = s.inits;
  }

-- a renaming after a renaming
module _ {Q R S : Type 0} (g : R → S) (f : Q → R) where
  abbrev pub after : Q → S
  after a = g (f a)

  local-map : (x : Local Q) → map_local g (map_local f x) ≡ map_local after x
  local-map x = λ i. record { content = map_val-map g f x.content i; set = x.set }

  declared-map : (d : Q × Sub Q) → renamed_declared g (renamed_declared f d) ≡ renamed_declared after d
  declared-map d = λ i. (g (f d.0), map_sub-map g f d.1 i)

  pub surroundings-map : (B : Surroundings Q) → map_surroundings g (map_surroundings f B) ≡ map_surroundings after B
  surroundings-map B = λ i. record {
    features = B.features;
    context = record {
      types = map-map_by g f after (λ a. refl) B.context.types i;
      declares = map-map_by (renamed_declared g) (renamed_declared f) (renamed_declared after) declared-map B.context.declares i;
      functions = B.context.functions;
      exact = B.context.exact;
      tables = map-map_by (map_table g) (map_table f) (map_table after) (map_table-map g f) B.context.tables i;
      memories = B.context.memories;
      globals = map-map_by (map_global g) (map_global f) (map_global after) (map_global-map g f) B.context.globals i;
      tags = B.context.tags;
      elements = map-map_by (map_ref g) (map_ref f) (map_ref after) (map_ref-map g f) B.context.elements i;
      data_count = B.context.data_count;
      references = B.context.references;
    };
    locals = map-map_by (map_local g) (map_local f) (map_local after) local-map B.locals i;
    shared = B.shared;
  }

  pub block-map : (b : Block Q) → map_block g (map_block f b) ≡ map_block after b
  block-map empty_block = refl
  block-map (value_block v) = ap value_block (map_val-map g f v)
  block-map (func_block x) = refl

  operand-map : (x : Operand Q) → map_operand g (map_operand f x) ≡ map_operand after x
  operand-map bottom = refl
  operand-map bottom_reference = refl
  operand-map (open_reference k) = refl
  operand-map (known v) = ap known (map_val-map g f v)

  frame-map : (x : Frame Q) → map_frame g (map_frame f x) ≡ map_frame after x
  frame-map x = λ i. record { kind = x.kind; block = block-map x.block i; height = x.height; unreachable = x.unreachable; init_height = x.init_height }

  pub state-map : (s : State Q) → map_state g (map_state f s) ≡ map_state after s
  state-map s = λ i. record {
    operands = map-map_by (map_operand g) (map_operand f) (map_operand after) operand-map s.operands i;
    frames = map-map_by (map_frame g) (map_frame f) (map_frame after) frame-map s.frames i;
    inits = s.inits;
  }
