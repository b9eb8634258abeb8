-- What exports name: the entities that the state of a module has for them, whether these may be exported, and their
-- sizes.
use Rattle.std.proofs.Common.{◌≡◌, refl, ap, subst, ◌∙◌, inl, inr, ℕ, zero, suc, ◌==◌, Bool, true, false, ◌&&◌, cond, List, [], ◌∷◌, ◌++◌, map, get_or, slice_get, slice_index, Option, Some, None, IsTrue, All}
use Rattle.std.specs.Bool.{Decides}
use Rattle.std.specs.Option.{option_map}
use Rattle.std.proofs.lemmas.Option.{slice_get-map, slice_get_within, get_or_from_slice_get}
use Rattle.wasm_spec.specs.Syntax.{Table, Memory, Global, Extern, func_extern, func_exact_extern, table_extern, memory_extern, global_extern, tag_extern}
use Rattle.wasm_spec.specs.BinaryModules.{Export}
use Rattle.wasm_spec.specs.Features.{Features}
use Rattle.wasm_spec.specs.Trees.{DefType}
use Rattle.wasm_spec.specs.ValueTypes.{implies}
use Rattle.wasm_spec_rules.specs.Contexts.{is_exact}
use Rattle.wasm_spec_rules.specs.IndexSpaces.{IndexSpaces, signature_at, IsFunctionType}
use Rattle.wasm_spec_rules.specs.LinkRules.{exported, signature_size, extern_size, IsMovableExtern}
use Rattle.wasm_spec_rules.proofs.Tests.{chosen, map_some}
use Rattle.wasm_validator_core.specs.WasmValidatorChecks.Items.{is_movable}
use Rattle.wasm_validator_core.specs.WasmValidatorChecks.Laws.{Stand}
use Rattle.wasm_validator_types.specs.Entities.{Entity}
use Rattle.wasm_validator_types.specs.Spaces.{Spaces}
use Rattle.wasm_validator_core.specs.Items.{entity_size, function_entity, exported_function, exported_table, exported_memory, exported_global, exported_tag, exported_entity}
use Rattle.wasm_laws_core.specs.Exports.{HasSpaces}
use Rattle.wasm_laws_core.specs.ModuleParts.{listed_table, listed_global, entity_in, as_exported, exported_as, export_row, export_rows}
use Rattle.wasm_laws_core.proofs.Sizes.{IsTyped, function_size_is, entity_size_is}

-- behind the imported functions each is exactly of its type, so that exports are the same
exact_behind : (xs : List Bool) (ys : List ℕ) (k : ℕ) → get_or xs k true ≡ get_or (xs ++ map is_exact ys) k true
exact_behind [] [] k = refl
exact_behind [] (y ∷ ys) zero = refl
exact_behind [] (y ∷ ys) (suc k) = exact_behind [] ys k
exact_behind (x ∷ xs) ys zero = refl
exact_behind (x ∷ xs) ys (suc k) = exact_behind xs ys k

module _ (F : Features) (xs : List Bool) (ys : List ℕ) where
  abbrev all : List Bool
  all = xs ++ map is_exact ys

  as_behind : (k : ℕ) (item : Extern ℕ) → as_exported F xs k item ≡ as_exported F all k item
  as_behind k (func_extern x) = ap (λ b. cond (F.custom_descriptors && b) (func_exact_extern x) (func_extern x)) (exact_behind xs ys k)
  as_behind k (func_exact_extern x) = refl
  as_behind k (table_extern t) = refl
  as_behind k (memory_extern m) = refl
  as_behind k (global_extern g) = refl
  as_behind k (tag_extern x) = refl

  item_behind : (k : ℕ) (o : Option (Extern ℕ)) → exported_as F xs k o ≡ exported_as F all k o
  item_behind k None = refl
  item_behind k (Some item) = ap Some (as_behind k item)

  pub rows_behind : (ids : List ℕ) (C : IndexSpaces) (es : List Export) → export_rows F ids C xs es ≡ export_rows F ids C all es
  rows_behind ids C [] = refl
  rows_behind ids C (e ∷ es) = λ i. export_row ids e.name (item_behind e.index (exported C e) i) ++ rows_behind ids C es i

-- a function of what a test chooses
branch : {X Y : Type 0} (f : X → Y) (b : Bool) (x y : X) (u v : Y) → u ≡ f x → v ≡ f y → cond b u v ≡ f (cond b x y)
branch f true x y u v e g = e
branch f false x y u v e g = g

-- a test that chooses the form of a function
form_of : (ids : List ℕ) (b : Bool) (x : ℕ) → cond b (func_exact_extern (slice_index ids x)) (func_extern (slice_index ids x)) ≡ entity_in ids (cond b (func_exact_extern x) (func_extern x))
form_of ids true x = refl
form_of ids false x = refl

module _ (F : Features) (C : IndexSpaces) (s : Spaces) (same : HasSpaces C s) where
  abbrev type_ids : List ℕ
  type_ids = s.types

  abbrev exactly : List Bool
  exactly = s.imported_functions

  -- the lists, with these exports and this effective size
  abbrev pub state : List (List ℕ × Entity) → ℕ → Spaces
  state rows size = record s { exports = rows; size = size }

  -- what the lists have for an item that is exported
  abbrev pub entity_for : ℕ → Extern ℕ → Entity
  entity_for k item = entity_in type_ids (as_exported F exactly k item)

  abbrev pub entity_if : ℕ → Option (Extern ℕ) → Option Entity
  entity_if k o = option_map (entity_in type_ids) (exported_as F exactly k o)

  module _ (rows : List (List ℕ × Entity)) (size : ℕ) where
    abbrev here : Spaces
    here = state rows size

    function_found : (k : ℕ) (o : Option ℕ) → option_map (function_entity F here k) o ≡ entity_if k (option_map func_extern o)
    function_found k None = refl
    function_found k (Some x) = ap Some (form_of type_ids (F.custom_descriptors && get_or exactly k true) x)

    table_found : (k : ℕ) (o : Option (Table ℕ)) → option_map table_extern (option_map (listed_table type_ids) o) ≡ entity_if k (option_map table_extern o)
    table_found k None = refl
    table_found k (Some t) = refl

    memory_found : (k : ℕ) (o : Option Memory) → option_map memory_extern o ≡ entity_if k (option_map memory_extern o)
    memory_found k None = refl
    memory_found k (Some m) = refl

    global_found : (k : ℕ) (o : Option (Global ℕ)) → option_map global_extern (option_map (listed_global type_ids) o) ≡ entity_if k (option_map global_extern o)
    global_found k None = refl
    global_found k (Some g) = refl

    tag_found : (k : ℕ) (o : Option ℕ) → option_map (λ x. tag_extern (slice_index type_ids x)) o ≡ entity_if k (option_map tag_extern o)
    tag_found k None = refl
    tag_found k (Some x) = refl

    function_is : (k : ℕ) → exported_function F here k ≡ entity_if k (option_map func_extern (slice_get C.functions k))
    function_is k = ap (λ xs. option_map (function_entity F here k) (slice_get xs k)) same.functions ∙ function_found k (slice_get C.functions k)

    table_is : (k : ℕ) → exported_table here k ≡ entity_if k (option_map table_extern (slice_get C.tables k))
    table_is k =
        ap (λ ts. option_map table_extern (slice_get ts k)) same.tables
        ∙ ap (option_map table_extern) (slice_get-map (listed_table type_ids) C.tables k) ∙ table_found k (slice_get C.tables k)

    memory_is : (k : ℕ) → exported_memory here k ≡ entity_if k (option_map memory_extern (slice_get C.memories k))
    memory_is k = ap (λ ms. option_map memory_extern (slice_get ms k)) same.memories ∙ memory_found k (slice_get C.memories k)

    global_is : (k : ℕ) → exported_global here k ≡ entity_if k (option_map global_extern (slice_get C.globals k))
    global_is k =
        ap (λ gs. option_map global_extern (slice_get gs k)) same.globals
        ∙ ap (option_map global_extern) (slice_get-map (listed_global type_ids) C.globals k) ∙ global_found k (slice_get C.globals k)

    tag_is : (k : ℕ) → exported_tag here k ≡ entity_if k (option_map tag_extern (slice_get C.tags k))
    tag_is k = ap (λ xs. option_map (λ x. tag_extern (slice_index type_ids x)) (slice_get xs k)) same.tags ∙ tag_found k (slice_get C.tags k)

    -- the lists have an entity where the index spaces have an item
    pub entity_is : (e : Export) → exported_entity F here e ≡ entity_if e.index (exported C e)
    entity_is e =
        let k = e.index in
        let f = entity_if k in
        let functions = option_map func_extern (slice_get C.functions k) in
        let tables = option_map table_extern (slice_get C.tables k) in
        let memories = option_map memory_extern (slice_get C.memories k) in
        let globals = option_map global_extern (slice_get C.globals k) in
        let tags = option_map tag_extern (slice_get C.tags k) in
        branch f (e.kind == 0) functions _ (exported_function F here k) _ (function_is k)
        (branch f (e.kind == 1) tables _ (exported_table here k) _ (table_is k)
        (branch f (e.kind == 2) memories _ (exported_memory here k) _ (memory_is k)
        (branch f (e.kind == 3) globals _ (exported_global here k) _ (global_is k)
        (branch f (e.kind == 4) tags None (exported_tag here k) None (tag_is k) refl))))

-- whether an item may be exported
where_true : (a b : Bool) → Decides (implies a b) (IsTrue a → IsTrue b)
where_true true b = (λ e _. e, λ f. f refl)
where_true false b = (λ _ e. absurd (let z : false ≡ true = e in cc), λ _. refl)

form_movable : (F : Features) (ids : List ℕ) (b : Bool) (x : ℕ) → is_movable F (entity_in ids (cond b (func_exact_extern x) (func_extern x))) ≡ true
form_movable F ids true x = refl
form_movable F ids false x = refl

pub movable_decided : (F : Features) (ids : List ℕ) (exact : List Bool) (k : ℕ) (item : Extern ℕ) → Decides (is_movable F (entity_in ids (as_exported F exact k item))) (IsMovableExtern F item)
movable_decided F ids exact k (func_extern x) = (λ _. tt, λ _. form_movable F ids (F.custom_descriptors && get_or exact k true) x)
movable_decided F ids exact k (func_exact_extern x) = (λ _. tt, λ _. refl)
movable_decided F ids exact k (table_extern t) = (λ _. tt, λ _. refl)
movable_decided F ids exact k (memory_extern m) = (λ _. tt, λ _. refl)
movable_decided F ids exact k (global_extern g) = where_true g.mutable F.mutable_global
movable_decided F ids exact k (tag_extern x) = (λ _. tt, λ _. refl)

-- the size of what is exported
module _ (c : Bool) (us : List DefType) (ids : List ℕ) (types : List DefType) (stand : Stand c us ids types) where
  form_size : (b : Bool) (x : ℕ) → IsFunctionType types x → entity_size us (entity_in ids (cond b (func_exact_extern x) (func_extern x))) ≡ signature_size (signature_at types x)
  form_size true x h = function_size_is c us ids types stand x h
  form_size false x h = function_size_is c us ids types stand x h

  pub exported_size_is : (F : Features) (exact : List Bool) (k : ℕ) (item : Extern ℕ) → IsTyped types item → entity_size us (entity_in ids (as_exported F exact k item)) ≡ extern_size types item
  exported_size_is F exact k (func_extern x) h = form_size (F.custom_descriptors && get_or exact k true) x h
  exported_size_is F exact k (func_exact_extern x) h = entity_size_is c us ids types stand (func_exact_extern x) h
  exported_size_is F exact k (table_extern t) h = refl
  exported_size_is F exact k (memory_extern m) h = refl
  exported_size_is F exact k (global_extern g) h = refl
  exported_size_is F exact k (tag_extern x) h = entity_size_is c us ids types stand (tag_extern x) h

-- an item of a list keeps what all of the list keep
pub found_keeps : {X : Type 0} (P : X → Type 0) (xs : List X) (k : ℕ) (x : X) → All P xs → slice_get xs k ≡ Some x → P x
found_keeps P xs k x a e = subst P (get_or_from_slice_get xs k x x e) (a k x (slice_get_within xs k x e))

-- what is exported is of a function type, where all functions and tags are
module _ (C : IndexSpaces) (functions : All (IsFunctionType C.types) C.functions) (tags : All (IsFunctionType C.types) C.tags) where
  as_typed : {X : Type 0} (f : X → Extern ℕ) (xs : List X) (k : ℕ) (item : Extern ℕ) → ((x : X) → slice_get xs k ≡ Some x → IsTyped C.types (f x)) → option_map f (slice_get xs k) ≡ Some item → IsTyped C.types item
  as_typed f xs k item h e = let m = map_some f (slice_get xs k) item e in subst (IsTyped C.types) m.2 (h m.0 m.1)

  pub exported_typed : (e : Export) (item : Extern ℕ) → exported C e ≡ Some item → IsTyped C.types item
  exported_typed e item h =
      elim (chosen (e.kind == 0) _ _ (Some item) h) [
        | inl a ↦ as_typed func_extern C.functions e.index item (λ x g. found_keeps (IsFunctionType C.types) C.functions e.index x functions g) a.1
        | inr a ↦ elim (chosen (e.kind == 1) _ _ (Some item) a.1) [
          | inl b ↦ as_typed table_extern C.tables e.index item (λ x g. tt) b.1
          | inr b ↦ elim (chosen (e.kind == 2) _ _ (Some item) b.1) [
            | inl c ↦ as_typed memory_extern C.memories e.index item (λ x g. tt) c.1
            | inr c ↦ elim (chosen (e.kind == 3) _ _ (Some item) c.1) [
              | inl d ↦ as_typed global_extern C.globals e.index item (λ x g. tt) d.1
              | inr d ↦ elim (chosen (e.kind == 4) _ _ (Some item) d.1) [
                | inl g ↦ as_typed tag_extern C.tags e.index item (λ x l. found_keeps (IsFunctionType C.types) C.tags e.index x tags l) g.1
                | inr g ↦ absurd (let n : None ≡ Some item = g.1 in cc)
              ]
            ]
          ]
        ]
      ]
