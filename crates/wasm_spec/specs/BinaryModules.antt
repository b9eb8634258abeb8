-- Core Specification 3.0, Binary Format, Modules: the entries of the import and export sections. And the proposal on
-- compact imports: entries that stand for several imports.
use Rattle.std.specs.Prelude.{ℕ, ◌==◌, ◌&&◌, if◌then◌else◌, List, [], ◌∷◌, map, length, Option, None}
use Rattle.std.specs.Option.{option_map, option_and_then}
use Rattle.wasm_spec.specs.Syntax.{Extern, func_extern, func_exact_extern, table_extern, memory_extern, global_extern, tag_extern, map_extern}
use Rattle.wasm_spec.specs.Values.{byte_at, u32_at, name_at, list_at}
use Rattle.wasm_spec.specs.BinaryTypes.{flags_at, table_at, memory_at, global_at, tag_at}

-- an import: a module name, an item name and an external type
pub record Import (R : Type 0) : Type 0 where
  pub module_name : List ℕ
  pub item_name : List ℕ
  pub ty : Extern R

-- an export: a name, a kind and an index. The kinds are 0 to 4: functions, tables, memories, globals, tags.
pub record Export : Type 0 where
  pub name : List ℕ
  pub kind : ℕ
  pub index : ℕ

unfoldable pub export_at : List ℕ → Option (Export × List ℕ)
export_at bytes =
    option_and_then
    (λ n. option_and_then (λ k. option_map (λ i. (record { name = n.0; kind = k.0; index = i.0 }, i.1)) (u32_at k.1)) (flags_at 4 n.1))
    (name_at bytes)

-- an import from this module and of this type: an item name
abbrev pub named_at : {R : Type 0} → List ℕ → Extern R → List ℕ → Option (Import R × List ℕ)
named_at m ty bytes = option_map (λ n. (record { module_name = m; item_name = n.0; ty = ty }, n.1)) (name_at bytes)

module _ {R : Type 0} (to : ℕ → R) where
  -- external types: a kind, and a type or a type index; 20 is the kind of exactly typed functions
  abbrev pub extern_from : ℕ → List ℕ → Option (Extern R × List ℕ)
  extern_from b more =
      if b == 0 then option_map (λ x. (func_extern x.0, x.1)) (u32_at more)
      else (if b == 1 then option_map (λ t. (table_extern t.0, t.1)) (table_at to more)
      else (if b == 2 then option_map (λ m. (memory_extern m.0, m.1)) (memory_at more)
      else (if b == 3 then option_map (λ g. (global_extern g.0, g.1)) (global_at to more)
      else (if b == 4 then option_map (λ x. (tag_extern x.0, x.1)) (tag_at more)
      else (if b == 0x20 then option_map (λ x. (func_exact_extern x.0, x.1)) (u32_at more)
      else None)))))

  unfoldable pub extern_at : List ℕ → Option (Extern R × List ℕ)
  extern_at bytes = option_and_then (λ b. extern_from b.0 b.1) (byte_at bytes)

  unfoldable pub import_at : List ℕ → Option (Import R × List ℕ)
  import_at bytes =
      option_and_then
      (λ m. option_and_then (λ n. option_map (λ t. (record { module_name = m.0; item_name = n.0; ty = t.0 }, t.1)) (extern_at n.1)) (name_at m.1))
      (name_at bytes)

  -- an import from this module: an item name and an external type
  abbrev pub item_at : List ℕ → List ℕ → Option (Import R × List ℕ)
  item_at m bytes = option_and_then (λ n. option_map (λ t. (record { module_name = m; item_name = n.0; ty = t.0 }, t.1)) (extern_at n.1)) (name_at bytes)

  -- What follows the name of the module, by the item name and the byte that stand there. Behind an empty name 0x7F stands
  -- before a list of names with types, and 0x7E before a type and a list of names.
  abbrev pub items_from : List ℕ → List ℕ → List ℕ → ℕ → List ℕ → Option (List (Import R) × List ℕ)
  items_from m bytes name b more =
      if length name == 0 && b == 0x7F then list_at (item_at m) more
      else (if length name == 0 && b == 0x7E then option_and_then (λ t. list_at (named_at m t.0) t.1) (extern_at more)
      else option_map (λ i. (i.0 ∷ [], i.1)) (item_at m bytes))

  -- the imports that an entry stands for, where an entry may stand for several
  unfoldable pub entry_at : List ℕ → Option (List (Import R) × List ℕ)
  entry_at bytes = option_and_then (λ m. option_and_then (λ n. option_and_then (λ b. items_from m.0 m.1 n.0 b.0 b.1) (byte_at n.1)) (name_at m.1)) (name_at bytes)

-- each reference of an import renamed
abbrev pub map_import : {R S : Type 0} → (R → S) → Import R → Import S
map_import f i = record { module_name = i.module_name; item_name = i.item_name; ty = map_extern f i.ty }

-- and of each import of an entry
abbrev pub map_entry : {R S : Type 0} → (R → S) → List (Import R) → List (Import S)
map_entry f is = map (map_import f) is
