-- The functions that an item names are those that were noted of its parts; and those of a section are those of its items.
use Rattle.std.proofs.Common.{◌≡◌, refl, sym, ap, subst, ◌∙◌, ℕ, zero, suc, ◌+◌, ◌≤◌, ◌==◌, Bool, true, false, if◌then◌else◌, List, [], ◌∷◌, length, Option, Some, None, option_map, arith}
use Rattle.std.specs.Prelude.{IfOk, OnOk, IfErr, Result, Ok, Err}
use Rattle.std.specs.Option.{option_and_then}
use Rattle.wasm_spec.specs.Syntax.{Global}
use Rattle.wasm_spec.specs.Values.{items_at}
use Rattle.wasm_spec.specs.BinaryTypes.{global_at}
use Rattle.wasm_spec.specs.BinarySections.{TableEntry, GlobalEntry, global_entry_at}
use Rattle.wasm_spec_rules.specs.Parts.{Expression}
use Rattle.wasm_readers.specs.Tables.{Head, table_head_at, table_behind}
use Rattle.wasm_readers.specs.WrittenIndices.{written}
use Rattle.wasm_readers.proofs.Tables.{heads_begin_tables}
use Rattle.wasm_readers_types.specs.WasmReadersValues.declared.indices.UnpackedIndex.{UnpackedIndex}
use Rattle.wasm_validator_segments.specs.WasmValidatorReferences.WasmSpecValidity.Expressions.{expression_at, named}
use Rattle.wasm_validator_core.specs.declared.error.Error.{Error}
use Rattle.wasm_validator_segments.specs.WasmValidatorReferences.References.{names_if, table_names, global_names, names_of_table, names_of_global, names_of_expression}
use Rattle.wasm_validator_items.specs.Answers.{Refuses}
use Rattle.wasm_validator_items.specs.Entries.{names_of_init}
use Rattle.wasm_validator_items.specs.Sections.{read_each}

-- a global names what its initializer names
module _ (g : Global UnpackedIndex) where
  abbrev entry : Expression × List ℕ → GlobalEntry Expression UnpackedIndex × List ℕ
  entry e = (record { ty = g; init = e.0 }, e.1)

  by_initializer : (o : Option (Expression × List ℕ)) → names_if global_names (option_map entry o) ≡ names_if named o
  by_initializer None = refl
  by_initializer (Some e) = refl

pub global_named : (g : Global UnpackedIndex) (bytes more : List ℕ) → global_at written bytes ≡ Some (g, more) → names_of_global bytes ≡ names_of_expression more
unfolding global_entry_at
global_named g bytes more e =
    ap (λ (o : Option (Global UnpackedIndex × List ℕ)). names_if global_names (option_and_then (λ h. option_map (entry h.0) (expression_at h.1)) o)) e
    ∙ by_initializer g (expression_at more)

-- and a table what its entries begin with
behind_head : (h : Head) (o : Option (Expression × List ℕ)) → names_if table_names (option_map {U = TableEntry Expression UnpackedIndex × List ℕ} (λ e. (record { ty = h.ty; init = Some e.0 }, e.1)) o) ≡ names_if named o
behind_head h None = refl
behind_head h (Some e) = refl

by_head : (h : Head) (b : Bool) → h.has_init ≡ b → (more : List ℕ) → names_if table_names (table_behind expression_at h more) ≡ names_of_init b more
by_head h true e more =
    ap (λ (b : Bool). names_if table_names (if b then option_map {U = TableEntry Expression UnpackedIndex × List ℕ} (λ x. (record { ty = h.ty; init = Some x.0 }, x.1)) (expression_at more) else Some (record { ty = h.ty; init = None }, more))) e
    ∙ behind_head h (expression_at more)
by_head h false e more =
    ap (λ (b : Bool). names_if table_names (if b then option_map {U = TableEntry Expression UnpackedIndex × List ℕ} (λ x. (record { ty = h.ty; init = Some x.0 }, x.1)) (expression_at more) else Some (record { ty = h.ty; init = None }, more))) e

pub table_named : (h : Head) (bytes more : List ℕ) → table_head_at bytes ≡ Some (h, more) → names_of_table bytes ≡ names_of_init h.has_init more
table_named h bytes more e =
    ap (names_if table_names) (heads_begin_tables expression_at bytes)
    ∙ ap (λ (o : Option (Head × List ℕ)). names_if table_names (option_and_then (λ x. table_behind expression_at x.0 x.1) o)) e
    ∙ by_head h h.has_init refl more

-- the answer says the same in other words for what is read and added
pub ok_as : {T E X : Type 0} (r : Result T E) (o p x : Option X) → o ≡ p → IfOk r (λ t. o ≡ x) → IfOk r (λ t. p ≡ x)
ok_as (Ok t) o p x e h = sym e ∙ h
ok_as (Err w) o p x e h = tt

pub err_says : {A T X : Type 0} (r : Result T (Error A)) (o p : Option X) → o ≡ p → IfErr r (λ w. Refuses w o) → IfErr r (λ w. Refuses w p)
err_says {A} (Ok t) o p e h = tt
err_says {A} (Err w) o p e h = subst (λ q. Refuses w q) e h

-- where one item more is there at the most, there is room for one less
pub room_left : {T E X : Type 0} (most : ℕ) (r : Result T E) (old new : List X) → OnOk r (length new ≤ length old + 1) → OnOk r ((n : ℕ) → length old + suc n ≤ most → length new + n ≤ most)
room_left most (Ok t) old new h = λ n room. omega (arith, h, room)
room_left most (Err e) old new h = tt

-- the items of a section
module _ {S V : Type 0} (reads : List ℕ → Option (V × List ℕ)) (adds : S → V → Option S) where
  -- items that are added can all be read
  abbrev AllRead : ℕ → Type 0
  AllRead n = (bytes : List ℕ) (s t : S) → read_each reads adds n bytes s ≡ Some t → (xs : List V) × (items_at reads n bytes ≡ Some xs)

  none_read : (b : Bool) (s t : S) → (if b then Some s else None) ≡ Some t → (xs : List V) × ((if b then Some [] else None) ≡ Some xs)
  none_read true s t e = ([], refl)
  none_read false s t e = absurd cc

  more_added : (n : ℕ) → AllRead n → (x : V × List ℕ) (o : Option S) (t : S) → option_and_then (λ u. read_each reads adds n x.1 u) o ≡ Some t → (xs : List V) × (option_map {U = List V} (λ ys. x.0 ∷ ys) (items_at reads n x.1) ≡ Some xs)
  more_added n all x None t e = absurd cc
  more_added n all x (Some u) t e = let r = all x.1 u t e in (x.0 ∷ r.0, ap (option_map (λ (ys : List V). x.0 ∷ ys)) r.1)

  more_read : (n : ℕ) → AllRead n → (s t : S) (o : Option (V × List ℕ)) → option_and_then (λ x. option_and_then (λ u. read_each reads adds n x.1 u) (adds s x.0)) o ≡ Some t
      → (xs : List V) × (option_and_then (λ x. option_map {U = List V} (λ ys. x.0 ∷ ys) (items_at reads n x.1)) o ≡ Some xs)
  more_read n all s t None e = absurd cc
  more_read n all s t (Some x) e = more_added n all x (adds s x.0) t e

  pub all_read : (n : ℕ) (bytes : List ℕ) (s t : S) → read_each reads adds n bytes s ≡ Some t → (xs : List V) × (items_at reads n bytes ≡ Some xs)
  all_read zero bytes s t e = none_read (length bytes == 0) s t e
  all_read (suc n) bytes s t e = more_read n (λ b u w f. all_read n b u w f) s t (reads bytes) e
