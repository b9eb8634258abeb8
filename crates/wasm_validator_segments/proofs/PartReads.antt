-- What is checked part by part is what the grammar reads, and the functions that the parts name are those that it names.
use Rattle.std.proofs.Common.{◌≡◌, refl, sym, ap, ◌∙◌, ℕ, zero, suc, ◌-◌, ◌<◌, nat_le, Bool, true, false, if◌then◌else◌, List, [], ◌∷◌, slice_get, Option, Some, None, option_map}
use Rattle.std.specs.List.{flat_map}
use Rattle.std.specs.Option.{option_and_then}
use Rattle.wasm_spec.specs.Syntax.{Val, Global, Table}
use Rattle.wasm_spec.specs.Values.{u32_at, many_at, list_at}
use Rattle.wasm_spec.specs.BinaryTypes.{global_at}
use Rattle.wasm_spec.specs.BinarySections.{GlobalEntry, global_entry_at}
use Rattle.wasm_spec.specs.Features.{Features}
use Rattle.wasm_spec_rules.specs.Contexts.{Context}
use Rattle.wasm_spec_rules.specs.Parts.{Expression}
use Rattle.wasm_spec_rules.specs.Limits.{most_items}
use Rattle.wasm_readers.specs.WrittenIndices.{written}
use Rattle.wasm_readers_types.specs.WasmReadersValues.declared.indices.UnpackedIndex.{UnpackedIndex}
use Rattle.wasm_validator_resources.specs.Answers.{world, val_in}
use Rattle.wasm_validator_constants.specs.WasmValidatorReferences.WasmSpecValidity.Expressions.{expression_at, named}
use Rattle.wasm_validator_constants.specs.WasmValidatorReferences.Notes.{noting, names_along}
use Rattle.wasm_validator_constants.specs.WasmValidatorReferences.References.{names_if, names_at, names_of_expression, names_of_global, global_names}
use Rattle.wasm_validator_constants.proofs.WasmValidatorReferences.FunctionNotes.{item_noted, many_named}
use Rattle.wasm_validator_constants.proofs.WasmValidatorReferences.WasmSpecValidity.ExpressionNames.{named_as_typed}
use Rattle.wasm_validator_segments.specs.Elements.{behind_function}
use Rattle.wasm_validator_segments.specs.Expressions.{around_constants, behind_expression}
use Rattle.wasm_validator_segments.specs.Globals.{with_content, global_type_at}
use Rattle.wasm_validator_segments.specs.Lists.{behind_many, behind_list}
use Rattle.wasm_validator_segments.specs.NamedFunctions.{itself, names_of_list}
use Rattle.wasm_validator_segments.specs.Offsets.{address_type, behind_table_offset}
use Rattle.wasm_validator_segments.proofs.ConstantBytes.{are_found}

-- attempts that give something, taken apart
pub then_gives : {A B : Type 0} (f : A → Option B) (o : Option A) (y : B) → option_and_then f o ≡ Some y → (x : A) × (o ≡ Some x) × (f x ≡ Some y)
then_gives f None y e = absurd cc
then_gives f (Some x) y e = (x, refl, e)

pub map_gives : {A B : Type 0} (f : A → B) (o : Option A) (y : B) → option_map f o ≡ Some y → (x : A) × (o ≡ Some x) × (f x ≡ y)
map_gives f None y e = absurd cc
map_gives f (Some x) y e = (x, refl, cc)

-- what reads an item that something goes past
abbrev pub Reads : {V : Type 0} → (List ℕ → Option (List ℕ)) → (List ℕ → Option (V × List ℕ)) → Type 0
Reads {V} behind reads = (bytes more : List ℕ) → behind bytes ≡ Some more → (x : V) × (reads bytes ≡ Some (x, more))

module _ (C : Context UnpackedIndex) where
  pub function_read : Reads (behind_function C) u32_at
  unfolding behind_function
  function_read bytes more e =
      let a = then_gives (λ (x : ℕ × List ℕ). option_map (λ f. x.1) (slice_get C.functions x.0)) (u32_at bytes) more e in
      let b = map_gives (λ (f : ℕ). a.0.1) (slice_get C.functions a.0.0) more a.2 in
      (a.0.0, a.1 ∙ ap (λ (r : List ℕ). Some (a.0.0, r)) b.2)

  module _ (F : Features) (imported : ℕ) where
    pub expression_read : (v : Val UnpackedIndex) → Reads (behind_expression C F imported v) expression_at
    expression_read v bytes more e =
        let x = (are_found C F imported v bytes more).0 e in
        let n = named_as_typed (world C) (around_constants C F) imported v bytes x.last more x.is in
        (n.0, n.1)

    pub offset_read : (t : ℕ) → Reads (behind_table_offset C F imported t) expression_at
    unfolding behind_table_offset
    offset_read t bytes more e =
        let a = then_gives (λ (u : Table UnpackedIndex). behind_expression C F imported (address_type u.is_64) bytes) (slice_get C.tables t) more e in
        expression_read (address_type a.0.is_64) bytes more a.2

module _ {V : Type 0} (behind : List ℕ → Option (List ℕ)) (reads : List ℕ → Option (V × List ℕ)) (one : Reads behind reads) where
  pub many_read : (n : ℕ) → Reads (behind_many behind n) (many_at reads n)
  many_read zero bytes more e = ([], ap (option_map {U = List V × List ℕ} (λ (r : List ℕ). ([], r))) e)
  many_read (suc n) bytes more e =
      let a = then_gives (behind_many behind n) (behind bytes) more e in
      let x = one bytes a.0 a.1 in
      let xs = many_read n a.0 more a.2 in (
        x.0 ∷ xs.0,
        ap (option_and_then (λ (y : V × List ℕ). option_map {U = List V × List ℕ} (λ ys. (y.0 ∷ ys.0, ys.1)) (many_at reads n y.1))) x.1 ∙ ap (option_map {U = List V × List ℕ} (λ (ys : List V × List ℕ). (x.0 ∷ ys.0, ys.1))) xs.1,
      )

  within : (b : Bool) (o : Option (List ℕ)) (more : List ℕ) → (if b then o else None) ≡ Some more → o ≡ Some more
  within true o more e = e
  within false o more e = absurd cc

  module _ (names : V → List ℕ) where
    -- a list, and what it names
    pub list_read : (bytes more : List ℕ) → behind_list behind bytes ≡ Some more
        → (xs : List V) × (list_at reads bytes ≡ Some (xs, more)) × (names_of_list (names_along reads names) bytes ≡ flat_map names xs)
    list_read bytes more e =
        let a = then_gives (λ (n : ℕ × List ℕ). if nat_le n.0 most_items then behind_many behind n.0 n.1 else None) (u32_at bytes) more e in
        let xs = many_read a.0.0 a.0.1 more (within (nat_le a.0.0 most_items) (behind_many behind a.0.0 a.0.1) more a.2) in (
          xs.0,
          ap (option_and_then (λ (n : ℕ × List ℕ). many_at reads n.0 n.1)) a.1 ∙ xs.1,
          ap (λ (o : Option (ℕ × List ℕ)). elim o [ None ↦ [] | Some n ↦ names_along reads names n.0 n.1 ]) a.1 ∙ many_named reads names a.0.0 a.0.1 xs.0 more xs.1,
        )

    -- one item more is noted
    pub read_and_noted : {S : Type 0} (note : ℕ → S → S) (n : ℕ) (bytes more : List ℕ) (kept next : S) → 0 < n → behind bytes ≡ Some more → next ≡ noting note (names_at reads names bytes) kept
        → noting note (names_along reads names (n - 1) more) next ≡ noting note (names_along reads names n bytes) kept
    read_and_noted note n bytes more kept next some e f = let x = one bytes more e in item_noted note reads names n bytes more x.0 kept next some x.1 f

-- indices name themselves
pub themselves : (xs : List ℕ) → flat_map itself xs ≡ xs
themselves [] = refl
themselves (x ∷ xs) = ap (λ (ys : List ℕ). x ∷ ys) (themselves xs)

-- a global names what its initializer names
module _ (C : Context UnpackedIndex) (F : Features) (imported : ℕ) where
  abbrev entry : Global UnpackedIndex → Expression × List ℕ → GlobalEntry Expression UnpackedIndex × List ℕ
  entry g e = (record { ty = g; init = e.0 }, e.1)

  pub global_named : (g : Global UnpackedIndex) (v : Val UnpackedIndex) (bytes next more : List ℕ) → global_type_at C F bytes ≡ Some (g, next) → behind_expression C F imported v next ≡ Some more
      → names_of_global bytes ≡ names_of_expression next
  unfolding global_type_at global_entry_at
  global_named g v bytes next more e f =
      let a = then_gives (λ (h : Global UnpackedIndex × List ℕ). option_map (λ w. (with_content h.0 w, h.1)) (val_in C F h.0.content)) (global_at written bytes) (g, next) e in
      let b = map_gives (λ (w : Val UnpackedIndex). (with_content a.0.0 w, a.0.1)) (val_in C F a.0.0.content) (g, next) a.2 in
      let same : a.0.1 ≡ next = ap (λ (p : Global UnpackedIndex × List ℕ). p.1) b.2 in
      let x = expression_read C F imported v next more f in
      ap (λ (o : Option (Global UnpackedIndex × List ℕ)). names_if global_names (option_and_then (λ h. option_map (entry h.0) (expression_at h.1)) o)) a.1
      ∙ ap (λ (r : List ℕ). names_if global_names (option_map (entry a.0.0) (expression_at r))) same
      ∙ ap (λ (o : Option (Expression × List ℕ)). names_if global_names (option_map (entry a.0.0) o)) x.1
      ∙ sym (ap (names_if named) x.1)
