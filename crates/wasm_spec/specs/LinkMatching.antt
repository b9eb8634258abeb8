-- What may be given where an import asks for something: matching of limits, table types, memory types, global types, tag
-- types and external types. Core Specification 3.0, Validation, Matching, with the shared flags, page sizes and exact
-- functions of the proposals. In each rule the first is given and the second is asked for.
use Rattle.std.specs.Prelude.{ℕ, ◌≡◌, ◌≤◌, Option, None, Some, IsTrue, ⊤}
use Rattle.wasm_spec.specs.Syntax.{Sub, Table, Memory, Global, Extern, func_extern, func_exact_extern, table_extern, memory_extern, global_extern, tag_extern}
use Rattle.wasm_spec.specs.SupertypeOrder.{IsAncestor}
use Rattle.wasm_spec.specs.Matching.{MatchesRef, MatchesVal}

-- where a maximum is asked for, there is one, and it is not greater
abbrev pub HasMaximumWithin : Option ℕ → Option ℕ → Type 0
HasMaximumWithin m None = ⊤
HasMaximumWithin None (Some n) = ⊥
HasMaximumWithin (Some m) (Some n) = m ≤ n

-- limits, each a minimum and a maximum: the minimum is not smaller, and the maximum within that which is asked for
abbrev pub MatchesLimits : ℕ × Option ℕ → ℕ × Option ℕ → Type 0
MatchesLimits a b = (b.0 ≤ a.0) × HasMaximumWithin a.1 b.1

-- tables: the element types match in both directions
pub record MatchesTable {R : Type 0} (D : R → Option (Sub R)) (a b : Table R) : Type 0 where
  pub same_addresses : a.is_64 ≡ b.is_64
  pub same_shared : a.shared ≡ b.shared
  pub limits : MatchesLimits (a.minimum, a.maximum) (b.minimum, b.maximum)
  pub element : MatchesRef D a.element b.element
  pub back : MatchesRef D b.element a.element

-- the base-2 logarithm of the size of a memory's pages in bytes, 16 where it is not written
abbrev pub page_log : Memory → ℕ
page_log m = elim m.page_size_log2 [ None ↦ 16 | Some n ↦ n ]

pub record MatchesMemory (a b : Memory) : Type 0 where
  pub same_addresses : a.is_64 ≡ b.is_64
  pub same_shared : a.shared ≡ b.shared
  pub same_pages : page_log a ≡ page_log b
  pub limits : MatchesLimits (a.minimum, a.maximum) (b.minimum, b.maximum)

-- globals: both constant, and the content matches; or both variable, and it matches in both directions
pub record MatchesGlobal {R : Type 0} (D : R → Option (Sub R)) (a b : Global R) : Type 0 where
  pub same_mutable : a.mutable ≡ b.mutable
  pub same_shared : a.shared ≡ b.shared
  pub content : MatchesVal D a.content b.content
  pub back : IsTrue a.mutable → MatchesVal D b.content a.content

module _ (D : ℕ → Option (Sub ℕ)) where
  -- tags: the types match in both directions
  abbrev pub MatchesTag : ℕ → ℕ → Type 0
  MatchesTag a b = IsAncestor D a b × IsAncestor D b a

  -- external types, in which functions and tags have the identities of their types: a function of exactly one type may be
  -- given where that type or one above it is asked for, and any other only where a function need not have exactly its type
  abbrev pub MatchesExtern : Extern ℕ → Extern ℕ → Type 0
  MatchesExtern (func_extern a) (func_extern b) = IsAncestor D a b
  MatchesExtern (func_exact_extern a) (func_extern b) = IsAncestor D a b
  MatchesExtern (func_exact_extern a) (func_exact_extern b) = a ≡ b
  MatchesExtern (table_extern a) (table_extern b) = MatchesTable D a b
  MatchesExtern (memory_extern a) (memory_extern b) = MatchesMemory a b
  MatchesExtern (global_extern a) (global_extern b) = MatchesGlobal D a b
  MatchesExtern (tag_extern a) (tag_extern b) = MatchesTag a b
  MatchesExtern _ _ = ⊥
