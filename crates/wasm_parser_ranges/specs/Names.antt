-- The names that a module gives its functions. Core Specification 3.0, Appendix, Custom Sections, Name Section.
use Rattle.std.specs.Prelude.{ℕ, zero, suc, ◌≡◌, ◌==◌, nat_eq, if◌then◌else◌, List, [], ◌∷◌, length, codes, Option, Some, None}
use Rattle.std.specs.Option.{option_and_then}
use Rattle.std.specs.Cmp.Lexicographic.{pointwise}
use Rattle.wasm_spec.specs.Values.{u32_at, name_at}
use Rattle.wasm_spec.specs.Framing.{Piece, Custom, IsFramed, section_at}

-- what was found before, or what this piece has behind its name, if it is a custom section `name`
abbrev pub names_behind : Option (List ℕ) → Piece → Option (List ℕ)
names_behind (Some contents) p = Some contents
names_behind None (Custom name contents) = if pointwise nat_eq name (codes "name") then Some contents else None
names_behind None p = None

-- what the first custom section `name` of these pieces has behind its name, if none came before
abbrev pub first_names : Option (List ℕ) → List Piece → Option (List ℕ)
first_names found [] = found
first_names found (p ∷ ps) = first_names (names_behind found p) ps

-- The contents of the first part with this id, among so many parts at most: each is an id, a size and that many bytes.
abbrev pub part_in : ℕ → ℕ → List ℕ → Option (List ℕ)
part_in zero id bytes = None
part_in (suc n) id bytes = option_and_then (λ part. if part.0.0 == id then Some part.0.1 else part_in n id part.1) (section_at bytes)

-- The first name behind this index, among so many names, each behind its index.
abbrev pub named_in : ℕ → ℕ → List ℕ → Option (List ℕ)
named_in zero index bytes = None
named_in (suc n) index bytes =
    option_and_then (λ i. option_and_then (λ name. if i.0 == index then Some name.0 else named_in n index name.1) (name_at i.1)) (u32_at bytes)

-- the same of a list of names, behind their count
abbrev pub name_in_list : ℕ → List ℕ → Option (List ℕ)
name_in_list index bytes = option_and_then (λ count. named_in count.0 index count.1) (u32_at bytes)

-- the name of the function with this index in what a name section has behind its own name
abbrev pub name_in_section : ℕ → List ℕ → Option (List ℕ)
name_in_section index contents = option_and_then (name_in_list index) (part_in (length contents) 1 contents)

-- The bytes are divided into sections as a module is, and this is what the first custom section `name` has behind its name, if there is one.
pub record IsNameSection (bytes : List ℕ) (contents : Option (List ℕ)) : Type 0 where
  pub pieces : List Piece
  pub framed : IsFramed bytes pieces
  pub first : contents ≡ first_names None pieces

-- The same, and this is the name that the section gives the function with this index, if it gives one.
pub record IsName (bytes : List ℕ) (index : ℕ) (name : Option (List ℕ)) : Type 0 where
  pub contents : Option (List ℕ)
  pub section : IsNameSection bytes contents
  pub named : name ≡ option_and_then (name_in_section index) contents
