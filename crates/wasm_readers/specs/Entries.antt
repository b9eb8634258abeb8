-- What contracts see of the entries of an import section, each of which stands for imports.
use Rattle.std.specs.Prelude.{ℕ, suc, ◌≡◌, ◌≤◌, List, [], ◌∷◌, Option, Some, None, IsSome, ⊤}
use Rattle.std.specs.Option.{option_map}
use Rattle.std.specs.declared.result.Result.{Result}
use Rattle.std.specs.declared.result.Result.TheVariants.{Ok, Err}
use Rattle.wasm_readers_bytes.specs.Reader.{position_in, rest, SameInput, RefusedFrom, place_of_next}
use Rattle.wasm_readers_bytes.specs.declared.binary_reader.BinaryReader.{BinaryReader}
use Rattle.wasm_readers_bytes.specs.WasmReadersErrors.declared.error.Refusal.{Refusal}
use Rattle.wasm_readers_bytes.specs.WasmSpec.BinaryModules as binary
use Rattle.wasm_readers_bytes.specs.WasmSpec.BinaryModules.{item_at, named_at}
use Rattle.wasm_readers_bytes.specs.WasmSpec.Syntax.{Extern}
use Rattle.wasm_readers_bytes.specs.WasmSpec.Values.{many_at}
use Rattle.wasm_readers_types.specs.SeenExterns.{extern_of}
use Rattle.wasm_readers_types.specs.declared.externs.TypeRef.{TypeRef}
use Rattle.wasm_readers_types.specs.WasmReadersValues.declared.indices.UnpackedIndex.{UnpackedIndex}
use Rattle.wasm_readers.specs.declared.imports.CompactImports.{CompactImports}
use Rattle.wasm_readers.specs.declared.imports.Imports.{Imports}
use Rattle.wasm_readers.specs.declared.imports.Imports.TheVariants.{Single, Compact}
use Rattle.wasm_readers.specs.declared.items.Import.{Import}
use Rattle.wasm_readers.specs.Items.{import_of}
use Rattle.wasm_readers.specs.WrittenIndices.{written}

-- an import from a module, whose type is given or stands behind its name
abbrev pub one_at : List ℕ → Option (Extern UnpackedIndex) → List ℕ → Option (binary.Import UnpackedIndex × List ℕ)
one_at m None = item_at written m
one_at m (Some ty) = named_at m ty

-- the type of all imports of an entry, if it is written once
abbrev pub given : Option TypeRef → Option (Extern UnpackedIndex)
given = option_map extern_of

-- the next import of an entry with several, and all that are left, with the bytes behind them
abbrev pub next_of : CompactImports → List ℕ → Option (binary.Import UnpackedIndex × List ℕ)
next_of c = one_at c.module.now (given c.ty)

abbrev pub listed_of : CompactImports → Option (List (binary.Import UnpackedIndex) × List ℕ)
listed_of c = many_at (next_of c) c.left (rest c.reader)

abbrev items_or_none : {V : Type 0} → Option (List V × List ℕ) → List V
items_or_none None = []
items_or_none (Some x) = x.0

-- the imports that are left of an entry, without where their names lie
abbrev pub compact_of : CompactImports → List (binary.Import UnpackedIndex)
compact_of c = items_or_none (listed_of c)

-- they can be read
abbrev pub IsRead : CompactImports → Type 0
IsRead c = IsSome (listed_of c)

-- the imports that an entry stands for
abbrev pub entry_of : Imports → List (binary.Import UnpackedIndex)
entry_of (Single i) = import_of i ∷ []
entry_of (Compact c) = compact_of c

abbrev pub AreRead : Imports → Type 0
AreRead (Single i) = ⊤
AreRead (Compact c) = IsRead c

-- the same part of the input, read as far or further
abbrev pub IsOnward : BinaryReader → BinaryReader → Type 0
IsOnward old new = SameInput old new × (position_in old ≤ position_in new)

-- imports that are still to be read lie where this reader stands, or further on
abbrev pub LieFrom : BinaryReader → Imports → Type 0
LieFrom r (Single i) = ⊤
LieFrom r (Compact c) = IsOnward r c.reader

-- the same entry, read as far or further
abbrev pub SameEntry : CompactImports → CompactImports → Type 0
SameEntry old new = (new.module ≡ old.module) × (new.ty ≡ old.ty) × IsOnward old.reader new.reader

-- What one turn gives: nothing, where none is left; the next import with its place; or a refusal of it.
abbrev pub NextImport : CompactImports → Option (Result (ℕ × Import) Refusal) → CompactImports → Type 0
NextImport s None t = (s.left ≡ 0) × (t ≡ s)
NextImport s (Some (Ok x)) t = (s.left ≡ suc t.left) × (next_of s (rest s.reader) ≡ Some (import_of x.1, rest t.reader)) × (x.0 ≡ place_of_next s.reader) × SameEntry s t
NextImport s (Some (Err r)) t = (s.left ≡ suc t.left) × (next_of s (rest s.reader) ≡ None) × RefusedFrom s.reader r
