-- What contracts see of the locals that a body declares.
use Rattle.std.specs.Prelude.{ℕ, zero, suc, ◌≡◌, Option, Some, None}
use Rattle.std.specs.declared.result.Result.{Result}
use Rattle.std.specs.declared.result.Result.TheVariants.{Ok, Err}
use Rattle.wasm_items.specs.WasmReaders.WasmReadersBytes.Reader.{rest, SameInput, RefusedFrom, place_of_next}
use Rattle.wasm_items.specs.WasmReaders.WasmReadersBytes.declared.binary_reader.BinaryReader.{BinaryReader}
use Rattle.wasm_items.specs.WasmReaders.WasmReadersErrors.declared.error.Refusal.{Refusal}
use Rattle.wasm_items.specs.WasmReaders.WasmReadersTypes.WasmReadersValues.SeenValues.{val_of}
use Rattle.wasm_items.specs.WasmReaders.WasmReadersTypes.WasmReadersValues.declared.values.ValType.{ValType}
use Rattle.wasm_parser.specs.Locals.{Declaration, declaration_at}
use Rattle.wasm_parser.specs.declared.locals.LocalDeclaration.{LocalDeclaration}
use Rattle.wasm_parser.specs.declared.locals.LocalsReader.{LocalsReader}
use Rattle.wasm_parser.specs.declared.locals.LocalsIterator.{LocalsIterator}

abbrev pub declaration_of : ℕ → ValType → Declaration
declaration_of n ty = record { count = n; content = val_of ty }

abbrev pub declared : LocalDeclaration → Declaration
declared d = declaration_of d.count d.ty

-- how many declarations the body says it has
abbrev pub locals_count : LocalsReader → ℕ
locals_count l = l.count

-- the bytes that are left to read
abbrev pub locals_left : LocalsReader → BinaryReader
locals_left l = l.reader

-- how many declarations an iterator has still to give
abbrev pub declarations_left : LocalsIterator → ℕ
declarations_left s = s.left

abbrev pub declarations_to_come : LocalsIterator → BinaryReader
declarations_to_come s = locals_left s.locals

-- What one turn of the iterator gives: the next declaration, behind which it goes on; a refusal, after which none is left; or nothing, where
-- none is left.
abbrev pub DeclarationGives : ℕ → BinaryReader → Option (Result (ℕ × ℕ × ValType) Refusal) → ℕ → BinaryReader → Type 0
DeclarationGives zero old r left new = (r ≡ None) × (left ≡ 0) × (new ≡ old)
DeclarationGives (suc n) old None left new = ⊥
DeclarationGives (suc n) old (Some (Ok x)) left new =
    (declaration_at (rest old) ≡ Some (declaration_of x.1 x.2, rest new)) × (x.0 ≡ place_of_next old) × (left ≡ n) × SameInput old new
DeclarationGives (suc n) old (Some (Err refusal)) left new = (declaration_at (rest old) ≡ None) × RefusedFrom old refusal × (left ≡ 0)
