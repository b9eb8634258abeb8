-- The items of a section, read one after another.
use Rattle.std.specs.Prelude.{ℕ, zero, suc, ◌≡◌, ◌==◌, if◌then◌else◌, Bool, true, false, List, length, Option, Some, None, IfSome, IfOk, ⊤}
use Rattle.std.specs.Option.{option_map}
use Rattle.std.specs.declared.result.Result.{Result}
use Rattle.std.specs.declared.result.Result.TheVariants.{Ok, Err}
use Rattle.wasm_readers_bytes.specs.WasmReadersErrors.declared.error.Error.{Error}
use Rattle.wasm_readers_bytes.specs.WasmReadersErrors.declared.error.Error.TheVariants.{Refused, OutOfMemory}

-- Nothing where the bytes are refused, and else the next item, if it is not the end.
abbrev pub next_item : {V : Type 0} → (List ℕ → Option (V × List ℕ)) → ℕ → List ℕ → Option (Option (V × (ℕ × List ℕ)))
next_item encoded zero bytes = if length bytes == 0 then Some None else None
next_item encoded (suc n) bytes = option_map (λ x. Some (x.0, (n, x.1))) (encoded bytes)

-- a call gives the next item, and moves behind it
abbrev pub NextItem : {T V : Type 0} → (List ℕ → Option (V × List ℕ)) → (T → V) → ℕ → List ℕ → Result (Option (ℕ × T)) Error → ℕ → List ℕ → Type 0
NextItem encoded value left bytes (Ok None) n after = next_item encoded left bytes ≡ Some None
NextItem encoded value left bytes (Ok (Some x)) n after = next_item encoded left bytes ≡ Some (Some (value x.1, (n, after)))
NextItem encoded value left bytes (Err (Refused r)) n after = next_item encoded left bytes ≡ None
NextItem encoded value left bytes (Err OutOfMemory) n after = ⊤

-- What one turn of the iterator gives: an item; an error, after which it is done; or the end.
abbrev pub ItemGives : {T V : Type 0} → (List ℕ → Option (V × List ℕ)) → (T → V) → Bool → ℕ → List ℕ → Option (Result (ℕ × T) Error) → Bool → ℕ → List ℕ → Type 0
ItemGives encoded value true left bytes r done n after = (r ≡ None) × (done ≡ true)
ItemGives encoded value false left bytes None done n after = (next_item encoded left bytes ≡ Some None) × (done ≡ true)
ItemGives encoded value false left bytes (Some (Ok x)) done n after = (next_item encoded left bytes ≡ Some (Some (value x.1, (n, after)))) × (done ≡ false)
ItemGives encoded value false left bytes (Some (Err (Refused r))) done n after = (next_item encoded left bytes ≡ None) × (done ≡ true)
ItemGives encoded value false left bytes (Some (Err OutOfMemory)) done n after = done ≡ true

-- if a turn gives an item, this is its offset
abbrev pub StandsAt : {T : Type 0} → ℕ → Option (Result (ℕ × T) Error) → Type 0
StandsAt offset r = IfSome r (λ item. IfOk item (λ x. x.0 ≡ offset))
