use Rattle.std.proofs.Common.{◌≡◌, refl, ℕ, List, Option, Some}
use Rattle.std.specs.Option.{option_map, option_and_then}
use Rattle.wasm_operators.specs.WasmOperatorsPlain.WasmSpec.Values.{list_at}
use Rattle.wasm_operators.specs.WasmOperatorsPlain.WasmReaders.WasmReadersBytes.Reader.{rest}
use Rattle.wasm_operators.specs.WasmOperatorsPlain.WasmReaders.WrittenIndices.{written}
use Rattle.wasm_operators.specs.Control.{block_at, catch_at}
use Rattle.wasm_operators.specs.SeenControl.{block_of}
use Rattle.wasm_operators.specs.SeenLists.{listed}
use Rattle.wasm_operators_seldom.proofs.control.next_try_table.Goals as goal

-- what stands in front of a list, and the list
one_and_list : {A V : Type 0} (first : List ℕ → Option (A × List ℕ)) (encoded : List ℕ → Option (V × List ℕ)) (bytes items more : List ℕ) (a : A) (xs : List V)
    → first bytes ≡ Some (a, items) → list_at encoded items ≡ Some (xs, more)
    → option_and_then {U = (A × List V) × List ℕ} (λ x. option_map (λ ys. ((x.0, ys.0), ys.1)) (list_at encoded x.1)) (first bytes) ≡ Some ((a, xs), more)
one_and_list first encoded bytes items more a xs e h = rw (e, h) refl

pub returns-in-Ok-clause-some : goal.returns-in-Ok-clause-some
returns-in-Ok-clause-some c =
    one_and_list (block_at written) catch_at (rest c.args.reader.now) (rest c.next_block_type.new.reader) (rest c.read_listed.new.reader) (block_of c.in_ok-ty.ty) (listed catch_at c.in-Ok.catches) c.in_ok-ty.ensures.some c.in-Ok.ensures.ok
