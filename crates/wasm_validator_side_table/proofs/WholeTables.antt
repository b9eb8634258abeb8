-- The table of a whole body, and what its answer says.
use Rattle.std.proofs.Common.{◌≡◌, ◌≤◌, ◌<◌, ◌^◌, refl, sym, ap, subst, ◌∙◌, ℕ, ◌+◌, arith, List, [], ◌∷◌, length, Option, Some, Ok, Err}
use Rattle.std.proofs.lemmas.List.{length-drop}
use Rattle.wasm_spec_rules.specs.Contexts.{Context}
use Rattle.wasm_spec_rules.specs.Attempts.{◌>>=◌}
use Rattle.wasm_spec_rules.specs.FeatureFlags.{features_of}
use Rattle.wasm_readers_errors.specs.declared.error.Error.{Error}
use Rattle.wasm_readers_errors.specs.declared.error.Error.TheVariants.{Refused, OutOfMemory}
use Rattle.wasm_readers.specs.WasmReadersBytes.Reader.{input, original, position_in, place_of_next, rest}
use Rattle.wasm_readers.specs.WasmReadersBytes.declared.binary_reader.BinaryReader.{BinaryReader}
use Rattle.wasm_readers_types.specs.WasmReadersValues.declared.indices.UnpackedIndex.{UnpackedIndex}
use Rattle.wasm_operators.specs.Control.{func_block}
use Rattle.wasm_validator_side_notes.specs.WasmTypingValidator.WasmSpecSteps.Bodies.{Local}
use Rattle.wasm_validator_side_notes.specs.WasmTypingValidator.WasmSpecSteps.Machine.{State}
use Rattle.wasm_validator_side_notes.specs.WasmTypingValidator.WasmSpecSteps.Steps.{start}
use Rattle.wasm_validator_resources.specs.Answers.{world}
use Rattle.wasm_validator_side_notes.specs.WasmTypingValidator.BodyTyping.{typed_state, locals_in, BeginsBody}
use Rattle.wasm_validator_side_notes.specs.WasmTypingValidator.TypedInstructions.{within}
use Rattle.wasm_validator_side_notes.specs.WasmTypingValidator.declared.validator.OperatorValidator.{OperatorValidator}
use Rattle.wasm_validator_side_notes.specs.WasmValidatorFunc.Bodies.{locals_from}
use Rattle.wasm_validator_side_notes.specs.WasmValidatorFunc.Functions.{Refuses, StandsInOrFirst}
use Rattle.wasm_validator_side_notes.specs.WasmSpecSideTables.SideTables.{side_table, greatest_height}
use Rattle.wasm_validator_side_notes.specs.WasmSpecSideTables.OnePassTables.{Built, resolved_each, begun, built}
use Rattle.wasm_validator_side_notes.proofs.WasmSpecSideTables.Entries.{tables_are_right}
use Rattle.wasm_validator_side_table.specs.Answers.{told, end_of, Makes, StandsSo}
use Rattle.wasm_validator_side_notes.specs.TableViews.{shown}
use Rattle.wasm_validator_side_notes.specs.Tables.{HasRead, IsTableOf}
use Rattle.wasm_validator_side_table.specs.declared.error.SideTableError.{SideTableError}
use Rattle.wasm_validator_side_table.specs.declared.error.SideTableError.TheVariants.{TooLarge}
use Rattle.wasm_validator_side_table.specs.declared.error.SideTableError.TheVariants as no_table
use Rattle.wasm_validator_side_notes.specs.declared.table.SideTable.{SideTable}

table_is :
    {A X : Type 0} (C : Context UnpackedIndex) (n : ℕ) (v w : OperatorValidator X) (T : Built) (t last : SideTable A) (r : BinaryReader)
    → BeginsBody v C n → T ≡ begun → HasRead C v w T t r → resolved_each t.places t.entries ≡ Some last.entries → t.blocks ≡ [] → last.operands ≡ t.operands → last.locals ≡ length (locals_in w)
    → last.first ≡ t.first → last.end ≡ t.end → IsTableOf (features_of v.stacks.features) C n (place_of_next r) (rest r) last
table_is C n v w T t last r begins fresh read resolved closed operands locals first end =
    let W = world C in
    let d = read.declared in
    let B = within d C in
    let is = read.reaches.instructions in
    let at_start : typed_state d ≡ start (func_block n) = read.state ∙ begins.state in
    let all : built W B (typed_state d) begun is ≡ Some (typed_state w, shown t) = subst (λ (U : Built). built W B (typed_state d) U is ≡ Some (typed_state w, shown t)) fresh read.reaches.built in
    let right : side_table W B (typed_state d) is ≡ Some last.entries = sym (tables_are_right UnpackedIndex W B (typed_state d) (typed_state w) is (shown t) all closed) ∙ resolved in
    let height : greatest_height W B 0 (typed_state d) is ≡ Some last.operands = read.reaches.highest ∙ ap (λ (h : ℕ). Some h) (sym operands) in
    record {
      surroundings = B;
      instructions = is;
      behind = read.behind;
      first = read.first;
      end = read.end;
      features = ap features_of read.goes.features;
      context = refl;
      shared = ap Some read.goes.shared ∙ begins.shared;
      locals = ap (λ (o : Option (List (Local UnpackedIndex))). o >>= λ ls. locals_from (features_of v.stacks.features) C.types ls (rest r)) (sym begins.locals) ∙ read.listed;
      begin = read.begin;
      are = read.reaches.are;
      entries = subst (λ (s : State UnpackedIndex). side_table W B s is ≡ Some last.entries) at_start right;
      operands = subst (λ (s : State UnpackedIndex). greatest_height W B 0 s is ≡ Some last.operands) at_start height;
      count = locals ∙ ap (λ (ls : List (Local UnpackedIndex)). length ls) read.kept.content;
      begins = first ∙ read.begins;
      ends = end ∙ read.ends;
    }

-- and where only the number of locals was set before its places were put in
module _ {A X : Type 0} (C : Context UnpackedIndex) (n m : ℕ) (v w : OperatorValidator X) (T : Built) (t x last : SideTable A) (r : BinaryReader) (set_is : x ≡ record t { locals = m }) where
  pub table_with_locals :
      BeginsBody v C n → T ≡ begun → HasRead C v w T t r → m ≡ length (locals_in w) → resolved_each x.places x.entries ≡ Some last.entries → x.blocks ≡ []
      → last.operands ≡ x.operands → last.locals ≡ x.locals → last.first ≡ x.first → last.end ≡ x.end → IsTableOf (features_of v.stacks.features) C n (place_of_next r) (rest r) last
  table_with_locals begins fresh read many resolved closed operands locals first end =
      table_is C n v w T t last r begins fresh read (subst (λ (y : SideTable A). resolved_each y.places y.entries ≡ Some last.entries) set_is resolved)
      (subst (λ (y : SideTable A). y.blocks ≡ []) set_is closed) (operands ∙ ap (λ (y : SideTable A). y.operands) set_is) (locals ∙ ap (λ (y : SideTable A). y.locals) set_is ∙ many)
      (first ∙ ap (λ (y : SideTable A). y.first) set_is) (end ∙ ap (λ (y : SideTable A). y.end) set_is)

-- nothing is left to read
pub nothing_left : (xs : List ℕ) → length xs ≡ 0 → xs ≡ []
nothing_left [] e = refl
nothing_left (x ∷ xs) e = absurd (omega arith)

-- where a reader's input ends
pub end_is : (r : BinaryReader) → original r + length (input r) ≡ end_of r
end_is r =
    let a = length-drop (position_in r) (input r) in
    let b : position_in r ≤ length (input r) = r.within in
    omega arith

-- what the answer on a body says of its table
pub makes : {X : Type 0} (P : Type 0) (r : BinaryReader) (x : X) → end_of r < 2 ^ 32 → P → Makes P r (Ok x)
makes P r x few p = (p, few)

pub too_large : (X : Type 0) (P : Type 0) (r : BinaryReader) → 2 ^ 32 ≤ end_of r → P → Makes {X = X} P r (Err TooLarge)
too_large X P r many p = (p, many)

pub makes_none : (X : Type 0) (P : Type 0) (r : BinaryReader) (e : Error) → Refuses P e → Makes {X = X} P r (Err (told e))
makes_none X P r (Refused f) h = h
makes_none X P r OutOfMemory h = tt

pub makes_told : (X : Type 0) (P : Type 0) (r : BinaryReader) (e : Error) (x : SideTableError) → x ≡ told e → Refuses P e → Makes {X = X} P r (Err x)
makes_told X P r e x same h = subst (λ (y : SideTableError). Makes {X = X} P r (Err y)) (sym same) (makes_none X P r e h)

-- where there is no table what else an answer may hold doesn't matter
pub makes_as : (X Y : Type 0) (P : Type 0) (r : BinaryReader) (x : SideTableError) → Makes {X = X} P r (Err x) → Makes {X = Y} P r (Err x)
makes_as X Y P r (no_table.Refused f) h = h
makes_as X Y P r no_table.OutOfMemory h = h
makes_as X Y P r no_table.TooLarge h = h

pub stands_so : (r : BinaryReader) (e : Error) → StandsInOrFirst r e → StandsSo r (told e)
stands_so r (Refused f) h = h
stands_so r OutOfMemory h = tt

-- where the body ends
pub ends_low : (r : BinaryReader) (end : ℕ) → end ≡ original r + length (input r) → end ≤ 4294967295 → end_of r < 2 ^ 32
ends_low r end e h = subst (λ (n : ℕ). n < 2 ^ 32) (e ∙ end_is r) (omega (arith, h))

pub ends_high : (r : BinaryReader) (end : ℕ) → end ≡ original r + length (input r) → 4294967295 < end → 2 ^ 32 ≤ end_of r
ends_high r end e h = subst (λ (n : ℕ). 2 ^ 32 ≤ n) (e ∙ end_is r) (omega (arith, h))

pub ruleset ends = (end_is)

pub ruleset answers = (makes_none, stands_so)
