-- The worked examples.
use Rattle.std.proofs.Common.{◌≡◌, refl, sym, ◌∙◌, subst, ℕ, zero, suc, ◌+◌, Bool, true, false, nat_eq, List, [], ◌∷◌, length, slice_get, Option, Some, option_map, arith}
use Rattle.std.proofs.lemmas.List.Elements.{All-nil, All-cons, All-head, All-tail}
use Rattle.std.proofs.lemmas.Option.{same_Some, none-some}
use Rattle.wasm_spec.specs.Syntax.{Val, i32, i64, Ref, reference, Sub}
use Rattle.wasm_spec.specs.BinarySections.{GlobalEntry, funcref, ref_func}
use Rattle.wasm_spec.specs.Features.{Features}
use Rattle.wasm_spec.specs.MatchingTests.{World}
use Rattle.wasm_spec.specs.TypeExamples.{features}
use Rattle.wasm_spec.specs.BinaryTypes.{heap_at}
use Rattle.wasm_operators.specs.Control.{control_from, value_block, func_block}
use Rattle.wasm_operators.specs.References.{reference_from}
use Rattle.wasm_operators.specs.Instructions.{Instruction, instruction_at, plain_from}
use Rattle.wasm_operators.specs.WasmOperatorsPlain.Numeric.{numeric_from, numeric_operators}
use Rattle.wasm_operators.specs.WasmOperatorsPlain.Constants.{constant_from}
use Rattle.wasm_operators.specs.WasmOperatorsPlain.Variables.{variable_from}
use Rattle.wasm_spec_steps.specs.WasmSpecRules.Contexts.{Context}
use Rattle.wasm_spec_steps.specs.WasmSpecRules.Parts.{Expression}
use Rattle.wasm_spec_steps.specs.WasmSpecRules.Attempts.{◌>>=◌}
use Rattle.wasm_spec_steps.specs.WasmSpecRules.Signatures.{signature_of}
use Rattle.wasm_spec_steps.specs.WasmSpecRules.Worlds.{world_of}
use Rattle.wasm_spec_steps.specs.Bodies.{Local, Surroundings}
use Rattle.wasm_spec_steps.specs.FunctionBodies.{Declaration, declared_at, IsBodyOfFunction}
use Rattle.wasm_spec_steps.specs.Sequences.{Are}
use Rattle.wasm_spec_steps.specs.Steps.{start}
use Rattle.wasm_spec_validity.specs.Expressions.{instructions_of, expression_at, named}
use Rattle.wasm_spec_validity.specs.Typing.{seeing, around, IsConstant, IsTypedGlobal, IsTypedTable, IsTypedElement, IsTypedData}
use Rattle.wasm_spec_validity.specs.Examples.{without_gc, without_extended_const, context, global_of, one_i32, one_i64, global_0, one_and_two, NumberIsConstant, NumberOfAnotherType, NoTwoEnds, NoMissingEnd, FirstGlobalIsRead, NoMutableGlobalIsRead, NoGlobalIsReadWithoutGc, ImportedGlobalIsRead, NoGlobalReadsItself, SumIsConstant, NoSumWithoutExtendedConst, TableReadsImportedGlobal, NoTableReadsOwnGlobal, OffsetsAreAddresses, NoOtherDataOffsets, NoOtherElementOffsets, OffsetReadsGlobal, ElementOffsetReadsGlobal, function_1, null, FunctionAndNullAreItems, NoNullItem, initialized, three_globals, itself, GlobalsComeBehindImports, BodiesGiveResults, NoExchangedBodies, NoLastBodyWithoutEnd, OneGlobalIsImported, ReadToItsEnd, NothingReadWithoutEnd, FunctionIsNamed}
use Rattle.wasm_spec_validity.proofs.ExpressionTests.{determined, leads, leads-if, all_of, last_of, are_all_read, is_constant_expression, is_constant-if, is_constant-by}

no : false ≡ true → ⊥
no e = cc

-- a computation tells what is a constant expression, and what isn't
abbrev is_constant_in : Features → Context ℕ → ℕ → ℕ → Val ℕ → Expression → Bool
is_constant_in F C imported visible v e = is_constant_expression (world_of nat_eq C) (around F (seeing visible C)) imported (start (value_block v)) e

accepted : (F : Features) (C : Context ℕ) (imported visible : ℕ) (v : Val ℕ) (e : Expression) → are_all_read (length e) e ≡ true → is_constant_in F C imported visible v e ≡ true → IsConstant nat_eq F C imported visible v e
accepted F C imported visible v e read f = let x = is_constant-by (world_of nat_eq C) (around F (seeing visible C)) imported (start (value_block v)) e read f in record { last = x.0; is = x.1 }

refused : (F : Features) (C : Context ℕ) (imported visible : ℕ) (v : Val ℕ) (e : Expression) → is_constant_in F C imported visible v e ≡ false → IsConstant nat_eq F C imported visible v e → ⊥
refused F C imported visible v e f x = no (sym f ∙ is_constant-if (world_of nat_eq C) (around F (seeing visible C)) imported (start (value_block v)) x.last e x.is)

-- one global, and two of the same type
abbrev two : Bool → Context ℕ
two mutable = context (global_of mutable i32 ∷ global_of false i32 ∷ [])

pub number_is_constant : NumberIsConstant
unfolding instruction_at plain_from constant_from control_from
number_is_constant = accepted (features false) (context []) 0 0 i32 one_i32 refl refl

pub number_of_another_type : NumberOfAnotherType
unfolding instruction_at plain_from constant_from control_from
number_of_another_type = refused (features true) (context []) 0 0 i64 one_i32 refl

pub no_two_ends : NoTwoEnds
unfolding instruction_at plain_from constant_from control_from
no_two_ends = refused (features true) (context []) 0 0 i32 (0x41 ∷ 1 ∷ 0x0b ∷ 0x0b ∷ []) refl

pub no_missing_end : NoMissingEnd
unfolding instruction_at plain_from constant_from control_from
no_missing_end = refused (features true) (context []) 0 0 i32 (0x41 ∷ 1 ∷ []) refl

pub first_global_is_read : FirstGlobalIsRead
unfolding instruction_at plain_from variable_from control_from
first_global_is_read = accepted (features true) (two false) 0 1 i32 global_0 refl refl

pub no_mutable_global_is_read : NoMutableGlobalIsRead
unfolding instruction_at plain_from variable_from control_from
no_mutable_global_is_read = refused (features true) (two true) 0 1 i32 global_0 refl

pub no_global_is_read_without_gc : NoGlobalIsReadWithoutGc
unfolding instruction_at plain_from variable_from control_from
no_global_is_read_without_gc = refused without_gc (two false) 0 1 i32 global_0 refl

pub imported_global_is_read : ImportedGlobalIsRead
unfolding instruction_at plain_from variable_from control_from
imported_global_is_read = accepted without_gc (two false) 1 1 i32 global_0 refl refl

pub no_global_reads_itself : NoGlobalReadsItself
unfolding instruction_at plain_from variable_from control_from
no_global_reads_itself = refused (features true) (context (global_of false i32 ∷ [])) 0 0 i32 global_0 refl

pub sum_is_constant : SumIsConstant
unfolding instruction_at plain_from constant_from control_from numeric_from numeric_operators
sum_is_constant = accepted (features true) (context []) 0 0 i32 one_and_two refl refl

pub no_sum_without_extended_const : NoSumWithoutExtendedConst
unfolding instruction_at plain_from constant_from control_from numeric_from numeric_operators
no_sum_without_extended_const = refused without_extended_const (context []) 0 0 i32 one_and_two refl

-- tables
abbrev functions_first : Context ℕ
functions_first = context (global_of false (reference funcref) ∷ [])

pub table_reads_imported_global : TableReadsImportedGlobal
unfolding instruction_at plain_from variable_from control_from
table_reads_imported_global = accepted (features true) functions_first 1 1 (reference funcref) global_0 refl refl

pub no_table_reads_own_global : NoTableReadsOwnGlobal
unfolding instruction_at plain_from variable_from control_from
no_table_reads_own_global = refused (features true) functions_first 0 0 (reference funcref) global_0 refl

-- offsets
offset : (v : Val ℕ) (e : Expression) → are_all_read (length e) e ≡ true → is_constant_in (features true) (context []) 0 0 v e ≡ true → IsConstant nat_eq (features true) (context []) 0 0 v e
offset v e = accepted (features true) (context []) 0 0 v e

pub offsets_are_addresses : OffsetsAreAddresses
unfolding instruction_at plain_from constant_from control_from
offsets_are_addresses = (offset i32 one_i32 refl refl, offset i64 one_i64 refl refl, (offset i32 one_i32 refl refl, tt), (offset i64 one_i64 refl refl, tt))

pub no_other_data_offsets : NoOtherDataOffsets
unfolding instruction_at plain_from constant_from control_from
no_other_data_offsets = (refused (features true) (context []) 0 0 i32 one_i64 refl, refused (features true) (context []) 0 0 i64 one_i32 refl)

pub no_other_element_offsets : NoOtherElementOffsets
unfolding instruction_at plain_from constant_from control_from
no_other_element_offsets = ((λ x. refused (features true) (context []) 0 0 i32 one_i64 refl x.0), (λ x. refused (features true) (context []) 0 0 i64 one_i32 refl x.0))

pub offset_reads_global : OffsetReadsGlobal
unfolding instruction_at plain_from variable_from control_from
offset_reads_global = accepted (features true) (context (global_of false i32 ∷ [])) 0 1 i32 global_0 refl refl

pub element_offset_reads_global : ElementOffsetReadsGlobal
unfolding instruction_at plain_from variable_from control_from
element_offset_reads_global = (accepted (features true) (context (global_of false i32 ∷ [])) 0 1 i32 global_0 refl refl, tt)

-- items
abbrev IsItem : Ref ℕ → Expression → Type 0
IsItem r e = IsConstant nat_eq (features true) (context []) 0 0 (reference r) e

pub function_and_null_are_items : FunctionAndNullAreItems
unfolding instruction_at plain_from reference_from heap_at control_from
function_and_null_are_items = (
  tt,
  All-cons (IsItem funcref) function_1 (null ∷ []) (accepted (features true) (context []) 0 0 (reference funcref) function_1 refl refl)
      (All-cons (IsItem funcref) null [] (accepted (features true) (context []) 0 0 (reference funcref) null refl refl) (All-nil (IsItem funcref))),
)

pub no_null_item : NoNullItem
unfolding instruction_at plain_from reference_from heap_at control_from
no_null_item x = refused (features true) (context []) 0 0 (reference ref_func) null refl (All-head (IsItem ref_func) null [] (All-tail (IsItem ref_func) function_1 (null ∷ []) x.1))

-- globals of a module
own_global : (x : ℕ) (g h : GlobalEntry Expression ℕ) → IsTypedGlobal nat_eq (features true) (context three_globals) 1 itself x g → Some g ≡ Some h → IsTypedGlobal nat_eq (features true) (context three_globals) 1 itself x h
own_global x g h t e = subst (IsTypedGlobal nat_eq (features true) (context three_globals) 1 itself x) (same_Some g h e) t

own_globals : (i : ℕ) (g : GlobalEntry Expression ℕ) → slice_get (initialized one_i32 ∷ initialized (0x23 ∷ 1 ∷ 0x0b ∷ []) ∷ []) i ≡ Some g → IsTypedGlobal nat_eq (features true) (context three_globals) 1 itself (1 + i) g
unfolding instruction_at plain_from constant_from variable_from control_from
own_globals zero g e = own_global 1 (initialized one_i32) g (accepted (features true) (context three_globals) 1 1 i32 one_i32 refl refl) e
own_globals (suc zero) g e = own_global 2 (initialized (0x23 ∷ 1 ∷ 0x0b ∷ [])) g (accepted (features true) (context three_globals) 1 2 i32 (0x23 ∷ 1 ∷ 0x0b ∷ []) refl refl) e
own_globals (suc (suc i)) g e = absurd (none-some g e)

pub globals_come_behind_imports : GlobalsComeBehindImports
globals_come_behind_imports = record {
  globals = own_globals;
  tables = All-nil (IsTypedTable nat_eq (features true) (context three_globals) 1 itself);
  elements = All-nil (IsTypedElement nat_eq (features true) (context three_globals) 1 itself);
  segments = All-nil (IsTypedData nat_eq (features true) (context three_globals) 1 itself);
}

-- bodies
abbrev world : World ℕ
world = world_of nat_eq (context [])

-- what a body of a function is checked in, which declares these locals
abbrev inside : List (Local ℕ) → Bool → Surroundings ℕ
inside ls shared = record { features = features false; context = context []; locals = ls; shared = shared }

abbrev typed_in : List (Local ℕ) → Bool → ℕ → List ℕ → Bool
typed_in ls shared n bytes = leads world (inside ls shared) (instructions_of (length bytes) bytes) (start (func_block n))

abbrev declared : ℕ → Option (Sub ℕ)
declared n = declared_at world (features false) (context []) n

abbrev IsBodyOf : ℕ → List ℕ → Type 0
IsBodyOf n bytes = IsBodyOfFunction world (features false) (context []) n bytes

-- of functions that take nothing, with no locals
typed_body : (n : ℕ) (vs : List (Val ℕ)) (bytes : List ℕ) → (option_map (λ d. d.comp) (declared n) >>= signature_of) ≡ Some (record { takes = []; gives = vs }) → option_map (λ d. d.shared) (declared n) ≡ Some false
    → are_all_read (length bytes) bytes ≡ true → typed_in [] false n bytes ≡ true → IsBodyOf n (0 ∷ bytes)
typed_body n vs bytes is shared read f =
    let ops = instructions_of (length bytes) bytes in
    let l = last_of world (inside [] false) ops (start (func_block n)) f in
    record {
      signature = record { takes = []; gives = vs };
      shared = false;
      locals = [];
      last = l.0;
      is_function = is;
      is_shared = shared;
      body = record {
        declarations = [];
        locals = [];
        instructions = ops;
        behind = bytes;
        listed = refl;
        declared = refl;
        all = refl;
        few = omega arith;
        written = all_of bytes read;
        typed = l.1;
        finished = l.2;
      };
    }

abbrev declarations_and : List Declaration → List ℕ → List Declaration × List ℕ
declarations_and ds bytes = (ds, bytes)

behind_none : (ds : List Declaration) (bytes rest : List ℕ) → Some (declarations_and [] bytes) ≡ Some (declarations_and ds rest) → rest ≡ bytes
behind_none ds bytes rest e = let same = same_Some (declarations_and [] bytes) (declarations_and ds rest) e in λ i. (sym same i).1

refused_body : (n : ℕ) (bytes : List ℕ) → ((ls : List (Local ℕ)) (shared : Bool) → typed_in ls shared n bytes ≡ false) → IsBodyOf n (0 ∷ bytes) → ⊥
refused_body n bytes f x =
    let b = x.body in
    let all : Are b.instructions bytes [] = subst (λ rest. Are b.instructions rest []) (behind_none b.declarations bytes b.behind b.listed) b.written in
    let same = determined b.instructions bytes all in
    let leads_on = leads-if world (inside x.locals x.shared) b.instructions (start (func_block n)) x.last b.typed b.finished in
    no (sym (f x.locals x.shared) ∙ subst (λ (ops : List (Instruction ℕ)). leads world (inside x.locals x.shared) ops (start (func_block n)) ≡ true) same leads_on)

-- where a function has this type and this body
at_type : (n x : ℕ) (bytes body : List ℕ) → IsBodyOf n body → Some n ≡ Some x → Some body ≡ Some bytes → IsBodyOf x bytes
at_type n x bytes body h e f = subst (λ b. IsBodyOf x b) (same_Some body bytes f) (subst (λ m. IsBodyOf m body) (same_Some n x e) h)

pub bodies_give_results : BodiesGiveResults
unfolding instruction_at plain_from constant_from control_from
bodies_give_results zero x bytes e f = at_type 0 x bytes (0 ∷ one_i32) (typed_body 0 (i32 ∷ []) one_i32 refl refl refl refl) e f
bodies_give_results (suc zero) x bytes e f = at_type 1 x bytes (0 ∷ 0x0b ∷ []) (typed_body 1 [] (0x0b ∷ []) refl refl refl refl) e f
bodies_give_results (suc (suc i)) x bytes e f = absurd (none-some x e)

pub no_exchanged_bodies : NoExchangedBodies
unfolding instruction_at plain_from control_from
no_exchanged_bodies h = refused_body 0 (0x0b ∷ []) (λ ls shared. refl) (h 0 0 (0 ∷ 0x0b ∷ []) refl refl)

pub no_last_body_without_end : NoLastBodyWithoutEnd
no_last_body_without_end h = refused_body 1 [] (λ ls shared. refl) (h 1 1 (0 ∷ []) refl refl)

pub one_global_is_imported : OneGlobalIsImported
one_global_is_imported = refl

pub read_to_its_end : ReadToItsEnd
unfolding expression_at instruction_at plain_from constant_from control_from
read_to_its_end = refl

pub nothing_read_without_end : NothingReadWithoutEnd
unfolding expression_at instruction_at plain_from constant_from control_from
nothing_read_without_end = refl

pub function_is_named : FunctionIsNamed
unfolding named instruction_at plain_from reference_from control_from
function_is_named = refl
