-- Operands and types.
use Rattle.std.proofs.Common.{◌≡◌, ℕ, Bool, true, false, ◌==◌, List, length, refl, sym, arith}
use Rattle.std.specs.Prelude.{zero, suc}
use Rattle.std.proofs.lemmas.Bool.Decides.{nat_tests}
use Rattle.wasm_validator_resources.specs.WasmSpec.Syntax.{AbstractHeap, any_heap, eq_heap, i31_heap, struct_heap, array_heap, none_heap, func_heap, nofunc_heap, extern_heap, noextern_heap, exn_heap, noexn_heap, cont_heap, nocont_heap, Heap, abstract_heap, concrete, exact, Ref, Val, i32, i64, f32, f64, v128, reference, Sub}
use Rattle.wasm_validator_resources.specs.WasmSpec.MatchingTests.{matches_heap, matches_val, matches_abstract, same_flag}
use Rattle.wasm_validator_resources.specs.WasmSpecRules.Contexts.{Context}
use Rattle.wasm_validator_resources.specs.WasmReadersTypes.WasmReadersValues.declared.indices.UnpackedIndex.{UnpackedIndex}
use Rattle.wasm_validator_resources.specs.WasmReadersTypes.WasmReadersValues.declared.indices.UnpackedIndex.TheVariants.{Module, RecGroup, Id}
use Rattle.wasm_validator_resources.specs.WasmSpecRules.Worlds.{is_below}
use Rattle.wasm_typing_stacks.specs.WasmSpecSteps.Machine.{Operand, known, open_reference, matches_operand}
use Rattle.wasm_validator_resources.specs.Answers.{same_index, world}
use Rattle.wasm_validator_resources.specs.WasmSpec.Matching.{is_shared_heap}
use Rattle.wasm_validator_resources.specs.WasmSpec.ValueTypes.{implies}

same_number : (n : ℕ) → (n == n) ≡ true
same_number n = grind (arith, nat_tests)

index_same : (a : UnpackedIndex) → same_index a a ≡ true
index_same (Module n) = same_number n
index_same (RecGroup n) = same_number n
index_same (Id a) = same_number a.index

index_below : (ds : List (UnpackedIndex × Sub UnpackedIndex)) (n : ℕ) (a : UnpackedIndex) → is_below same_index ds n a a ≡ true
index_below ds zero a = index_same a
index_below ds (suc n) a = rw (index_same a) refl

abstract_same : (a : AbstractHeap) → matches_abstract a a ≡ true
abstract_same any_heap = refl
abstract_same eq_heap = refl
abstract_same i31_heap = refl
abstract_same struct_heap = refl
abstract_same array_heap = refl
abstract_same none_heap = refl
abstract_same func_heap = refl
abstract_same nofunc_heap = refl
abstract_same extern_heap = refl
abstract_same noextern_heap = refl
abstract_same exn_heap = refl
abstract_same noexn_heap = refl
abstract_same cont_heap = refl
abstract_same nocont_heap = refl

flag_same : (b : Bool) → same_flag b b ≡ true
flag_same true = refl
flag_same false = refl

null_same : (b : Bool) → implies b b ≡ true
null_same true = refl
null_same false = refl

heap_same : (C : Context UnpackedIndex) (h : Heap UnpackedIndex) → matches_heap (world C) h h ≡ true
heap_same C (abstract_heap s k) = rw (flag_same s) (abstract_same k)
heap_same C (concrete a) = index_below C.declares (length C.declares) a
heap_same C (exact a) = index_same a

-- a type matches itself
pub val_same : (C : Context UnpackedIndex) (v : Val UnpackedIndex) → matches_val (world C) v v ≡ true
val_same C i32 = refl
val_same C i64 = refl
val_same C f32 = refl
val_same C f64 = refl
val_same C v128 = refl
val_same C (reference r) = rw (null_same r.nullable) (heap_same C r.heap)

-- types of the same meaning, and two like others that match
pub one_type : (C : Context UnpackedIndex) (v w : Val UnpackedIndex) → v ≡ w → true ≡ matches_val (world C) v w
one_type C v w e = rw e (sym (val_same C w))

pub two_types : (C : Context UnpackedIndex) (v w x y : Val UnpackedIndex) → v ≡ x → w ≡ y → matches_val (world C) x y ≡ true → true ≡ matches_val (world C) v w
two_types C v w x y e f h = rw (e, f) (sym h)

pub ruleset same_types = (one_type, two_types)

pub known_matches : (C : Context UnpackedIndex) (o : Operand UnpackedIndex) (v : Val UnpackedIndex) → o ≡ known v → true ≡ matches_operand (world C) o v
known_matches C o v e = rw e (sym (val_same C v))

pub other_matches : (C : Context UnpackedIndex) (o p : Operand UnpackedIndex) (v w : Val UnpackedIndex) (b : Bool) → p ≡ o → w ≡ v → b ≡ matches_operand (world C) p w → b ≡ matches_operand (world C) o v
other_matches C o p v w b e f h = rw (← e, ← f) h

pub ruleset matchings = (known_matches, other_matches)

pub open_matches : (C : Context UnpackedIndex) (k : AbstractHeap) (s : Bool) (r q : Ref UnpackedIndex) (b : Bool) → s ≡ is_shared_heap (world C).declared r.heap → q ≡ record { nullable = false; heap = abstract_heap s k } → b ≡ matches_val (world C) (reference q) (reference r)
    → b ≡ matches_operand (world C) (open_reference k) (reference r)
open_matches C k s r q b e f h = rw (f, e) at h

pub ruleset opens = (open_matches)

pub ruleset kinds = (known_matches)
