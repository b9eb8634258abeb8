-- How many operands instructions take and give: as many as there are types in what their shapes take and give.
-- Core Specification 3.0, Validation, Instructions.
use Rattle.std.specs.Prelude.{ℕ, ◌+◌, ◌-◌, ◌*◌, ◌^◌, ◌&&◌, ◌==◌, nat_lt, if◌then◌else◌, [], ◌∷◌, length, slice_get, Option, Some, None}
use Rattle.std.specs.Option.{option_map, option_and_then}
use Rattle.wasm_spec_steps.specs.WasmSpecRules.WasmSpec.Syntax.{Heap, abstract_heap, concrete, exact, Val, reference, Sub, Comp, func, struct}
use Rattle.wasm_readers_types.specs.WasmReadersValues.declared.indices.UnpackedIndex.{UnpackedIndex}
use Rattle.wasm_readers_types.specs.WasmReadersValues.declared.indices.UnpackedIndex.TheVariants.{Module, RecGroup, Id}
use Rattle.wasm_operators.specs.Control.{Block, empty_block, value_block, func_block}
use Rattle.wasm_operators.specs.Maps.{map_instruction}
use Rattle.wasm_operators.specs.SeenOperators.{operator_of}
use Rattle.wasm_operators.specs.declared.operators.Operator.{Operator}
use Rattle.wasm_spec_steps.specs.WasmSpecRules.Attempts.{last_of}
use Rattle.wasm_spec_steps.specs.Machine.{Kind, loop_kind}
use Rattle.wasm_spec_steps.specs.Actions.{Signed, of_type, of_function, of_tag, OperandTypes, these, params, results, label, returned, fields, repeated, front, last, taken_by, given_by, joined, before, behind}
use Rattle.wasm_spec_steps.specs.Shapes.{Shape, plain, ending, opening, closing, turning, dropping, choosing, never, testing_null, asserting_non_null, branching_on_null, branching_on_non_null, branching_by_table, setting, giving_back, measuring, comparing, converting, describing, catching, delegating, rethrowing, one, nullable_to, takes_of as takes_of_continuation, shape_of}
use Rattle.wasm_spec_steps.specs.WasmSpecRules.Signatures.{signature_of}
use Rattle.wasm_spec_steps.specs.Meanings.{cont_of, defined_in}
use Rattle.wasm_typing_arity.specs.ArityQueries.{Asked, type_of_id}

-- words on numbers that may not be there
abbrev pub plus : Option ℕ → Option ℕ → Option ℕ
plus m n = option_and_then (λ i. option_map (λ j. i + j) n) m

abbrev pub pair : Option ℕ → Option ℕ → Option (ℕ × ℕ)
pair m n = option_and_then (λ i. option_map (λ j. (i, j)) n) m

-- the parameters and the results
abbrev pub takes_of : Option (ℕ × ℕ) → Option ℕ
takes_of p = option_map (λ x. x.0) p

abbrev pub gives_of : Option (ℕ × ℕ) → Option ℕ
gives_of p = option_map (λ x. x.1) p

-- how many parameters and results a type has, where it is a function type, and how many fields, where it is a structure
abbrev pub func_counts : {R : Type 0} → Comp R → Option (ℕ × ℕ)
func_counts (func ps rs) = Some (length ps, length rs)
func_counts _ = None

abbrev pub field_count : {R : Type 0} → Comp R → Option ℕ
field_count (struct xs) = Some (length xs)
field_count _ = None

-- what is left of the second number without the first, where that is no greater
abbrev pub at_least : ℕ → ℕ → Option ℕ
at_least k n = if nat_lt n k then None else Some (n - k)

-- one number, or none where the label has no types
abbrev pub one_of : ℕ → Option ℕ
one_of k = if k == 0 then None else Some 1

-- of what is given at a label: what a loop takes, and what any other block gives
abbrev pub label_count : Kind → Option (ℕ × ℕ) → Option ℕ
label_count loop_kind p = takes_of p
label_count _ p = gives_of p

module _ (M : Asked) where
  abbrev pub type_counts : ℕ → Option (ℕ × ℕ)
  type_counts n = option_and_then (λ d. func_counts d.comp) (M.types n)

  abbrev pub signature_counts : Signed → Option (ℕ × ℕ)
  signature_counts (of_type n) = type_counts n
  signature_counts (of_function n) = option_and_then type_counts (M.functions n)
  signature_counts (of_tag n) = M.tags n

  abbrev pub block_counts : {R : Type 0} → Block R → Option (ℕ × ℕ)
  block_counts empty_block = Some (0, 0)
  block_counts (value_block v) = Some (0, 1)
  block_counts (func_block n) = type_counts n

  -- what the innermost frame takes and gives
  abbrev pub innermost_counts : Option (ℕ × ℕ)
  innermost_counts = option_and_then (λ x. block_counts x.0) (slice_get M.frames 0)

  -- the type that the last of some types refers to: that of a type index, and that of the last parameter of a continuation
  abbrev pub named_by : Heap ℕ → Option (Sub UnpackedIndex)
  named_by (abstract_heap s k) = None
  named_by (concrete n) = M.types n
  named_by (exact n) = M.types n

  abbrev pub referred_by : Option (Val UnpackedIndex) → Option (Sub UnpackedIndex)
  referred_by (Some (reference r)) = option_and_then (type_of_id M) (defined_in r.heap)
  referred_by _ = None

  abbrev pub function_behind : Option (Sub UnpackedIndex) → Option (Sub UnpackedIndex)
  function_behind None = None
  function_behind (Some d) = option_and_then (type_of_id M) (cont_of d.comp)

  abbrev pub last_type : OperandTypes → Option (Sub UnpackedIndex)
  last_type (these (reference r ∷ [])) = named_by r.heap
  last_type (taken_by t) = option_and_then (λ d. referred_by (option_and_then (λ g. last_of g.takes) (signature_of d.comp))) (function_behind (last_type t))
  last_type _ = None

  -- what a continuation takes and gives that the last of some types refers to
  abbrev pub counts_by : OperandTypes → Option (ℕ × ℕ)
  counts_by t = option_and_then (λ d. func_counts d.comp) (function_behind (last_type t))

  abbrev pub continued_counts : ℕ → Option (ℕ × ℕ)
  continued_counts n = counts_by (one (nullable_to n))

  abbrev pub switched_counts : ℕ → Option (ℕ × ℕ)
  switched_counts n = counts_by (takes_of_continuation n)

  -- How many types a list has that is named so. What is named by one local, global, function, table, memory, segment, field or
  -- element is one type.
  abbrev pub how_many : OperandTypes → Option ℕ
  how_many (these vs) = Some (length vs)
  how_many (params g) = takes_of (signature_counts g)
  how_many (results g) = gives_of (signature_counts g)
  how_many (label n) = option_and_then (λ x. label_count x.1 (block_counts x.0)) (slice_get M.frames n)
  how_many returned = option_and_then (λ x. gives_of (block_counts x.0)) (last_of M.frames)
  how_many (fields n) = option_and_then (λ d. field_count d.comp) (M.types n)
  how_many (repeated n t) = option_map (λ k. n * k) (how_many t)
  how_many (front t) = option_map (λ k. k - 1) (how_many t)
  how_many (last t) = option_and_then one_of (how_many t)
  how_many (taken_by t) = takes_of (counts_by t)
  how_many (given_by t) = gives_of (counts_by t)
  how_many (before t u) = option_and_then (λ k. option_and_then (at_least k) (how_many t)) (how_many u)
  how_many (behind t u) = how_many u
  how_many (joined t u) = plus (how_many t) (how_many u)
  how_many _ = Some 1

  -- How many operands a shape takes, and how many it gives. A block takes what it begins with, and gives it to its own frame; its
  -- `end` takes what it gives, and so do what ends a `try` and what turns it to a `catch`. What is never valid has no arity.
  abbrev pub arity : Shape → Option (ℕ × ℕ)
  arity (plain cs t u) = pair (how_many t) (how_many u)
  arity (ending cs t) = pair (how_many t) (Some 0)
  arity (opening cs t k b) = pair (plus (how_many t) (takes_of (block_counts b))) (takes_of (block_counts b))
  arity closing = pair (gives_of innermost_counts) (gives_of innermost_counts)
  arity turning = pair (gives_of innermost_counts) (takes_of innermost_counts)
  arity dropping = Some (1, 0)
  arity choosing = Some (3, 1)
  arity never = None
  arity (testing_null cs) = Some (1, 1)
  arity (asserting_non_null cs) = Some (1, 1)
  arity (branching_on_null cs l) = pair (plus (how_many (label l)) (Some 1)) (plus (how_many (label l)) (Some 1))
  arity (branching_on_non_null cs l) = pair (plus (how_many (front (label l))) (how_many (last (label l)))) (how_many (front (label l)))
  arity (branching_by_table ls l) = pair (plus (how_many (label l)) (Some 1)) (Some 0)
  arity (setting x) = Some (1, 0)
  arity (giving_back x) = Some (1, 1)
  arity (measuring cs k t) = pair (Some 1) (how_many t)
  arity (comparing cs t) = pair (Some 2) (how_many t)
  arity (converting cs j k) = Some (1, 1)
  arity (describing cs n) = Some (1, 1)
  arity (catching cs t k) = pair (gives_of innermost_counts) (how_many t)
  arity (delegating cs l) = pair (gives_of innermost_counts) (gives_of innermost_counts)
  arity (rethrowing cs l) = Some (0, 0)

-- both numbers, where they have 32 bits
abbrev pub in_u32 : ℕ × ℕ → Option (ℕ × ℕ)
in_u32 p = if nat_lt p.0 (2 ^ 32) && nat_lt p.1 (2 ^ 32) then Some p else None

-- the number of an index in one of its forms
abbrev pub index_number : UnpackedIndex → ℕ
index_number (Module n) = n
index_number (RecGroup n) = n
index_number (Id id) = id.index

-- the shape of an operator that was read
abbrev pub operator_shape : Operator → Shape
operator_shape op = shape_of (map_instruction index_number (operator_of op))
