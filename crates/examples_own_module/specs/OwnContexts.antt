-- The context that the lists of a module in a user's own form give, where a type's id is its index. Core Specification 3.0, Validation, Conventions (Contexts).
use Rattle.std.specs.Prelude.{ℕ, suc, List, [], ◌∷◌, map, Option}
use Rattle.wasm_spec.specs.Syntax.{Sub}
use Rattle.wasm_spec.specs.SupertypeOrder.{supertype}
use Rattle.wasm_spec_rules.specs.Attempts.{◌>>=◌}
use Rattle.wasm_spec_rules.specs.Contexts.{Context}
use Rattle.wasm_readers_types.specs.SeenExterns.{table_of, memory_of, global_of}
use Rattle.wasm_readers_types.specs.SeenTypes.{sub_of}
use Rattle.wasm_readers_types.specs.WasmReadersValues.SeenValues.{ref_of}
use Rattle.wasm_readers_types.specs.WasmReadersValues.declared.indices.UnpackedIndex.{UnpackedIndex}
use Rattle.wasm_validator_resources.specs.Answers.{id_of, world}
use Rattle.examples_own_module.specs.declared.parts.OwnFunction.{OwnFunction}
use Rattle.examples_own_module.specs.declared.parts.OwnParts.{OwnParts}

-- these sub types under the ids from this number on
abbrev pub under_ids : ℕ → List (Sub UnpackedIndex) → List (UnpackedIndex × Sub UnpackedIndex)
under_ids n [] = []
under_ids n (d ∷ ds) = (id_of n, d) ∷ under_ids (suc n) ds

-- the ids themselves
abbrev pub ids_of : List (UnpackedIndex × Sub UnpackedIndex) → List UnpackedIndex
ids_of ds = map (λ d. d.0) ds

abbrev pub own_context : {A : Type 0} → OwnParts A → Context UnpackedIndex
own_context p = record {
  types = ids_of (under_ids 0 (map sub_of p.types.now));
  declares = under_ids 0 (map sub_of p.types.now);
  functions = map (λ (f : OwnFunction). f.type_index) p.functions.now;
  exact = map (λ (f : OwnFunction). f.is_exact) p.functions.now;
  tables = map table_of p.tables.now;
  memories = map memory_of p.memories.now;
  globals = map global_of p.globals.now;
  tags = p.tags.now;
  elements = map ref_of p.elements.now;
  data_count = p.data_count;
  references = p.references.now;
}

-- the supertype that an identity declares, if it declares one
abbrev pub supertype_in : Context UnpackedIndex → UnpackedIndex → Option UnpackedIndex
supertype_in C a = (world C).declared a >>= supertype
