-- The rules of a module's parts are those of its lists, of its start functions, and its limits.
use Rattle.std.proofs.Common.{ℕ, ◌≤◌, ◌<◌, List, [], ◌∷◌, map, length, Option, Some, None, arith}
use Rattle.std.specs.List.{All}
use Rattle.wasm_spec.specs.BinaryModules.{Import}
use Rattle.wasm_spec.specs.Features.{Features}
use Rattle.wasm_spec.specs.Syntax.{Val, Extern, func_extern, func_exact_extern, table_extern, memory_extern, global_extern, tag_extern}
use Rattle.wasm_spec.specs.Trees.{DefType}
use Rattle.wasm_spec_rules.specs.Parts.{Parts}
use Rattle.wasm_spec_rules.specs.IndexSpaces.{IndexSpaces, signature_at}
use Rattle.wasm_spec_rules.specs.LinkRules.{IsValidStart, signature_size, extern_size, import_size, sum, effective_size}
use Rattle.wasm_spec_rules.specs.Modules.{AreValidParts}
use Rattle.wasm_spec_rules.specs.Limits.{most_types, most_imports, most_exports, most_elements, most_segments, size_limit}
use Rattle.wasm_validator_sections.specs.WasmLawsModules.Lists.{AreValidModuleLists}
use Rattle.wasm_validator_sections.specs.declared.code_state.TheConstants.{MAX_FUNCTION_SIZE}

-- no body is too long
abbrev pub AreSmall : List (List ℕ) → Type 0
AreSmall bs = All (λ (b : List ℕ). length b ≤ MAX_FUNCTION_SIZE) bs

-- what is asked of a module's parts beside the rules of its lists
pub record KeepsOthers (C : IndexSpaces) (p : Parts) : Type 0 where
  pub groups : length p.groups ≤ most_types
  pub types : length C.types ≤ most_types
  pub imports : length p.imports ≤ most_imports
  pub exports : length p.exports ≤ most_exports
  pub elements : length p.elements ≤ most_elements
  pub segments : length p.segments ≤ most_segments
  pub data_counts : All (λ n. n ≤ most_segments) p.data_counts
  pub starts : All (IsValidStart C) p.starts
  pub bodies : AreSmall p.bodies

pub parts_valid : (F : Features) (C : IndexSpaces) (p : Parts) → AreValidModuleLists F C p → KeepsOthers C p → AreValidParts F C p
parts_valid F C p v o = record {
  imports = v.imports;
  functions = v.functions;
  tables = v.tables;
  memories = v.memories;
  tags = v.tags;
  globals = v.globals;
  exports = v.exports;
  export_names = v.export_names;
  size = v.size;
  starts = o.starts;
  elements = v.elements;
  segments = v.segments;
  limits = record {
    groups = o.groups;
    types = o.types;
    imports = o.imports;
    functions = v.few_functions;
    tables = v.few_tables;
    memories = v.few_memories;
    globals = v.few_globals;
    tags = v.few_tags;
    exports = o.exports;
    elements = o.elements;
    segments = o.segments;
    data_counts = o.data_counts;
    bodies = o.bodies;
  };
}

pub valid_lists : (F : Features) (C : IndexSpaces) (p : Parts) → AreValidParts F C p → AreValidModuleLists F C p
valid_lists F C p v = record {
  imports = v.imports;
  functions = v.functions;
  tables = v.tables;
  memories = v.memories;
  tags = v.tags;
  globals = v.globals;
  exports = v.exports;
  export_names = v.export_names;
  size = v.size;
  elements = v.elements;
  segments = v.segments;
  few_functions = v.limits.functions;
  few_tables = v.limits.tables;
  few_memories = v.limits.memories;
  few_globals = v.limits.globals;
  few_tags = v.limits.tags;
}

pub keeps_others : (F : Features) (C : IndexSpaces) (p : Parts) → AreValidParts F C p → KeepsOthers C p
keeps_others F C p v = record {
  groups = v.limits.groups;
  types = v.limits.types;
  imports = v.limits.imports;
  exports = v.limits.exports;
  elements = v.limits.elements;
  segments = v.limits.segments;
  data_counts = v.limits.data_counts;
  starts = v.starts;
  bodies = v.limits.bodies;
}

-- each import counts one at least in the effective size, so that the limit of that is one of imports too
at_least_one : (s : Option (List (Val DefType) × List (Val DefType))) → 1 ≤ signature_size s
at_least_one None = omega arith
at_least_one (Some s) = omega arith

counts_one : (types : List DefType) (x : Extern ℕ) → 1 ≤ extern_size types x
counts_one types (func_extern x) = at_least_one (signature_at types x)
counts_one types (func_exact_extern x) = at_least_one (signature_at types x)
counts_one types (table_extern t) = omega arith
counts_one types (memory_extern m) = omega arith
counts_one types (global_extern g) = omega arith
counts_one types (tag_extern x) = at_least_one (signature_at types x)

count_ones : (types : List DefType) (is : List (Import ℕ)) → length is ≤ sum (map (import_size types) is)
count_ones types [] = omega arith
count_ones types (i ∷ is) =
    let one = counts_one types i.ty in
    let others = count_ones types is in
    omega (arith, one, others)

pub few_by_size : (C : IndexSpaces) (p : Parts) → effective_size C p.imports p.exports < size_limit → length p.imports ≤ most_imports
few_by_size C p size =
    let many = count_ones C.types p.imports in
    omega (arith, size, many)
