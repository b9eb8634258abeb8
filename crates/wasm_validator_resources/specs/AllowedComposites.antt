-- Which composite types the features allow. Core Specification 3.0, Validation, Types, Composite Types, and the
-- proposals by which each form came.
use Rattle.std.specs.Prelude.{Bool, ◌&&◌}
use Rattle.std.specs.List.{list_all}
use Rattle.wasm_readers_errors.specs.WasmSpec.Syntax.{Comp}
use Rattle.wasm_readers_errors.specs.WasmSpec.Features.{Features}
use Rattle.wasm_readers_errors.specs.WasmSpec.ValueTypes.{implies, allows_storage}
use Rattle.wasm_readers_errors.specs.WasmSpec.CrateLimits.{is_limited}
use Rattle.wasm_readers_errors.specs.WasmSpec.GroupRules.{storages, has_many_results, is_array, is_struct, is_cont}

-- the features that each form needs
abbrev pub allows_form : {R : Type 0} → Features → Comp R → Bool
allows_form F c =
    implies (has_many_results c) F.multi_value
    && implies (is_array c) (F.gc && F.gc_types)
    && implies (is_struct c) (F.gc && F.gc_types)
    && implies (is_cont c) (F.stack_switching && F.gc_types)

-- the proposals that it and its members need
abbrev pub proposals_allow : {R : Type 0} → Features → Comp R → Bool
proposals_allow F c = list_all (allows_storage F) (storages c) && allows_form F c

-- and the limits, where they are asked for
abbrev pub allows_comp : {R : Type 0} → Features → Comp R → Bool
allows_comp F c = proposals_allow F c && is_limited F c
