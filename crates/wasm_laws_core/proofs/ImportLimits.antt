-- Whether an imported item fits behind others: the machine's test, and the limits.
use Rattle.std.proofs.Common.{ℕ, ◌+◌, ◌≤◌, Bool, leb, arith}
use Rattle.std.specs.Bool.{Decides}
use Rattle.std.proofs.lemmas.Bool.{leb-true, le-leb}
use Rattle.wasm_spec.specs.Syntax.{Extern, func_extern, func_exact_extern, table_extern, memory_extern, global_extern, tag_extern}
use Rattle.wasm_spec.specs.Features.{Features}
use Rattle.wasm_spec_rules.specs.Limits.{most_functions, most_tables, most_memories, most_globals, most_tags}
use Rattle.wasm_laws_core.specs.Imports.{HasRoom}

module _ (F : Features) (functions tables memories globals tags : ℕ) where
  abbrev Room : Extern ℕ → Type 0
  Room x = HasRoom F functions tables memories globals tags x

  -- the machine's test of it
  abbrev pub has_room : Extern ℕ → Bool
  has_room (func_extern x) = leb (functions + 1) most_functions
  has_room (func_exact_extern x) = leb (functions + 1) most_functions
  has_room (table_extern t) = leb (tables + 1) (most_tables F)
  has_room (memory_extern m) = leb (memories + 1) (most_memories F)
  has_room (global_extern g) = leb (globals + 1) most_globals
  has_room (tag_extern x) = leb (tags + 1) most_tags

  module _ (f : functions ≤ most_functions) (t : tables ≤ most_tables F) (m : memories ≤ most_memories F) (g : globals ≤ most_globals) (e : tags ≤ most_tags) where
    pub room_decided : (x : Extern ℕ) → Decides (has_room x) (Room x)
    room_decided (func_extern x) = (λ h. record { few_functions = leb-true (functions + 1) most_functions h; few_tables = omega (arith, t); few_memories = omega (arith, m); few_globals = omega (arith, g); few_tags = omega (arith, e) }, λ r. le-leb (functions + 1) most_functions r.few_functions)
    room_decided (func_exact_extern x) = (λ h. record { few_functions = leb-true (functions + 1) most_functions h; few_tables = omega (arith, t); few_memories = omega (arith, m); few_globals = omega (arith, g); few_tags = omega (arith, e) }, λ r. le-leb (functions + 1) most_functions r.few_functions)
    room_decided (table_extern x) = (λ h. record { few_functions = omega (arith, f); few_tables = leb-true (tables + 1) (most_tables F) h; few_memories = omega (arith, m); few_globals = omega (arith, g); few_tags = omega (arith, e) }, λ r. le-leb (tables + 1) (most_tables F) r.few_tables)
    room_decided (memory_extern x) = (λ h. record { few_functions = omega (arith, f); few_tables = omega (arith, t); few_memories = leb-true (memories + 1) (most_memories F) h; few_globals = omega (arith, g); few_tags = omega (arith, e) }, λ r. le-leb (memories + 1) (most_memories F) r.few_memories)
    room_decided (global_extern x) = (λ h. record { few_functions = omega (arith, f); few_tables = omega (arith, t); few_memories = omega (arith, m); few_globals = leb-true (globals + 1) most_globals h; few_tags = omega (arith, e) }, λ r. le-leb (globals + 1) most_globals r.few_globals)
    room_decided (tag_extern x) = (λ h. record { few_functions = omega (arith, f); few_tables = omega (arith, t); few_memories = omega (arith, m); few_globals = omega (arith, g); few_tags = leb-true (tags + 1) most_tags h }, λ r. le-leb (tags + 1) most_tags r.few_tags)
