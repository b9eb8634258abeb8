-- Memories whose pages have the same size match as their limits do.
use Rattle.std.proofs.Common.{◌≡◌, Bool}
use Rattle.std.specs.Bool.{Decides}
use Rattle.wasm_readers_values.specs.WasmSpec.Syntax.{Memory}
use Rattle.wasm_readers_values.specs.WasmSpec.LinkMatching.{MatchesLimits, MatchesMemory, page_log}

module _ (a b : Memory) (r : Bool) where
  pub same_pages : a.is_64 ≡ b.is_64 → a.shared ≡ b.shared → page_log a ≡ page_log b → Decides r (MatchesLimits (a.minimum, a.maximum) (b.minimum, b.maximum)) → Decides r (MatchesMemory a b)
  same_pages e f g d = ((λ t. record { same_addresses = e; same_shared = f; same_pages = g; limits = d.0 t }), (λ m. d.1 m.limits))
