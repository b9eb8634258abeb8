-- How a side table is made in one pass: each block that opens gets two places with numbers, branches name the numbers, and where a block
-- turns or closes its places are filled in. In the end each entry gets the place of its number.
use Rattle.std.specs.Prelude.{ℕ, ◌+◌, Bool, true, false, not, if◌then◌else◌, List, [], ◌∷◌, ◌++◌, length, Option, Some, None, slice_get, slice_set}
use Rattle.std.specs.Option.{option_map}
use Rattle.wasm_spec_steps.specs.WasmSpecRules.WasmSpec.MatchingTests.{World}
use Rattle.wasm_spec_steps.specs.WasmSpecRules.Attempts.{◌>>=◌, guard}
use Rattle.wasm_spec_steps.specs.Bodies.{Surroundings}
use Rattle.wasm_spec_steps.specs.Machine.{State}
use Rattle.wasm_spec_steps.specs.Steps.{step_in}
use Rattle.wasm_spec_side_tables.specs.declared.entry.Entry.{Entry}
use Rattle.wasm_spec_side_tables.specs.declared.entry.Place.{Place}
use Rattle.wasm_spec_side_tables.specs.declared.entry.OpenBlock.{OpenBlock}
use Rattle.wasm_spec_side_tables.specs.SideTables.{Placed, Branch, to_label, past_then, catching_to, handling_to, branches, Nesting, opens_loop, opens, turns, closes, stays, nesting, counts}

-- the places by their numbers, and the blocks that are open, the innermost first
pub record Nest : Type 0 where
  pub places : List Place
  pub open_blocks : List OpenBlock

abbrev pub opened : Bool → Place → Nest → Nest
opened is_loop p N = record {
  places = N.places ++ p ∷ p ∷ [];
  open_blocks = record { label = length N.places; other = length N.places + 1; is_loop = is_loop } ∷ N.open_blocks;
}

-- a loop has no next part
abbrev pub turned : Place → List OpenBlock → Nest → Option Nest
turned p [] N = None
turned p (o ∷ os) N = guard (not o.is_loop) (record { places = slice_set N.places o.other p; open_blocks = record { label = o.label; other = o.label; is_loop = false } ∷ os })

-- the places where one is filled in
abbrev pub closed_places : Place → OpenBlock → List Place → List Place
closed_places p o ps = if o.is_loop then ps else slice_set (slice_set ps o.label p) o.other p

abbrev pub closed : Place → List OpenBlock → Nest → Option Nest
closed p [] N = None
closed p (o ∷ os) N = Some (record { places = closed_places p o N.places; open_blocks = os })

abbrev pub nested : Nesting → Place → Nest → Option Nest
nested opens_loop p N = Some (opened true p N)
nested opens p N = Some (opened false p N)
nested turns p N = turned p N.open_blocks N
nested closes p N = closed p N.open_blocks N
nested stays p N = Some N

-- the number of the place where a branch goes; the next block gets the first numbers that are free
abbrev pub number_of : Nest → Branch → Option ℕ
number_of N (to_label l taken) = option_map (λ o. o.label) (slice_get N.open_blocks l)
number_of N (past_then b) = Some (length N.places + 1)
number_of N (catching_to b l) = option_map (λ o. o.label) (slice_get N.open_blocks l)
number_of N (handling_to t l) = option_map (λ o. o.label) (slice_get N.open_blocks l)

-- an entry with the place of its number
abbrev pub resolved : List Place → Entry → Option Entry
resolved ps e = slice_get ps e.target >>= λ p. Some (record e { target = p.offset; next = p.next })

abbrev pub resolved_each : List Place → List Entry → Option (List Entry)
resolved_each ps [] = Some []
resolved_each ps (e ∷ es) = do
  x ← resolved ps e
  xs ← resolved_each ps es
  Some (x ∷ xs)

-- the table so far
pub record Built : Type 0 where
  pub entries : List Entry
  pub nest : Nest

-- before the first instruction the body's own block is open
abbrev pub begun : Built
begun = record { entries = []; nest = opened false (record { offset = 0; next = 0 }) (record { places = []; open_blocks = [] }) }

module _ {R : Type 0} (W : World R) (B : Surroundings R) where
  -- an entry whose target is the number of its place
  abbrev pub planned : State R → Nest → ℕ → Branch → Option Entry
  planned s N at b = do
    k ← number_of N b
    c ← counts W B s b
    Some (record { at = at; target = k; next = 0; kept = c.0; dropped = c.1 })

  abbrev pub planned_each : State R → Nest → ℕ → List Branch → Option (List Entry)
  planned_each s N at [] = Some []
  planned_each s N at (b ∷ bs) = do
    e ← planned s N at b
    es ← planned_each s N at bs
    Some (e ∷ es)

  -- with an instruction more, before its step is taken
  abbrev pub noted : State R → Placed → Built → Option Built
  noted s i T = do
    es ← planned_each s T.nest i.at (branches i.op)
    N ← nested (nesting i.op) (record { offset = i.behind; next = length (T.entries ++ es) }) T.nest
    Some (record { entries = T.entries ++ es; nest = N })

  -- with all of these instructions
  abbrev pub built : State R → Built → List Placed → Option (State R × Built)
  built s T [] = Some (s, T)
  built s T (i ∷ is) = do
    U ← noted s i T
    t ← step_in W B i.op s
    built t U is
