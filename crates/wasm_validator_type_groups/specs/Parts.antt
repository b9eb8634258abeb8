-- Parts of a list, one behind another, and runs of parts.
use Rattle.std.specs.Prelude.{ℕ, ◌≡◌, ◌+◌, ◌<◌, List, [], ◌∷◌, ◌++◌, length, map, ⊤}
use Rattle.wasm_validator_type_groups.specs.declared.parts.Part.{Part}
use Rattle.wasm_validator_type_groups.specs.declared.parts.Run.{Run}

-- a part as the place of its first item, and its items
abbrev pub seen : {T A : Type 0} → Part T A → ℕ × List T
seen p = (p.first, p.items.value.items)

-- the items of the parts, one part behind another
abbrev pub all_items : {T : Type 0} → List (ℕ × List T) → List T
all_items [] = []
all_items (p ∷ ps) = p.1 ++ all_items ps

-- each part begins where the one before it ends and has an item, and the last ends at the end
abbrev pub StandFrom : {T : Type 0} → ℕ → List (ℕ × List T) → ℕ → Type 0
StandFrom from [] end = from ≡ end
StandFrom from (p ∷ ps) end = (p.0 ≡ from) × (0 < length p.1) × StandFrom (from + length p.1) ps end

abbrev pub PartsStand : {T A : Type 0} → ℕ → List (Part T A) → ℕ → Type 0
PartsStand from ps end = StandFrom from (map seen ps) end

-- a run as the place of its first item, and its parts
abbrev pub run_parts : {T A : Type 0} → Run T A → ℕ × List (ℕ × List T)
run_parts r = (r.first, map seen r.parts.value.items)

-- as one part
abbrev pub one_part : {T : Type 0} → ℕ × List (ℕ × List T) → ℕ × List T
one_part r = (r.0, all_items r.1)

abbrev pub run_seen : {T A : Type 0} → Run T A → ℕ × List T
run_seen r = one_part (run_parts r)

-- its parts stand where it does
abbrev pub IsRunOf : {T : Type 0} → ℕ × List (ℕ × List T) → Type 0
IsRunOf r = StandFrom r.0 r.1 (r.0 + length (all_items r.1))

abbrev pub IsRun : {T A : Type 0} → Run T A → Type 0
IsRun r = IsRunOf (run_parts r)

abbrev pub AreRuns : {T : Type 0} → List (ℕ × List (ℕ × List T)) → Type 0
AreRuns [] = ⊤
AreRuns (r ∷ rs) = IsRunOf r × AreRuns rs

-- so do all, one behind another
pub record RunsStand {T A : Type 0} (rs : List (Run T A)) (end : ℕ) : Type 0 where
  pub order : StandFrom 0 (map run_seen rs) end
  pub each : AreRuns (map run_parts rs)

module _ {T A : Type 0} where
  -- so few parts that they are no run
  abbrev pub AreFew : List (Part T A) → Type 0
  AreFew ps = length ps < 8

  -- the last two runs, if there are two, do not have as many parts as each other
  abbrev pub LastTwoDiffer : List (Run T A) → Type 0
  LastTwoDiffer rs = (front : List (Run T A)) (a b : Run T A) → rs ≡ front ++ a ∷ b ∷ [] → length a.parts.value.items ≡ length b.parts.value.items → ⊥
