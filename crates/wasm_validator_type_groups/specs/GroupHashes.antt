-- Groups that are found by their hashes: of each hash the last group with it, and of each group the last one before it with
-- the same hash.
use Rattle.std.specs.Prelude.{ℕ, ◌≡◌, ◌+◌, ◌<◌, ◌≤◌, nat_eq, cond, List, length, slice_get, IsSome}
use Rattle.std.specs.BTreeMap as tree
use Rattle.std.specs.HashMap as map
use Rattle.std.specs.Ordering.{nat_cmp}
use Rattle.std.specs.Option.{MatchOption, option_flatten}
use Rattle.std.specs.List.{fold}
use Rattle.std.specs.Hash.{HashWrites, slice}
use Rattle.std.specs.Hash.DefaultHasher as sip
use Rattle.std.specs.declared.option.Option.{Option}
use Rattle.std.specs.declared.option.Option.TheVariants.{None, Some}
use Rattle.wasm_validator_type_groups.specs.declared.known_groups.KnownGroups.{KnownGroups}

-- the hash of a group whose items are fed like this
abbrev pub group_hash : {X : Type 0} → (X → HashWrites) → List X → ℕ
group_hash F g = sip.finish (fold sip.write sip.initial (slice F g))

-- the last group with this hash, and the last one with the hash of the group n before it
abbrev pub latest_of : {A : Type 0} → KnownGroups A → ℕ → Option ℕ
latest_of k h = option_flatten (tree.get nat_cmp k.latest h)

abbrev pub earlier_of : {A : Type 0} → KnownGroups A → ℕ → Option ℕ
earlier_of k n = map.get nat_eq k.earlier n

module _ {X : Type 0} (F : X → HashWrites) where
  -- no group from this number to below the bound has the hash
  abbrev pub HaveOthers : List (List X) → ℕ → ℕ → ℕ → Type 0
  HaveOthers gs from bound h = (k : ℕ) (g : List X) → from ≤ k → k < bound → slice_get gs k ≡ Some g → group_hash F g ≡ h → ⊥

  -- n is the last group below the bound with the hash
  pub record IsLast (gs : List (List X)) (bound h n : ℕ) : Type 0 where
    pub below : n < bound
    pub group : List X
    pub there : slice_get gs n ≡ Some group
    pub hash : group_hash F group ≡ h
    pub others : HaveOthers gs (n + 1) bound h

  -- the last group below the bound with the hash, if there is one
  abbrev pub IsLatest : List (List X) → ℕ → ℕ → Option ℕ → Type 0
  IsLatest gs bound h o = MatchOption o (HaveOthers gs 0 bound h) (λ n. IsLast gs bound h n)

  -- these are the groups that are known
  pub record AreKnown {A : Type 0} (k : KnownGroups A) (gs : List (List X)) : Type 0 where
    pub latest : (h : ℕ) → IsLatest gs (length gs) h (latest_of k h)
    pub earlier : (n : ℕ) (g : List X) → slice_get gs n ≡ Some g → IsLatest gs n (group_hash F g) (earlier_of k n)
    pub fresh : (n : ℕ) → length gs ≤ n → earlier_of k n ≡ None

-- what is found of n, where the number has the one before it
abbrev pub with_earlier : Option ℕ → ℕ → Option ℕ → ℕ → Option ℕ
with_earlier None number o n = o
with_earlier (Some before) number o n = cond (nat_eq number n) (Some before) o

module _ {A : Type 0} where
  -- both find the same
  pub record FindSame (old new : KnownGroups A) : Type 0 where
    pub latest : (h : ℕ) → latest_of new h ≡ latest_of old h
    pub earlier : (n : ℕ) → earlier_of new n ≡ earlier_of old n

  -- the tree has a place for a group with this hash
  abbrev pub HasPlace : KnownGroups A → ℕ → Type 0
  HasPlace k hash = IsSome (tree.get nat_cmp k.latest hash)

  -- there is room for one more with this hash
  pub record HasRoom (k : KnownGroups A) (hash : ℕ) : Type 0 where
    pub latest : HasPlace k hash
    pub earlier : 1 ≤ map.spare k.earlier

  -- the group with this number has this hash, behind those that had it
  pub record FindsOneMore (old new : KnownGroups A) (hash number : ℕ) : Type 0 where
    pub latest : (h : ℕ) → latest_of new h ≡ cond (nat_eq hash h) (Some number) (latest_of old h)
    pub earlier : (n : ℕ) → earlier_of new n ≡ with_earlier (latest_of old hash) number (earlier_of old n) n
