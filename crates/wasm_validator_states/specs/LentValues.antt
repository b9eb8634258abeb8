-- What a `MaybeOwned` ends as, where a `&mut` to its value is returned.
use Rattle.std.specs.Prelude.{◌≡◌, Option, Result, MatchResult, ⊤}
use Rattle.std.specs.Borrow.{Lends, LendsIf, MutBor, Fml, RattleType, follows_so}
use Rattle.std.specs.declared.alloc.Allocator.{Ghosts}
use mathlib.Core.Option.{none}
use Rattle.wasm_validator_states.specs.MaybeOwnedValues.{Held, owned, shared, value_of}
use Rattle.wasm_validator_states.specs.contracts.maybe_owned.MaybeOwned.{the_row}

module _ (T A : RattleType) (alloc : Ghosts A.Denot) (s : MutBor (Held T.Denot)) where
  -- once the borrow r ends, the value is owned and the last one written through r
  abbrev pub lends_value : MutBor T.Denot → Fml
  lends_value r = Lends (the_row T A alloc) T s r owned

  -- the same where r is a reference, and at `None` it stays as it is
  abbrev pub lends_owned : Option (MutBor T.Denot) → Fml
  lends_owned r = LendsIf (the_row T A alloc) T s r owned s.now

  -- at `Ok` it is shared, with the value that it had, and at `Err` it stays as it is
  abbrev pub ends_shared : {R E : Type 0} → Result R E → Fml
  ends_shared r =
      follows_so (the_row T A alloc) (the_row T A alloc) s.ghost_name none (λ _ _. ⊤) (λ n. MatchResult r (λ _. n ≡ shared (value_of s.now)) (λ _. n ≡ s.now))
