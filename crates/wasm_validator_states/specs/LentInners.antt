-- What an `Inner` ends as, where a `&mut` to its value is returned.
use Rattle.std.specs.Prelude.{Option}
use Rattle.std.specs.Borrow.{Lends, LendsIf, MutBor, Fml, RattleType}
use Rattle.std.specs.declared.alloc.Allocator.{Ghosts}
use Rattle.wasm_validator_states.specs.declared.maybe_owned.Inner.{Inner}
use Rattle.wasm_validator_states.specs.declared.maybe_owned.Inner.TheVariants.{Owned}
use Rattle.wasm_validator_states.specs.contracts.maybe_owned.Inner.{the_row}

module _ (T A : RattleType) (alloc : Ghosts A.Denot) (s : MutBor (Inner T.Denot A.Denot)) where
  -- once the borrow r ends, it owns the last value written through r
  abbrev pub lends_inner_value : MutBor T.Denot → Fml
  lends_inner_value r = Lends (the_row T A alloc) T s r Owned

  -- the same where r is a reference, and at `None` it stays as it is
  abbrev pub lends_inner : Option (MutBor T.Denot) → Fml
  lends_inner r = LendsIf (the_row T A alloc) T s r Owned s.now
