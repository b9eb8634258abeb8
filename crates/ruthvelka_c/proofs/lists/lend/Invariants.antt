use Rattle.std.proofs.Common.{◌≡◌, ◌≤◌, length, map, take, vec_len, vec_capacity}
use Rattle.ruthvelka_c.specs.Lists.{bytes_of}
use Rattle.ruthvelka_c.proofs.lists.lend.Given as goal

abbrev pub invariant-modules : goal.invariant-modules
invariant-modules l = record {
  lent : map (λ bytes. bytes.now) l.lent.items ≡ map bytes_of (take l.it-index l.modules);
  count : vec_len l.lent ≡ l.it-index;
  room : length l.modules ≤ vec_capacity l.lent;
}
