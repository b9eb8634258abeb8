-- Writing into an array from its beginning.
use Rattle.std.proofs.Common.{ℕ, ◌≡◌, ◌+◌, ◌<◌, ◌≤◌, List, length, slice_index, below_more, refl, ◌∙◌, arith}
use Rattle.std.proofs.Math.ListN.{set}
use Rattle.std.proofs.lemmas.List.{get_or-set_same, get_or-set_other, length-set}
use Rattle.wasm_validator_handles.specs.Arrays.{AreWritten}

-- the first of these stand in the array, up to this place
pub record Upto (given : List ℕ) (i : ℕ) (old new : List ℕ) : Type 0 where
  pub within : i ≤ length given
  pub room : length new ≡ length old
  pub written : (k : ℕ) → k < i → slice_index new k ≡ slice_index given k
  pub others : (k : ℕ) → i ≤ k → slice_index new k ≡ slice_index old k

pub none_yet : (given old : List ℕ) → Upto given 0 old old
none_yet given old = record { within = omega arith; room = refl; written = λ k l. absurd (omega (arith, l)); others = λ k l. refl }

pub one_more : (given old new : List ℕ) (i v : ℕ) → i < length new → i < length given → v ≡ slice_index given i → Upto given i old new → Upto given (i + 1) old (set new i v)
one_more given old new i v fits there e u = record {
  within = omega arith;
  room = length-set new i v ∙ u.room;
  written = below_more (λ k. slice_index (set new i v) k ≡ slice_index given k) i
      (λ k l. get_or-set_other new i k v 0 (omega (arith, l)) ∙ u.written k l)
      (get_or-set_same new i v 0 fits ∙ e);
  others = λ k l. get_or-set_other new i k v 0 (omega (arith, l)) ∙ u.others k (omega (arith, l));
}

-- all are written, or there is no more room
pub all_written : (given old new : List ℕ) (i : ℕ) → length given ≤ i → Upto given i old new → AreWritten given old new
all_written given old new i e u = let w = u.within in record {
  room = u.room;
  written = λ k l m. u.written k (omega (arith, l, e));
  others = λ k l. u.others k (omega (arith, l, w));
}

pub room_full : (given old new : List ℕ) (i : ℕ) → length new ≤ i → Upto given i old new → AreWritten given old new
room_full given old new i e u = let w = u.within in let r = u.room in record {
  room = u.room;
  written = λ k l m. u.written k (omega (arith, l, m, e, r));
  others = λ k l. u.others k (omega (arith, l, w));
}
