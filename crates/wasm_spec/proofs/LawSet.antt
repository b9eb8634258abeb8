-- The laws, for the functions that name them.
use Rattle.std.proofs.Common.{◌≡◌, subst, ℕ, List, [], ◌++◌, length, ap, Option, Some, arith, length-append}
use Rattle.wasm_spec.specs.Syntax.{map_val, map_sub, map_rec}
use Rattle.wasm_spec.specs.Values.{unsigned_at, signed_at, name_at}
use Rattle.wasm_spec.specs.BinaryTypes.{val_at, rec_at}
use Rattle.wasm_spec.specs.BinaryModules.{import_at, entry_at, export_at, map_import, map_entry}
use Rattle.wasm_spec.specs.Laws.{ReadingRenames, ReadingGoesOn, ReadingIgnoresWhatFollows, MapAfterMap}
use Rattle.wasm_spec.proofs.Renaming.{val-renames, rec-renames, import-renames, entry-renames}
use Rattle.wasm_spec.proofs.SyntaxMaps.{map_val-map, map_sub-map, map_rec-map, map_import-map, map_val-same, map_sub-same, map_rec-same, map_import-same}
use Rattle.wasm_spec.proofs.Front.{Reads, ReadsBy, IsRest, unsigned-reads, signed-reads, name-reads, val-reads, rec-reads, import-reads, export-reads}

-- reading renames
module _ {R S : Type 0} where
  pub val_renames : ReadingRenames R S map_val val_at val_at
  val_renames f to bytes = (val-renames f to bytes).is

  pub rec_renames : ReadingRenames R S map_rec rec_at rec_at
  rec_renames f to bytes = (rec-renames f to bytes).is

  pub import_renames : ReadingRenames R S map_import import_at import_at
  import_renames f to bytes = (import-renames f to bytes).is

  pub entry_renames : ReadingRenames R S map_entry entry_at entry_at
  entry_renames f to bytes = (entry-renames f to bytes).is

pub ruleset renaming_laws = (val_renames, rec_renames, import_renames, entry_renames)

-- what a reader does with more bytes behind, for any
module _ {V : Type 0} (reads : List ℕ → Option (V × List ℕ)) (h : (more bytes : List ℕ) → Reads more 1 bytes (reads bytes) (reads (bytes ++ more))) where
  read : (bytes more : List ℕ) (v : V) (rest : List ℕ) → reads bytes ≡ Some (v, rest) → ReadsBy more 1 bytes (Some (v, rest)) (reads (bytes ++ more))
  read bytes more v rest e = subst (λ o. ReadsBy more 1 bytes o (reads (bytes ++ more))) e (h more bytes).is

  pub goes_on : ReadingGoesOn reads
  goes_on bytes v rest e =
      let r : IsRest 1 rest bytes = (read bytes [] v rest e).0 in
      record { front = r.front; is = r.is; shorter = omega (arith, ap length r.is, length-append r.front rest, r.longer) }

  pub ignores_what_follows : ReadingIgnoresWhatFollows reads
  ignores_what_follows bytes more v rest e = (read bytes more v rest e).1

-- reading goes on
module _ {R : Type 0} (to : ℕ → R) where
  pub val_goes_on : ReadingGoesOn (val_at to)
  val_goes_on = goes_on (val_at to) (λ more. val-reads {more = more} to)

  pub rec_goes_on : ReadingGoesOn (rec_at to)
  rec_goes_on = goes_on (rec_at to) (λ more. rec-reads {more = more} to)

  pub import_goes_on : ReadingGoesOn (import_at to)
  import_goes_on = goes_on (import_at to) (λ more. import-reads {more = more} to)

pub export_goes_on : ReadingGoesOn export_at
export_goes_on = goes_on export_at (λ more. export-reads {more = more})

pub unsigned_goes_on : (bits : ℕ) → ReadingGoesOn (unsigned_at bits)
unsigned_goes_on bits = goes_on (unsigned_at bits) (λ more. unsigned-reads {more = more} bits)

pub signed_goes_on : (bits : ℕ) → ReadingGoesOn (signed_at bits)
signed_goes_on bits = goes_on (signed_at bits) (λ more. signed-reads {more = more} bits)

pub name_goes_on : ReadingGoesOn name_at
name_goes_on = goes_on name_at (λ more. name-reads {more = more})

pub ruleset progress_laws = (val_goes_on, rec_goes_on, import_goes_on, export_goes_on, unsigned_goes_on, signed_goes_on, name_goes_on)

-- reading ignores what follows
module _ {R : Type 0} (to : ℕ → R) where
  pub val_ignores : ReadingIgnoresWhatFollows (val_at to)
  val_ignores = ignores_what_follows (val_at to) (λ more. val-reads {more = more} to)

  pub rec_ignores : ReadingIgnoresWhatFollows (rec_at to)
  rec_ignores = ignores_what_follows (rec_at to) (λ more. rec-reads {more = more} to)

  pub import_ignores : ReadingIgnoresWhatFollows (import_at to)
  import_ignores = ignores_what_follows (import_at to) (λ more. import-reads {more = more} to)

pub unsigned_ignores : (bits : ℕ) → ReadingIgnoresWhatFollows (unsigned_at bits)
unsigned_ignores bits = ignores_what_follows (unsigned_at bits) (λ more. unsigned-reads {more = more} bits)

pub signed_ignores : (bits : ℕ) → ReadingIgnoresWhatFollows (signed_at bits)
signed_ignores bits = ignores_what_follows (signed_at bits) (λ more. signed-reads {more = more} bits)

pub name_ignores : ReadingIgnoresWhatFollows name_at
name_ignores = ignores_what_follows name_at (λ more. name-reads {more = more})

pub export_ignores : ReadingIgnoresWhatFollows export_at
export_ignores = ignores_what_follows export_at (λ more. export-reads {more = more})

pub ruleset front_laws = (val_ignores, rec_ignores, import_ignores, unsigned_ignores, signed_ignores, name_ignores, export_ignores)

-- maps of the syntax
module _ {Q R S : Type 0} where
  pub val_after : MapAfterMap Q R S map_val map_val map_val
  val_after f g v = map_val-map g f v

  pub sub_after : MapAfterMap Q R S map_sub map_sub map_sub
  sub_after f g v = map_sub-map g f v

  pub rec_after : MapAfterMap Q R S map_rec map_rec map_rec
  rec_after f g v = map_rec-map g f v

  pub import_after : MapAfterMap Q R S map_import map_import map_import
  import_after f g v = map_import-map g f v

pub ruleset map_laws = (val_after, sub_after, rec_after, import_after, map_val-same, map_sub-same, map_rec-same, map_import-same)
