-- Blocks that open once their places are there.
use Rattle.std.proofs.Common.{◌≡◌, sym, ap, ◌∙◌, ℕ, ◌+◌, ◌-◌, Bool, true, false, if◌then◌else◌, List, [], ◌∷◌, ◌++◌, length, Some, arith, length-append}
use Rattle.wasm_spec_side_tables.specs.declared.entry.Place.{Place}
use Rattle.wasm_spec_side_tables.specs.SideTables.{opens, opens_loop}
use Rattle.wasm_spec_side_tables.specs.OnePassTables.{Built}
use Rattle.wasm_validator_side_notes.specs.TableViews.{place_in, nested_in, block_by, with_block}

-- the second place is the last one
pub block_is : (is_loop : Bool) (label count : ℕ) → count ≡ label + 2 → record { label = label; other = count - 1; is_loop = is_loop } ≡ block_by is_loop label
block_is is_loop label count e =
    let next : count - 1 ≡ label + 1 = omega (arith, e) in
    ap (λ (n : ℕ). record { label = label; other = n; is_loop = is_loop }) next

-- a block with two places more
pub opened_so :
    (is_loop : Bool) (behind label : ℕ) (p : Place) (T U V : Built) → label ≡ length T.nest.places → p ≡ place_in behind T
    → U ≡ record { entries = T.entries; nest = record { places = T.nest.places ++ p ∷ p ∷ []; open_blocks = T.nest.open_blocks } } → V ≡ with_block U (block_by is_loop label)
    → nested_in (if is_loop then opens_loop else opens) behind T ≡ Some V
opened_so true behind label p T U V l e u v = sym (ap (λ (W : Built). Some W) (v ∙ ap (λ (W : Built). with_block W (block_by true label)) u ∙ ap (λ (q : Place). with_block (record { entries = T.entries; nest = record { places = T.nest.places ++ q ∷ q ∷ []; open_blocks = T.nest.open_blocks } }) (block_by true label)) e ∙ ap (λ (n : ℕ). with_block (record { entries = T.entries; nest = record { places = T.nest.places ++ place_in behind T ∷ place_in behind T ∷ []; open_blocks = T.nest.open_blocks } }) (block_by true n)) l))
opened_so false behind label p T U V l e u v = sym (ap (λ (W : Built). Some W) (v ∙ ap (λ (W : Built). with_block W (block_by false label)) u ∙ ap (λ (q : Place). with_block (record { entries = T.entries; nest = record { places = T.nest.places ++ q ∷ q ∷ []; open_blocks = T.nest.open_blocks } }) (block_by false label)) e ∙ ap (λ (n : ℕ). with_block (record { entries = T.entries; nest = record { places = T.nest.places ++ place_in behind T ∷ place_in behind T ∷ []; open_blocks = T.nest.open_blocks } }) (block_by false n)) l))

-- where a place was put twice, there are two places more
pub two_more : (n : ℕ) (ps qs : List Place) (p : Place) → n ≡ length ps → qs ≡ ps ++ p ∷ p ∷ [] → n + 2 ≡ length qs
two_more n ps qs p l e = ap (λ k. k + 2) l ∙ sym (length-append ps (p ∷ p ∷ [])) ∙ sym (ap length e)

pub ruleset opening = (block_is, opened_so, two_more)
