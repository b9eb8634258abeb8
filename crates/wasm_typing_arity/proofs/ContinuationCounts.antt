-- How many operands continuations of types take and give.
use Rattle.std.specs.Prelude.{◌-◌}
use Rattle.std.proofs.Common.{◌≡◌, refl, sym, ap, ◌∙◌, ℕ, suc, ◌+◌, List, [], ◌∷◌, length, map, Option, Some, None, option_map, slice_get, arith}
use Rattle.std.specs.Option.{option_and_then}
use Rattle.std.proofs.lemmas.Option.{slice_get-map, same_Some, none-some}
use Rattle.std.proofs.lemmas.List.{length-map}
use Rattle.wasm_readers_types.specs.WasmReadersValues.SeenValues.{val_of, ref_of, index_in}
use Rattle.wasm_readers_types.specs.WasmReadersValues.declared.indices.UnpackedIndex.{UnpackedIndex}
use Rattle.wasm_readers_types.specs.WasmReadersValues.declared.values.ValType.{ValType}
use Rattle.wasm_readers_types.specs.WasmReadersValues.declared.values.ValType.TheVariants.{Ref}
use Rattle.wasm_readers_types.specs.WasmReadersValues.declared.values.RefType.{RefType}
use Rattle.wasm_spec_steps.specs.WasmSpecRules.WasmSpec.Syntax as syntax
use Rattle.wasm_spec_steps.specs.WasmSpecRules.WasmSpec.Syntax.{Heap, abstract_heap, concrete, exact, Val, reference, Comp, func, array, struct, cont, Sub}
use Rattle.wasm_spec_steps.specs.WasmSpecRules.Attempts.{last_of}
use Rattle.wasm_spec_steps.specs.WasmSpecRules.Signatures.{signature_of}
use Rattle.wasm_spec_steps.specs.Meanings.{defined_in}
use Rattle.wasm_typing_arity.specs.ArityQueries.{Asked, type_of_id, func_alone}
use Rattle.wasm_typing_arity.specs.Arities.{plus, pair, takes_of, func_counts, referred_by, function_behind, continued_counts, switched_counts}
use Rattle.wasm_typing_arity.proofs.Frames.{last_of-at}

some-none : {A : Type 0} (x : A) → Some x ≡ None → ⊥
some-none x e = none-some x (sym e)

-- what a function type counts, behind an attempt that gives it alone
same_counts : (d c : Comp UnpackedIndex) → Some c ≡ func_alone d → func_counts c ≡ func_counts d
same_counts (func ps rs) c e = ap func_counts (same_Some c (func ps rs) e)
same_counts (array x) c e = absurd (some-none c e)
same_counts (struct xs) c e = absurd (some-none c e)
same_counts (cont a) c e = absurd (some-none c e)

no_counts : (d : Comp UnpackedIndex) → None ≡ func_alone d → None ≡ func_counts d
no_counts (func ps rs) e = absurd (none-some (func ps rs) e)
no_counts (array x) e = refl
no_counts (struct xs) e = refl
no_counts (cont a) e = refl

abbrev alone : Option (Sub UnpackedIndex) → Option (Comp UnpackedIndex)
alone o = option_and_then (λ d. func_alone d.comp) o

abbrev counted : Option (Sub UnpackedIndex) → Option (ℕ × ℕ)
counted o = option_and_then (λ d. func_counts d.comp) o

pub counts_behind : (o : Option (Sub UnpackedIndex)) (c : Comp UnpackedIndex) (r : Option (ℕ × ℕ)) → Some c ≡ alone o → r ≡ func_counts c → r ≡ counted o
counts_behind None c r e f = absurd (some-none c e)
counts_behind (Some d) c r e f = f ∙ same_counts d.comp c e

pub none_behind : (o : Option (Sub UnpackedIndex)) → None ≡ alone o → None ≡ counted o
none_behind None e = refl
none_behind (Some d) e = no_counts d.comp e

-- the last parameter
last_seen : (ps : List ValType) → last_of (map val_of ps) ≡ option_map val_of (slice_get ps (length ps - 1))
last_seen ps = last_of-at (map val_of ps) ∙ ap (λ (n : ℕ). slice_get (map val_of ps) (n - 1)) (length-map ps val_of) ∙ slice_get-map val_of ps (length ps - 1)

pub last_known : (ps : List ValType) (v : ValType) → Some v ≡ slice_get ps (length ps - 1) → last_of (map val_of ps) ≡ Some (val_of v)
last_known ps v e = last_seen ps ∙ sym (ap (option_map val_of) e)

pub last_is : (ps qs : List ValType) (v : ValType) (r : RefType) → qs ≡ ps → Some v ≡ slice_get qs (length qs - 1) → v ≡ Ref r → last_of (map val_of ps) ≡ Some (reference (ref_of r))
last_is ps qs v r same e is = ap (λ (xs : List ValType). last_of (map val_of xs)) (sym same) ∙ last_known qs v e ∙ ap (λ (x : ValType). Some (val_of x)) is

pub last_unknown : (ps : List ValType) → None ≡ slice_get ps (length ps - 1) → (M : Asked) → referred_by M (last_of (map val_of ps)) ≡ None
last_unknown ps e M = ap (referred_by M) (last_seen ps ∙ sym (ap (option_map val_of) e))

pub last_other : (ps : List ValType) (v : ValType) → Some v ≡ slice_get ps (length ps - 1) → ((M : Asked) → referred_by M (Some (val_of v)) ≡ None) → (M : Asked) → referred_by M (last_of (map val_of ps)) ≡ None
last_other ps v e h M = ap (referred_by M) (last_known ps v e) ∙ h M

-- what it refers to
same_index : (h : Heap UnpackedIndex) → index_in h ≡ defined_in h
same_index (abstract_heap s k) = refl
same_index (concrete a) = refl
same_index (exact a) = refl

pub referred : (M : Asked) (o : Option (Val UnpackedIndex)) (r : syntax.Ref UnpackedIndex) (x : Option (Sub UnpackedIndex)) → o ≡ Some (reference r) → x ≡ option_and_then (type_of_id M) (index_in r.heap) → x ≡ referred_by M o
referred M o r x e f = f ∙ ap (option_and_then (type_of_id M)) (same_index r.heap) ∙ sym (ap (referred_by M) e)

-- what a continuation gets last, by its function type
module _ (M : Asked) where
  abbrev last_in : Comp UnpackedIndex → Option (Sub UnpackedIndex)
  last_in c = referred_by M (option_and_then (λ g. last_of g.takes) (signature_of c))

  abbrev last_of_function : Option (Sub UnpackedIndex) → Option (Sub UnpackedIndex)
  last_of_function o = option_and_then (λ d. last_in d.comp) o

  same_last : (d : Comp UnpackedIndex) (ps rs : List (Val UnpackedIndex)) → Some (func ps rs) ≡ func_alone d → referred_by M (last_of ps) ≡ last_in d
  same_last (func qs ss) ps rs e = ap last_in (same_Some (func ps rs) (func qs ss) e)
  same_last (array x) ps rs e = absurd (some-none (func ps rs) e)
  same_last (struct xs) ps rs e = absurd (some-none (func ps rs) e)
  same_last (cont a) ps rs e = absurd (some-none (func ps rs) e)

  no_last : (d : Comp UnpackedIndex) → None ≡ func_alone d → None ≡ last_in d
  no_last (func ps rs) e = absurd (none-some (func ps rs) e)
  no_last (array x) e = refl
  no_last (struct xs) e = refl
  no_last (cont a) e = refl

  pub last_behind : (o : Option (Sub UnpackedIndex)) (ps rs : List (Val UnpackedIndex)) (r : Option (Sub UnpackedIndex)) → Some (func ps rs) ≡ alone o → r ≡ referred_by M (last_of ps) → r ≡ last_of_function o
  last_behind None ps rs r e f = absurd (some-none (func ps rs) e)
  last_behind (Some d) ps rs r e f = f ∙ same_last d.comp ps rs e

  pub no_last_behind : (o : Option (Sub UnpackedIndex)) → None ≡ alone o → None ≡ last_of_function o
  no_last_behind None e = refl
  no_last_behind (Some d) e = no_last d.comp e

  -- What is switched to takes an operand, where that one is known.
  abbrev counts_of_last : Comp UnpackedIndex → Option (ℕ × ℕ)
  counts_of_last c = counted (function_behind M (last_in c))

  takes_some : (d : Comp UnpackedIndex) (t g : ℕ) (p : ℕ × ℕ) → Some (t, g) ≡ func_counts d → Some p ≡ counts_of_last d → (k : ℕ) × (t ≡ suc k)
  takes_some (func [] rs) t g p e f = absurd (some-none p f)
  takes_some (func (v ∷ ps) rs) t g p e f = (length ps, ap (λ (x : ℕ × ℕ). x.0) (same_Some (t, g) (length (v ∷ ps), length rs) e))
  takes_some (array x) t g p e f = absurd (some-none (t, g) e)
  takes_some (struct xs) t g p e f = absurd (some-none (t, g) e)
  takes_some (cont a) t g p e f = absurd (some-none (t, g) e)

  takes_one : (o : Option (Sub UnpackedIndex)) (t g : ℕ) (p : ℕ × ℕ) → Some (t, g) ≡ counted o → Some p ≡ counted (function_behind M (last_of_function o)) → (k : ℕ) × (t ≡ suc k)
  takes_one None t g p e f = absurd (some-none (t, g) e)
  takes_one (Some d) t g p e f = takes_some d.comp t g p e f

  abbrev switching_counts : Option (ℕ × ℕ) → Option (ℕ × ℕ) → Option (ℕ × ℕ)
  switching_counts o p = pair (plus (option_map (λ k. k - 1) (takes_of o)) (Some 1)) (takes_of p)

  pub switched : (n t g u h : ℕ) → Some (t, g) ≡ continued_counts M n → Some (u, h) ≡ switched_counts M n → Some (t, u) ≡ switching_counts (continued_counts M n) (switched_counts M n)
  switched n t g u h e f =
      let k = takes_one (function_behind M (M.types n)) t g (u, h) e f in
      let s : t ≡ (t - 1) + 1 = omega (arith, k.1) in
      ap (λ (x : ℕ). Some (x, u)) s ∙ ap (λ (o : Option (ℕ × ℕ)). switching_counts o (Some (u, h))) e ∙ ap (λ (p : Option (ℕ × ℕ)). switching_counts (continued_counts M n) p) f

  pub switched_none : (n : ℕ) → None ≡ continued_counts M n → None ≡ switching_counts (continued_counts M n) (switched_counts M n)
  switched_none n e = ap (λ (o : Option (ℕ × ℕ)). switching_counts o (switched_counts M n)) e

  pub not_switched : (n t g : ℕ) → Some (t, g) ≡ continued_counts M n → None ≡ switched_counts M n → None ≡ switching_counts (continued_counts M n) (switched_counts M n)
  not_switched n t g e f = ap (λ (o : Option (ℕ × ℕ)). switching_counts o None) e ∙ ap (λ (p : Option (ℕ × ℕ)). switching_counts (continued_counts M n) p) f

pub ruleset continuing = (counts_behind, none_behind, last_behind, no_last_behind)

pub ruleset lasts = (last_known, last_unknown, last_other)

pub ruleset referring = (referred)

pub ruleset switching = (switched, switched_none, not_switched)
