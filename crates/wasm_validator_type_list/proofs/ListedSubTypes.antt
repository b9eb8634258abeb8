-- Sub types as the list's definitions write them.
use Rattle.std.proofs.Common.{◌≡◌, refl, sym, ap, subst, ◌∙◌, ℕ, ◌≤◌, List, [], ◌∷◌, map, length, All, arith}
use Rattle.std.proofs.lemmas.List.Elements.{recursion_from_All, All-from_recursion}
use Rattle.wasm_readers_errors.specs.WasmSpec.Syntax.{map_sub}
use Rattle.wasm_readers_errors.specs.WasmSpec.References.{refs_sub}
use Rattle.wasm_readers_errors.specs.WasmSpec.Trees.{DefType}
use Rattle.wasm_readers_errors.specs.WasmSpec.TypeLists.{ListedUse, by_id, by_position}
use Rattle.wasm_readers_errors.specs.WasmSpec.TypeLaws.{IsKnownUse, MentionsKnown}
use Rattle.wasm_readers_errors.proofs.WasmSpec.ClosedGroups.{refs_sub-map}
use Rattle.wasm_readers_errors.proofs.WasmSpec.Agreement.{map_sub-undone}
use Rattle.wasm_readers_errors.proofs.WasmSpec.WrittenTypes.{Each, each_map}
use Rattle.wasm_readers_types.specs.WasmReadersValues.declared.indices.UnpackedIndex.{UnpackedIndex}
use Rattle.wasm_readers_types.specs.WasmReadersValues.declared.indices.UnpackedIndex.TheVariants.{Module, RecGroup, Id}
use Rattle.wasm_readers_types.specs.declared.types.SubType.{SubType}
use Rattle.wasm_readers_types.specs.SeenTypes.{sub_of}
use Rattle.wasm_readers_types.specs.SyntaxEquality.{subs_of-apart}
use Rattle.wasm_validator_type_list.specs.GroupOrder.{IsKnown, IsListable}
use Rattle.wasm_validator_type_list.specs.DefTypes.{listed_ref, listed_sub, listed_group}

each_mapped : {X Y : Type 0} (P : Y → Type 0) (f : X → Y) (xs : List X) → Each (λ x. P (f x)) xs → Each P (map f xs)
each_mapped P f [] h = tt
each_mapped P f (x ∷ xs) h = (h.0, each_mapped P f xs h.1)

-- the reference that a use in a group of a list came from
abbrev unlisted_ref : ListedUse → UnpackedIndex
unlisted_ref (by_id k) = Id (record { index = k })
unlisted_ref (by_position i) = RecGroup i

ref-undone : (n m : ℕ) (r : UnpackedIndex) → IsKnown n m r → unlisted_ref (listed_ref r) ≡ r
ref-undone n m (Module i) h = absurd h
ref-undone n m (RecGroup i) h = refl
ref-undone n m (Id id) h = refl

known_use : (ts : List DefType) (n m : ℕ) → n ≤ length ts → (r : UnpackedIndex) → IsKnown n m r → IsKnownUse ts (listed_ref r)
known_use ts n m e (Module i) h = absurd h
known_use ts n m e (RecGroup i) h = tt
known_use ts n m e (Id id) h = omega (arith, h, e)

module _ {A : Type 0} (n m : ℕ) where
  abbrev IsKnownSub : SubType A → Type 0
  IsKnownSub s = All (IsKnown n m) (refs_sub (sub_of s))

  sub-undone : (s : SubType A) → IsKnownSub s → map_sub unlisted_ref (listed_sub s) ≡ sub_of s
  sub-undone s h = map_sub-undone listed_ref unlisted_ref (sub_of s) (each_map (IsKnown n m) (λ r. unlisted_ref (listed_ref r) ≡ r) (ref-undone n m) (refs_sub (sub_of s)) (recursion_from_All (IsKnown n m) (refs_sub (sub_of s)) h))

  group-undone : (g : List (SubType A)) → Each IsKnownSub g → map (map_sub unlisted_ref) (listed_group g) ≡ map sub_of g
  group-undone [] h = refl
  group-undone (s ∷ ss) h = λ i. sub-undone s h.0 i ∷ group-undone ss h.1 i

  mentions_each : (ts : List DefType) → n ≤ length ts → (g : List (SubType A)) → Each IsKnownSub g → Each (λ s. All (IsKnownUse ts) (refs_sub s)) (listed_group g)
  mentions_each ts e [] h = tt
  mentions_each ts e (s ∷ ss) h =
      let rs = refs_sub (sub_of s) in
      let each : Each (IsKnownUse ts) (map listed_ref rs) = each_mapped (IsKnownUse ts) listed_ref rs (each_map (IsKnown n m) (λ r. IsKnownUse ts (listed_ref r)) (known_use ts n m e) rs (recursion_from_All (IsKnown n m) rs h.0)) in
      (All-from_recursion (IsKnownUse ts) (refs_sub (listed_sub s)) (subst (Each (IsKnownUse ts)) (sym (refs_sub-map listed_ref (sub_of s))) each), mentions_each ts e ss h.1)

-- a group that may stand behind no more types than ts has mentions only those
pub mentions_known : {A : Type 0} (ts : List DefType) (n : ℕ) (g : List (SubType A)) → n ≤ length ts → IsListable n g → MentionsKnown ts (listed_group g)
mentions_known ts n g e h = record { known = All-from_recursion (λ s. All (IsKnownUse ts) (refs_sub s)) (listed_group g) (mentions_each n (length g) ts e g (recursion_from_All (IsKnownSub n (length g)) g h.known)) }

-- groups that are written the same are the same
pub listed_apart : {A : Type 0} (n m : ℕ) (g h : List (SubType A)) → IsListable n g → IsListable m h → listed_group g ≡ listed_group h → g ≡ h
listed_apart n m g h u v e =
    subs_of-apart g h
    (sym (group-undone n (length g) g (recursion_from_All (IsKnownSub n (length g)) g u.known))
    ∙ ap (map (map_sub unlisted_ref)) e
    ∙ group-undone m (length h) h (recursion_from_All (IsKnownSub m (length h)) h v.known))
