-- What may be shared, and what is a function, as the types of a list say it.
use Rattle.std.proofs.Common.{◌≡◌, refl, sym, ap, subst, ◌∙◌, ℕ, zero, suc, ◌+◌, ◌<◌, ◌≤◌, Bool, true, false, not, ◌&&◌, List, [], ◌∷◌, ◌++◌, map, drop, length, Option, IfSome, arith}
use Rattle.std.specs.Bool.{Decides}
use Rattle.std.specs.Cmp.{booleans_Decides}
use Rattle.std.specs.List.{list_all, slice_index_or}
use Rattle.std.proofs.Math.Bool.{beq}
use Rattle.std.proofs.lemmas.List.{at_drop_more}
use Rattle.std.proofs.lemmas.List.Folds.{list_all-map, list_all-append}
use Rattle.std.proofs.lemmas.Option.{same_Some}
use Rattle.wasm_spec.specs.Syntax.{Val, Field, Comp, func, array, struct, cont, unpacked, Sub, map_val, map_storage, map_field, map_comp}
use Rattle.wasm_spec.specs.Matching.{is_shared_val, is_shared_storage}
use Rattle.wasm_spec.specs.GroupRules.{storages, field_storage, is_func, IsFunction}
use Rattle.wasm_readers_types.specs.WasmReadersValues.SeenValues.{val_of, storage_of, field_of}
use Rattle.wasm_readers_types.specs.SeenTypes.{comp_of}
use Rattle.wasm_readers_types.specs.WasmReadersValues.declared.values.ValType.{ValType}
use Rattle.wasm_readers_types.specs.WasmReadersValues.declared.values.FieldType.{FieldType}
use Rattle.wasm_readers_types.specs.WasmReadersValues.declared.indices.UnpackedIndex.{UnpackedIndex}
use Rattle.wasm_readers_types.specs.declared.types.FuncType.{FuncType}
use Rattle.wasm_readers_types.specs.declared.types.StructType.{StructType}
use Rattle.wasm_readers_types.specs.declared.types.CompositeInnerType.{CompositeInnerType}
use Rattle.wasm_readers_types.specs.declared.types.CompositeInnerType.TheVariants.{Func, Struct}
use Rattle.wasm_readers_types.specs.declared.types.SubType.{SubType}
use Rattle.wasm_validator_type_list.specs.DeclarationsById.{declares}
use Rattle.wasm_validator_type_list.specs.GroupTypes.{leads_in}
use Rattle.wasm_validator_type_checks.specs.Rules.{IsOpen, HasSameFinality}
use Rattle.wasm_validator_type_checks.specs.TypesById.{IsListed}

-- a test of each item of a list, from a place on
module _ {X : Type 0} (p : X → Bool) (xs : List X) where
  pub tested : (i : ℕ) (x : X) (b : Bool) → i < length xs → x ≡ slice_index_or xs i x → b ≡ p x → list_all p (drop i xs) ≡ (b && list_all p (drop (i + 1) xs))
  tested i x b l e h = at_drop_more (list_all p) xs i x l ∙ ap (λ y. p y && list_all p (drop (i + 1) xs)) (sym e) ∙ ap (λ c. c && list_all p (drop (i + 1) xs)) (sym h)

  nothing_left : (ys : List X) (i : ℕ) → length ys ≤ i → drop i ys ≡ []
  nothing_left [] zero h = refl
  nothing_left [] (suc i) h = refl
  nothing_left (y ∷ ys) zero h = absurd (omega (arith, h))
  nothing_left (y ∷ ys) (suc i) h = nothing_left ys i (omega (arith, h))

  pub all_tested : (i : ℕ) → length xs ≤ i → list_all p (drop i xs) ≡ true
  all_tested i l = ap (list_all p) (nothing_left xs i l)

-- the members of composite types
module _ {R : Type 0} (D : R → Option (Sub R)) (f : UnpackedIndex → R) where
  abbrev IsSharedVal : ValType → Bool
  IsSharedVal v = is_shared_val D (map_val f (val_of v))

  abbrev IsSharedField : FieldType → Bool
  IsSharedField x = is_shared_storage D (map_storage f (storage_of x.element_type))

  shared_vals : (vs : List ValType) → list_all (is_shared_val D) (map (map_val f) (map val_of vs)) ≡ list_all IsSharedVal vs
  shared_vals vs = list_all-map (is_shared_val D) (map_val f) (map val_of vs) ∙ list_all-map (λ v. is_shared_val D (map_val f v)) val_of vs

  shared_fields : (xs : List FieldType) → list_all (is_shared_storage D) (map field_storage (map (map_field f) (map field_of xs))) ≡ list_all IsSharedField xs
  shared_fields xs =
      list_all-map (is_shared_storage D) field_storage (map (map_field f) (map field_of xs))
      ∙ list_all-map (λ (x : Field R). is_shared_storage D (field_storage x)) (map_field f) (map field_of xs)
      ∙ list_all-map (λ (x : Field UnpackedIndex). is_shared_storage D (field_storage (map_field f x))) field_of xs

  shared_func : (vs ws : List (Val R)) → list_all (is_shared_storage D) (map unpacked (vs ++ ws)) ≡ (list_all (is_shared_val D) vs && list_all (is_shared_val D) ws)
  shared_func vs ws = list_all-map (is_shared_storage D) unpacked (vs ++ ws) ∙ list_all-append (is_shared_val D) vs ws

module _ {A R : Type 0} (D : R → Option (Sub R)) (f : UnpackedIndex → R) where
  abbrev AreShared : CompositeInnerType A → Bool
  AreShared c = list_all (is_shared_storage D) (storages (map_comp f (comp_of c)))

  func_is : (s : FuncType A) → AreShared (Func s) ≡ (list_all (IsSharedVal D f) s.params && list_all (IsSharedVal D f) s.results)
  func_is s = shared_func D f (map (map_val f) (map val_of s.params)) (map (map_val f) (map val_of s.results)) ∙ (λ i. shared_vals D f s.params i && shared_vals D f s.results i)

  func_shared : (c : CompositeInnerType A) (s : FuncType A) (ps rs : List ValType) (x y : Bool) → c ≡ Func s → ps ≡ s.params → rs ≡ s.results
      → x ≡ list_all (IsSharedVal D f) ps → y ≡ list_all (IsSharedVal D f) rs → (x && y) ≡ AreShared c
  func_shared c s ps rs x y e g h k l =
      (λ i. (k ∙ ap (list_all (IsSharedVal D f)) g) i && (l ∙ ap (list_all (IsSharedVal D f)) h) i)
      ∙ sym (func_is s) ∙ ap AreShared (sym e)

  -- where the parameters may be shared, and where one may not
  pub func_shared_then : (c : CompositeInnerType A) (s : FuncType A) (ps rs : List ValType) (x y : Bool) → c ≡ Func s → ps ≡ s.params → rs ≡ s.results
      → x ≡ list_all (IsSharedVal D f) ps → x ≡ true → y ≡ list_all (IsSharedVal D f) rs → y ≡ AreShared c
  func_shared_then c s ps rs x y e g h k t l = sym (ap (λ b. b && y) t) ∙ func_shared c s ps rs x y e g h k l

  pub func_shared_else : (c : CompositeInnerType A) (s : FuncType A) (ps : List ValType) (x : Bool) → c ≡ Func s → ps ≡ s.params → x ≡ list_all (IsSharedVal D f) ps → x ≡ false → x ≡ AreShared c
  func_shared_else c s ps x e g k t =
      let y = list_all (IsSharedVal D f) s.results in
      t ∙ sym (ap (λ b. b && y) t) ∙ func_shared c s ps s.results x y e g refl k refl

  pub struct_shared : (c : CompositeInnerType A) (s : StructType A) (xs : List FieldType) (r : Bool) → c ≡ Struct s → xs ≡ s.fields → r ≡ list_all (IsSharedField D f) xs → r ≡ AreShared c
  struct_shared c s xs r e g h = h ∙ ap (list_all (IsSharedField D f)) g ∙ sym (shared_fields D f s.fields) ∙ ap AreShared (sym e)

-- functions
func_kept : {R S : Type 0} (f : R → S) (c : Comp R) → is_func (map_comp f c) ≡ is_func c
func_kept f (func ps rs) = refl
func_kept f (array x) = refl
func_kept f (struct xs) = refl
func_kept f (cont r) = refl

module _ {A : Type 0} (gs : List (List (SubType A))) (id k : ℕ) (ty : SubType A) (h : IsListed gs id k ty) where
  pub function_seen : (r : Bool) → r ≡ is_func (comp_of ty.composite_type.inner) → Decides r (IsFunction (declares gs) id)
  function_seen r e =
      let here : is_func (map_comp (leads_in gs k) (comp_of ty.composite_type.inner)) ≡ r = func_kept (leads_in gs k) (comp_of ty.composite_type.inner) ∙ sym e in (
        (λ t. record { sub = _; declares = h.declared; function = here ∙ t }),
        (λ m. sym here ∙ ap (λ (s : Sub ℕ). is_func s.comp) (same_Some _ m.sub (sym h.declared ∙ m.declares)) ∙ m.function),
      )

  not_decides : (b : Bool) → Decides (not b) (b ≡ false)
  not_decides true = ((λ t. sym t), (λ t. sym t))
  not_decides false = ((λ _. refl), (λ _. refl))

  pub open_seen : Decides (not ty.is_final) (IsOpen (declares gs) id)
  open_seen = subst (λ (o : Option (Sub ℕ)). Decides (not ty.is_final) (IfSome o (λ t. t.is_final ≡ false))) (sym h.declared) (not_decides ty.is_final)

  pub finality_seen : (b j : ℕ) (other : SubType A) → IsListed gs b j other → Decides (beq other.is_final ty.is_final) (HasSameFinality (declares gs) id b)
  finality_seen b j other m =
      subst (λ (o : Option (Sub ℕ)). Decides (beq other.is_final ty.is_final) (IfSome o (λ t. IfSome (declares gs id) (λ s. t.is_final ≡ s.is_final)))) (sym m.declared)
      (subst (λ (o : Option (Sub ℕ)). Decides (beq other.is_final ty.is_final) (IfSome o (λ s. other.is_final ≡ s.is_final))) (sym h.declared) (booleans_Decides other.is_final ty.is_final))
