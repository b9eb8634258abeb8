-- Reading with a renamed index map gives what reading gives, renamed. Lemmas over the combinators first, then one for each reader.
use Rattle.std.proofs.Common.{◌≡◌, refl, ap, ◌∙◌, ℕ, zero, suc, Bool, true, false, if◌then◌else◌, ◌==◌, List, [], ◌&&◌, map, length, Option, Some, None, option_map}
use Rattle.std.specs.Option.{option_and_then}
use Rattle.wasm_spec.specs.Syntax.{Extern, map_heap, map_ref, map_val, map_storage, map_field, map_comp, map_sub, map_rec, map_table, map_global, map_extern}
use Rattle.wasm_spec.specs.Values.{byte_at, u32_at, s33_index_at, many_at, list_at, name_at}
use Rattle.wasm_spec.specs.BinaryTypes.{flag_at, flags_at, limits_at, memory_at, tag_at, index_at, plain_heap_from, abstract_heap_from, abstract_heap_at, heap_at, ref_at, val_at, storage_at, field_at, func_at, comp_at, index_behind, marked_index_at, marked_at, final_or_not, sub_at, rec_at, table_at, global_at}
use Rattle.wasm_spec.specs.BinaryModules.{extern_at, import_at, item_at, named_at, items_from, entry_at, map_import, map_entry}

-- the second result is the first with its value renamed, and leaves the same bytes
pub record Renames {V W : Type 0} (u : V → W) (o : Option (V × List ℕ)) (p : Option (W × List ℕ)) : Type 0 where
  pub is : p ≡ option_map (λ x. (u x.0, x.1)) o

-- nothing, and a value
pub renames_none : {V W : Type 0} {u : V → W} → Renames u None None
renames_none = record { is = refl }

pub renames_some : {V W : Type 0} {u : V → W} {v : V} {rest : List ℕ} → Renames u (Some (v, rest)) (Some (u v, rest))
renames_some = record { is = refl }

-- the combinators
pub renames_if : {V W : Type 0} {u : V → W} (c : Bool) {a b : Option (V × List ℕ)} {k l : Option (W × List ℕ)} → Renames u a k → Renames u b l → Renames u (if c then a else b) (if c then k else l)
renames_if true h i = h
renames_if false h i = i

pub renames_then : {V W X Y : Type 0} {u : V → W} {t : X → Y} {o : Option (V × List ℕ)} {p : Option (W × List ℕ)} (f : V × List ℕ → Option (X × List ℕ)) (g : W × List ℕ → Option (Y × List ℕ)) → Renames u o p → ((x : V × List ℕ) → Renames t (f x) (g (u x.0, x.1))) → Renames t (option_and_then f o) (option_and_then g p)
renames_then {o = None} f g h k = record { is = ap (option_and_then g) h.is }
renames_then {o = Some x} f g h k = record { is = ap (option_and_then g) h.is ∙ (k x).is }

pub renames_map : {V W X Y : Type 0} {u : V → W} {t : X → Y} {o : Option (V × List ℕ)} {p : Option (W × List ℕ)} (f : V × List ℕ → X × List ℕ) (g : W × List ℕ → Y × List ℕ) → Renames u o p → ((x : V × List ℕ) → g (u x.0, x.1) ≡ (t (f x).0, (f x).1)) → Renames t (option_map f o) (option_map g p)
renames_map {o = None} f g h k = record { is = ap (option_map g) h.is }
renames_map {o = Some x} f g h k = record { is = ap (option_map g) h.is ∙ ap Some (k x) }

-- the combinators where what is read first has no references
pub renames_same_then : {V X Y : Type 0} {t : X → Y} (o : Option V) (f : V → Option (X × List ℕ)) (g : V → Option (Y × List ℕ)) → ((x : V) → Renames t (f x) (g x)) → Renames t (option_and_then f o) (option_and_then g o)
renames_same_then None f g k = renames_none
renames_same_then (Some x) f g k = k x

pub renames_same_map : {V X Y : Type 0} {t : X → Y} (o : Option V) (f : V → X × List ℕ) (g : V → Y × List ℕ) → ((x : V) → g x ≡ (t (f x).0, (f x).1)) → Renames t (option_map f o) (option_map g o)
renames_same_map None f g k = renames_none
renames_same_map (Some x) f g k = record { is = ap Some (k x) }

-- items one after another
pub renames_many : {V W : Type 0} (u : V → W) (reads : List ℕ → Option (V × List ℕ)) (renamed : List ℕ → Option (W × List ℕ)) → ((bytes : List ℕ) → Renames u (reads bytes) (renamed bytes)) → (n : ℕ) (bytes : List ℕ) → Renames (map u) (many_at reads n bytes) (many_at renamed n bytes)
renames_many u reads renamed h zero bytes = renames_some
renames_many u reads renamed h (suc n) bytes = renames_then _ _ (h bytes) (λ x. renames_map _ _ (renames_many u reads renamed h n x.1) (λ xs. refl))

pub renames_list : {V W : Type 0} (u : V → W) (reads : List ℕ → Option (V × List ℕ)) (renamed : List ℕ → Option (W × List ℕ)) → ((bytes : List ℕ) → Renames u (reads bytes) (renamed bytes)) → (bytes : List ℕ) → Renames (map u) (list_at reads bytes) (list_at renamed bytes)
renames_list u reads renamed h bytes = renames_same_then (u32_at bytes) _ _ (λ n. renames_many u reads renamed h n.0 n.1)

-- each reader
module _ {R S : Type 0} (f : R → S) (to : ℕ → R) where
  abbrev then_renamed : ℕ → S
  then_renamed n = f (to n)

  index-renames : (bytes : List ℕ) → Renames f (index_at to bytes) (index_at then_renamed bytes)
  index-renames bytes = renames_same_map (u32_at bytes) _ _ (λ x. refl)

  plain_heap-renames : (a : _) (more bytes : List ℕ) → Renames (map_heap f) (plain_heap_from to a more bytes) (plain_heap_from then_renamed a more bytes)
  plain_heap-renames None more bytes = renames_same_map (s33_index_at bytes) _ _ (λ x. refl)
  plain_heap-renames (Some a) more bytes = renames_some

  pub heap-renames : (bytes : List ℕ) → Renames (map_heap f) (heap_at to bytes) (heap_at then_renamed bytes)
  unfolding heap_at
  heap-renames bytes =
      renames_same_then (byte_at bytes) _ _ (λ b.
      renames_if (b.0 == 0x62) (renames_map _ _ (index-renames b.1) (λ x. refl))
      (renames_if (b.0 == 0x65) (renames_same_map (abstract_heap_at b.1) _ _ (λ a. refl))
      (plain_heap-renames (abstract_heap_from b.0) b.1 bytes)))

  ref-renames : (bytes : List ℕ) → Renames (map_ref f) (ref_at to bytes) (ref_at then_renamed bytes)
  unfolding ref_at
  ref-renames bytes =
      renames_same_then (byte_at bytes) _ _ (λ b.
      renames_if (b.0 == 0x63) (renames_map _ _ (heap-renames b.1) (λ h. refl))
      (renames_if (b.0 == 0x64) (renames_map _ _ (heap-renames b.1) (λ h. refl))
      (renames_if (b.0 == 0x65) (renames_same_map (abstract_heap_at b.1) _ _ (λ a. refl))
      (renames_same_map (abstract_heap_from b.0) _ _ (λ a. refl)))))

  pub val-renames : (bytes : List ℕ) → Renames (map_val f) (val_at to bytes) (val_at then_renamed bytes)
  unfolding val_at
  val-renames bytes =
      renames_same_then (byte_at bytes) _ _ (λ b.
      renames_if (b.0 == 0x7f) renames_some
      (renames_if (b.0 == 0x7e) renames_some
      (renames_if (b.0 == 0x7d) renames_some
      (renames_if (b.0 == 0x7c) renames_some
      (renames_if (b.0 == 0x7b) renames_some
      (renames_map _ _ (ref-renames bytes) (λ r. refl)))))))

  storage-renames : (bytes : List ℕ) → Renames (map_storage f) (storage_at to bytes) (storage_at then_renamed bytes)
  unfolding storage_at
  storage-renames bytes =
      renames_same_then (byte_at bytes) _ _ (λ b.
      renames_if (b.0 == 0x78) renames_some
      (renames_if (b.0 == 0x77) renames_some
      (renames_map _ _ (val-renames bytes) (λ v. refl))))

  field-renames : (bytes : List ℕ) → Renames (map_field f) (field_at to bytes) (field_at then_renamed bytes)
  unfolding field_at
  field-renames bytes = renames_then _ _ (storage-renames bytes) (λ s. renames_same_map (flag_at s.1) _ _ (λ m. refl))

  func-renames : (bytes : List ℕ) → Renames (map_comp f) (func_at to bytes) (func_at then_renamed bytes)
  unfolding func_at
  func-renames bytes = renames_then _ _ (renames_list _ _ _ val-renames bytes) (λ ps. renames_map _ _ (renames_list _ _ _ val-renames ps.1) (λ rs. refl))

  comp-renames : (bytes : List ℕ) → Renames (map_comp f) (comp_at to bytes) (comp_at then_renamed bytes)
  unfolding comp_at
  comp-renames bytes =
      renames_same_then (byte_at bytes) _ _ (λ b.
      renames_if (b.0 == 0x60) (func-renames b.1)
      (renames_if (b.0 == 0x5f) (renames_map _ _ (renames_list _ _ _ field-renames b.1) (λ fs. refl))
      (renames_if (b.0 == 0x5e) (renames_map _ _ (field-renames b.1) (λ x. refl))
      (renames_if (b.0 == 0x5d) (renames_map _ _ (index-renames b.1) (λ x. refl)) renames_none))))

  index_behind-renames : (b : Bool) (bytes : List ℕ) → Renames (option_map f) (index_behind to b bytes) (index_behind then_renamed b bytes)
  index_behind-renames true bytes = renames_map _ _ (index-renames bytes) (λ x. refl)
  index_behind-renames false bytes = renames_some

  marked_index-renames : (mark : ℕ) (bytes : List ℕ) → Renames (option_map f) (marked_index_at to mark bytes) (marked_index_at then_renamed mark bytes)
  unfolding marked_index_at
  marked_index-renames mark bytes = index_behind-renames (marked_at mark bytes).0 (marked_at mark bytes).1

  final_or_not-renames : (is_final : Bool) (supers : List R) (bytes : List ℕ) → Renames (map_sub f) (final_or_not to is_final supers bytes) (final_or_not then_renamed is_final (map f supers) bytes)
  unfolding final_or_not
  final_or_not-renames is_final supers bytes =
      renames_then _ _ (marked_index-renames 0x4c (marked_at 0x65 bytes).1)
      (λ v. renames_then _ _ (marked_index-renames 0x4d v.1) (λ d. renames_map _ _ (comp-renames d.1) (λ c. refl)))

  sub-renames : (bytes : List ℕ) → Renames (map_sub f) (sub_at to bytes) (sub_at then_renamed bytes)
  unfolding sub_at
  sub-renames bytes =
      renames_same_then (byte_at bytes) _ _ (λ b.
      renames_if (b.0 == 0x50) (renames_then _ _ (renames_list _ _ _ index-renames b.1) (λ xs. final_or_not-renames false xs.0 xs.1))
      (renames_if (b.0 == 0x4f) (renames_then _ _ (renames_list _ _ _ index-renames b.1) (λ xs. final_or_not-renames true xs.0 xs.1))
      (final_or_not-renames true [] bytes)))

  pub rec-renames : (bytes : List ℕ) → Renames (map_rec f) (rec_at to bytes) (rec_at then_renamed bytes)
  unfolding rec_at
  rec-renames bytes =
      renames_same_then (byte_at bytes) _ _ (λ b.
      renames_if (b.0 == 0x4e) (renames_map _ _ (renames_list _ _ _ sub-renames b.1) (λ ts. refl))
      (renames_map _ _ (sub-renames bytes) (λ t. refl)))

  pub table-renames : (bytes : List ℕ) → Renames (map_table f) (table_at to bytes) (table_at then_renamed bytes)
  unfolding table_at
  table-renames bytes = renames_then _ _ (ref-renames bytes) (λ e. renames_same_map (limits_at 7 e.1) _ _ (λ l. refl))

  pub global-renames : (bytes : List ℕ) → Renames (map_global f) (global_at to bytes) (global_at then_renamed bytes)
  unfolding global_at
  global-renames bytes = renames_then _ _ (val-renames bytes) (λ v. renames_same_map (flags_at 3 v.1) _ _ (λ b. refl))

  extern-renames : (bytes : List ℕ) → Renames (map_extern f) (extern_at to bytes) (extern_at then_renamed bytes)
  unfolding extern_at
  extern-renames bytes =
      renames_same_then (byte_at bytes) _ _ (λ b.
      renames_if (b.0 == 0) (renames_same_map (u32_at b.1) _ _ (λ x. refl))
      (renames_if (b.0 == 1) (renames_map _ _ (table-renames b.1) (λ t. refl))
      (renames_if (b.0 == 2) (renames_same_map (memory_at b.1) _ _ (λ m. refl))
      (renames_if (b.0 == 3) (renames_map _ _ (global-renames b.1) (λ g. refl))
      (renames_if (b.0 == 4) (renames_same_map (tag_at b.1) _ _ (λ x. refl))
      (renames_if (b.0 == 0x20) (renames_same_map (u32_at b.1) _ _ (λ x. refl)) renames_none))))))

  pub import-renames : (bytes : List ℕ) → Renames (map_import f) (import_at to bytes) (import_at then_renamed bytes)
  unfolding import_at
  import-renames bytes =
      renames_same_then (name_at bytes) _ _ (λ m. renames_same_then (name_at m.1) _ _ (λ n. renames_map _ _ (extern-renames n.1) (λ t. refl)))

  item-renames : (m bytes : List ℕ) → Renames (map_import f) (item_at to m bytes) (item_at then_renamed m bytes)
  item-renames m bytes = renames_same_then (name_at bytes) _ _ (λ n. renames_map _ _ (extern-renames n.1) (λ t. refl))

  named-renames : (m : List ℕ) (ty : Extern R) (bytes : List ℕ) → Renames (map_import f) (named_at m ty bytes) (named_at m (map_extern f ty) bytes)
  named-renames m ty bytes = renames_same_map (name_at bytes) _ _ (λ n. refl)

  items_from-renames : (m bytes name : List ℕ) (b : ℕ) (more : List ℕ) → Renames (map_entry f) (items_from to m bytes name b more) (items_from then_renamed m bytes name b more)
  items_from-renames m bytes name b more =
      renames_if (length name == 0 && b == 0x7F) (renames_list (map_import f) _ _ (item-renames m) more)
      (renames_if (length name == 0 && b == 0x7E)
      (renames_then _ _ (extern-renames more) (λ t. renames_list (map_import f) _ _ (named-renames m t.0) t.1))
      (renames_map _ _ (item-renames m bytes) (λ i. refl)))

  pub entry-renames : (bytes : List ℕ) → Renames (map_entry f) (entry_at to bytes) (entry_at then_renamed bytes)
  unfolding entry_at
  entry-renames bytes =
      renames_same_then (name_at bytes) _ _ (λ m. renames_same_then (name_at m.1) _ _ (λ n. renames_same_then (byte_at n.1) _ _ (λ b. items_from-renames m.0 m.1 n.0 b.0 b.1)))
