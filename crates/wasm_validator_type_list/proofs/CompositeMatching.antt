-- Matching of composite types and of sub types as they stand in the groups of a list.
use Rattle.std.proofs.Common.{◌≡◌, sym, ap, subst, ◌∙◌, ℕ, ◌+◌, ◌-◌, ◌<◌, Bool, true, false, true≢false, List, ◌++◌, map, length, slice_get, Some, All, arith}
use Rattle.std.specs.Bool.{Decides}
use Rattle.std.specs.List.{AllZip, slice_index_or}
use Rattle.std.proofs.lemmas.Simd.{map-map}
use Rattle.std.proofs.lemmas.Option.{same_Some, slice_get_within, slice_get-get_or, get_or_from_slice_get}
use Rattle.wasm_readers_errors.specs.WasmSpec.Syntax.{map_val, map_field, map_comp, map_sub}
use Rattle.wasm_readers_errors.specs.WasmSpec.References.{refs_option, refs_comp, refs_sub}
use Rattle.wasm_readers_errors.specs.WasmSpec.Matching.{MatchesVal, MatchesFields, MatchesComp, MatchesSub}
use Rattle.wasm_readers_types.specs.WasmReadersValues.SeenValues.{val_of, field_of}
use Rattle.wasm_readers_types.specs.SeenTypes.{comp_of, sub_of}
use Rattle.wasm_readers_types.specs.WasmReadersValues.declared.values.ValType.{ValType}
use Rattle.wasm_readers_types.specs.WasmReadersValues.declared.values.FieldType.{FieldType}
use Rattle.wasm_readers_types.specs.declared.types.FuncType.{FuncType}
use Rattle.wasm_readers_types.specs.declared.types.StructType.{StructType}
use Rattle.wasm_readers_types.specs.declared.types.CompositeInnerType.{CompositeInnerType}
use Rattle.wasm_readers_types.specs.declared.types.CompositeInnerType.TheVariants.{Func, Struct}
use Rattle.wasm_readers_types.specs.declared.types.SubType.{SubType}
use Rattle.wasm_validator_type_ancestors.specs.WasmValidatorTypeGroups.Groups.{all_in, first_of, IsInGroup}
use Rattle.wasm_validator_type_list.specs.ListViews.{Listing, types_in}
use Rattle.wasm_validator_type_list.specs.GroupOrder.{IsKnown, AreListable}
use Rattle.wasm_validator_type_list.specs.DeclarationsById.{declares}
use Rattle.wasm_validator_type_list.specs.GroupTypes.{leads_in, AreIn, ValsMatch, MatchesDeclared}
use Rattle.wasm_validator_type_list.proofs.Lookups.{member_at, first_of-next}
use Rattle.wasm_validator_type_list.proofs.IdDeclarations.{declares-at}
use Rattle.wasm_validator_type_list.proofs.GroupMatching.{all-right, zip-seen, zip-unseen}

module _ {A : Type 0} (gs : List (List (SubType A))) (j k : ℕ) (c d : CompositeInnerType A) where
  abbrev CompsMatch : Type 0
  CompsMatch = MatchesComp (declares gs) (map_comp (leads_in gs j) (comp_of c)) (map_comp (leads_in gs k) (comp_of d))

  -- functions of which the parameters match backwards
  pub funcs_match :
      (f h : FuncType A) (ps qs rs ss : List ValType) (p r : Bool) → c ≡ Func f → d ≡ Func h → ps ≡ h.params → qs ≡ f.params → rs ≡ f.results → ss ≡ h.results
      → Decides p (AllZip (ValsMatch gs k j) ps qs) → p ≡ true → Decides r (AllZip (ValsMatch gs j k) rs ss) → Decides r CompsMatch
  funcs_match f h ps qs rs ss p r e g u v w x dp t dr =
      let params = rw (u, v) at dp in
      let results = rw (w, x) at dr in
      rw (e, g) (
        (λ s. (
          zip-seen (MatchesVal (declares gs)) val_of (map_val (leads_in gs k)) (map_val (leads_in gs j)) h.params f.params (params.0 t),
          zip-seen (MatchesVal (declares gs)) val_of (map_val (leads_in gs j)) (map_val (leads_in gs k)) f.results h.results (results.0 s),
        )),
        (λ m. results.1 (zip-unseen (MatchesVal (declares gs)) val_of (map_val (leads_in gs j)) (map_val (leads_in gs k)) f.results h.results m.1)),
      )

  -- and of which they do not
  pub funcs_differ :
      (f h : FuncType A) (ps qs : List ValType) (p : Bool) → c ≡ Func f → d ≡ Func h → ps ≡ h.params → qs ≡ f.params
      → Decides p (AllZip (ValsMatch gs k j) ps qs) → p ≡ false → Decides p CompsMatch
  funcs_differ f h ps qs p e g u v dp t =
      let params = rw (u, v) at dp in
      rw (e, g) (
        (λ s. absurd (true≢false (sym s ∙ t))),
        (λ m. params.1 (zip-unseen (MatchesVal (declares gs)) val_of (map_val (leads_in gs k)) (map_val (leads_in gs j)) h.params f.params m.0)),
      )

  pub structs_match :
      (s t : StructType A) (fs es : List FieldType) (r : Bool) → c ≡ Struct s → d ≡ Struct t → fs ≡ s.fields → es ≡ t.fields
      → Decides r (MatchesFields (declares gs) (map (λ f. map_field (leads_in gs j) (field_of f)) fs) (map (λ f. map_field (leads_in gs k) (field_of f)) es)) → Decides r CompsMatch
  structs_match s t fs es r e g u v dr =
      let fields = rw (u, v) at dr in
      rw (e, g) (subst (λ xs. Decides r (MatchesFields (declares gs) xs (map (map_field (leads_in gs k)) (map field_of t.fields)))) (sym (map-map (map_field (leads_in gs j)) field_of s.fields))
      (subst (λ ys. Decides r (MatchesFields (declares gs) (map (λ f. map_field (leads_in gs j) (field_of f)) s.fields) ys)) (sym (map-map (map_field (leads_in gs k)) field_of t.fields)) fields))

module _ {A : Type 0} where
  there : (l : Listing A) (id : ℕ) (ty : SubType A) → id < length (types_in l) → ty ≡ slice_index_or (types_in l) id ty → slice_get (all_in l.groups) id ≡ Some ty
  there l id ty h e = slice_get-get_or (types_in l) id ty h ∙ ap Some (sym e)

  -- what the composite type of a type in the list mentions
  pub comp_in : (l : Listing A) (k id : ℕ) (ty : SubType A) → AreListable l.groups → IsInGroup l.groups k id → id < length (types_in l) → ty ≡ slice_index_or (types_in l) id ty → AreIn l.groups k (refs_comp (comp_of ty.composite_type.inner))
  comp_in l k id ty h in_group lt e =
      let gs = l.groups in
      let m = member_at gs k id ty in_group (there l id ty lt e) in
      let i = id - first_of gs k in
      let n : length m.members ≡ first_of gs (k + 1) - first_of gs k = omega (arith, first_of-next gs k m.members m.group) in
      let s = sub_of ty in
      let P = IsKnown (first_of gs k) (length m.members) in
      let at : All P (refs_sub (sub_of (slice_index_or m.members i ty))) = (h k m.members m.group).known i ty (slice_get_within m.members i ty m.position) in
      let all : All P (refs_sub s) = subst (λ (t : SubType A). All P (refs_sub (sub_of t))) (get_or_from_slice_get m.members i ty ty m.position) at in
      let comp : All P (refs_comp s.comp) = all-right P (refs_option s.descriptor) (refs_comp s.comp) (all-right P (refs_option s.describes) (refs_option s.descriptor ++ refs_comp s.comp) (all-right P s.supers (refs_option s.describes ++ (refs_option s.descriptor ++ refs_comp s.comp)) all)) in
      record { there = in_group.there; known = subst (λ x. All (IsKnown (first_of gs k) x) (refs_comp s.comp)) n comp }

  -- the answer about what is declared
  pub declared_match :
      (l : Listing A) (a b j k : ℕ) (s t : SubType A) (r : Bool) → IsInGroup l.groups j a → IsInGroup l.groups k b → a < length (types_in l) → b < length (types_in l)
      → s ≡ slice_index_or (types_in l) a s → t ≡ slice_index_or (types_in l) b t
      → Decides r (MatchesSub (declares l.groups) (map_sub (leads_in l.groups j) (sub_of s)) (map_sub (leads_in l.groups k) (sub_of t))) → Decides r (MatchesDeclared (declares l.groups) a b)
  declared_match l a b j k s t r u v lt mt e f d =
      let D = declares l.groups in
      let sub = map_sub (leads_in l.groups j) (sub_of s) in
      let sup = map_sub (leads_in l.groups k) (sub_of t) in
      let da : D a ≡ Some sub = declares-at l.groups j a s u (there l a s lt e) in
      let db : D b ≡ Some sup = declares-at l.groups k b t v (there l b t mt f) in (
        (λ x. record { sub = sub; sup = sup; declares_sub = da; declares_sup = db; matches = d.0 x }),
        (λ m. d.1 (subst (λ y. MatchesSub D sub y) (same_Some m.sup sup (sym m.declares_sup ∙ db)) (subst (λ x. MatchesSub D x m.sup) (same_Some m.sub sub (sym m.declares_sub ∙ da)) m.matches))),
      )
