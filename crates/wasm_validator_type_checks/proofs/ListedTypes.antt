-- Types of a list by their ids, and where their references lead.
use Rattle.std.proofs.Common.{◌≡◌, refl, sym, ap, subst, ◌∙◌, ℕ, ◌+◌, ◌-◌, ◌<◌, List, [], ◌++◌, length, slice_get, Option, Some, None, All, IfSome, arith}
use Rattle.std.specs.List.{slice_index_or}
use Rattle.std.specs.Option.{option_map}
use Rattle.std.proofs.lemmas.Option.{slice_get_within, slice_get-get_or, get_or_from_slice_get}
use Rattle.std.proofs.lemmas.List.Elements.{All-head}
use Rattle.wasm_spec.specs.Syntax.{Sub}
use Rattle.wasm_spec.specs.References.{refs_option, refs_comp, refs_sub}
use Rattle.wasm_spec.specs.SupertypeOrder.{supertype_of}
use Rattle.wasm_readers_types.specs.SeenTypes.{sub_of, comp_of}
use Rattle.wasm_readers_types.specs.WasmReadersValues.SeenValues.{index_of}
use Rattle.wasm_readers_types.specs.WasmReadersValues.declared.indices.CoreTypeId.{CoreTypeId}
use Rattle.wasm_readers_types.specs.WasmReadersValues.declared.indices.PackedIndex.{PackedIndex}
use Rattle.wasm_readers_types.specs.WasmReadersValues.declared.indices.UnpackedIndex.{UnpackedIndex}
use Rattle.wasm_readers_types.specs.WasmReadersValues.declared.indices.UnpackedIndex.TheVariants.{Module, RecGroup, Id}
use Rattle.wasm_readers_types.specs.declared.types.SubType.{SubType}
use Rattle.wasm_validator_type_list.specs.WasmValidatorTypeGroups.Groups.{all_in, first_of, IsInGroup}
use Rattle.wasm_validator_type_list.specs.ListViews.{Listing, types_in}
use Rattle.wasm_validator_type_list.specs.GroupOrder.{IsKnown, AreListable}
use Rattle.wasm_validator_type_list.specs.Lookups.{IsSupertypeAt}
use Rattle.wasm_validator_type_list.specs.DeclarationsById.{sub_by_ids, declares}
use Rattle.wasm_validator_type_list.specs.GroupTypes.{leads_in, IsKnownIn, AreIn}
use Rattle.wasm_validator_type_list.proofs.Lookups.{group_found, member_at, first_of-next}
use Rattle.wasm_validator_type_list.proofs.IdDeclarations.{declares-at, supertype_read, descends}
use Rattle.wasm_validator_type_list.proofs.GroupMatching.{all-left, all-right}
use Rattle.wasm_validator_type_list.proofs.DefTypes.{first_of-within}
use Rattle.wasm_validator_type_list.proofs.TypeMatches.{at_place}
use Rattle.wasm_validator_type_checks.proofs.Rules.{SupertypeDeclares}
use Rattle.wasm_validator_type_checks.specs.TypesById.{numbered, IsIn, IsListed}

-- optional references
known_option : (P : UnpackedIndex → Type 0) (o : Option PackedIndex) → All P (refs_option (option_map index_of o)) → IfSome o (λ p. P (index_of p))
known_option P None h = tt
known_option P (Some p) h = All-head P (index_of p) [] h

-- the numbers that a type's clauses lead to
led : (f : UnpackedIndex → ℕ) (o : Option PackedIndex) → option_map (λ (p : PackedIndex). f (index_of p)) o ≡ option_map f (option_map index_of o)
led f None = refl
led f (Some p) = refl

-- where known references lead
module _ {A : Type 0} where
  pub known_there : (gs : List (List (SubType A))) (k : ℕ) (r : UnpackedIndex) → IsKnownIn gs k r → leads_in gs k r < length (all_in gs)
  known_there gs k (Module i) h = absurd h
  known_there gs k (RecGroup i) h = omega (arith, h, first_of-within gs (k + 1))
  known_there gs k (Id id) h = omega (arith, h, first_of-within gs k)

  -- a type of the list, in its group
  pub is_listed : (l : Listing A) (id k : ℕ) (ty : SubType A) → AreListable l.groups → IsInGroup l.groups k id → id < length (types_in l) → ty ≡ slice_index_or (types_in l) id ty → IsListed l.groups id k ty
  is_listed l id k ty h in_group lt e =
      let gs = l.groups in
      let there : slice_get (all_in gs) id ≡ Some ty = slice_get-get_or (types_in l) id ty lt ∙ ap Some (sym e) in
      let m = member_at gs k id ty in_group there in
      let i = id - first_of gs k in
      let n : length m.members ≡ first_of gs (k + 1) - first_of gs k = omega (arith, first_of-next gs k m.members m.group) in
      let P = IsKnown (first_of gs k) (length m.members) in
      let at : All P (refs_sub (sub_of (slice_index_or m.members i ty))) = (h k m.members m.group).known i ty (slice_get_within m.members i ty m.position) in
      let all : All P (refs_sub (sub_of ty)) = subst (λ (t : SubType A). All P (refs_sub (sub_of t))) (get_or_from_slice_get m.members i ty ty m.position) at in
      record { there = in_group.there; declared = declares-at gs k id ty in_group there; known = subst (λ x. All (IsKnown (first_of gs k) x) (refs_sub (sub_of ty))) n all }

  -- what its parts mention
  pub listed_comp : (gs : List (List (SubType A))) (id k : ℕ) (ty : SubType A) → IsListed gs id k ty → AreIn gs k (refs_comp (comp_of ty.composite_type.inner))
  listed_comp gs id k ty h =
      let s = sub_of ty in
      let P = IsKnownIn gs k in
      record { there = h.there; known = all-right P (refs_option s.descriptor) (refs_comp s.comp) (all-right P (refs_option s.describes) (refs_option s.descriptor ++ refs_comp s.comp) (all-right P s.supers (refs_option s.describes ++ (refs_option s.descriptor ++ refs_comp s.comp)) h.known)) }

  pub listed_descriptor : (gs : List (List (SubType A))) (id k : ℕ) (ty : SubType A) → IsListed gs id k ty → IfSome ty.composite_type.descriptor_idx (λ p. IsKnownIn gs k (index_of p))
  listed_descriptor gs id k ty h =
      let s = sub_of ty in
      let P = IsKnownIn gs k in
      known_option P ty.composite_type.descriptor_idx (all-left P (refs_option s.descriptor) (refs_comp s.comp) (all-right P (refs_option s.describes) (refs_option s.descriptor ++ refs_comp s.comp) (all-right P s.supers (refs_option s.describes ++ (refs_option s.descriptor ++ refs_comp s.comp)) h.known)))

  pub listed_describes : (gs : List (List (SubType A))) (id k : ℕ) (ty : SubType A) → IsListed gs id k ty → IfSome ty.composite_type.describes_idx (λ p. IsKnownIn gs k (index_of p))
  listed_describes gs id k ty h =
      let s = sub_of ty in
      let P = IsKnownIn gs k in
      known_option P ty.composite_type.describes_idx (all-left P (refs_option s.describes) (refs_option s.descriptor ++ refs_comp s.comp) (all-right P s.supers (refs_option s.describes ++ (refs_option s.descriptor ++ refs_comp s.comp)) h.known))

  -- the supertype of a type of the list
  supertype_there : (l : Listing A) (id : ℕ) (o : Option CoreTypeId) → AreListable l.groups → id < length (types_in l) → numbered o ≡ supertype_of (declares l.groups) id → IfSome o (IsIn l)
  supertype_there l id None h lt e = tt
  supertype_there l id (Some s) h lt e = let down : s.index < id = descends l.groups h id s.index (sym e) in omega (arith, down, lt)

  pub supertype_in : (l : Listing A) (id : ℕ) (o : Option CoreTypeId) → AreListable l.groups → id < length (types_in l) → IsSupertypeAt l.groups id o → IfSome o (IsIn l)
  supertype_in l id o h lt r = supertype_there l id o h lt (sym (supertype_read l.groups id o r))

  -- each type of the list declares something, and so does its supertype
  declares_in : (l : Listing A) (id : ℕ) → id < length (types_in l) → (t : Sub ℕ) × (declares l.groups id ≡ Some t)
  declares_in l id lt =
      let f = group_found (all_in l.groups) id lt in
      let p = at_place l id f.0 lt (sym (get_or_from_slice_get (all_in l.groups) id f.0 f.0 f.1)) in
      (sub_by_ids p.start f.0, p.declares)

  pub supertypes_declare : (l : Listing A) (id : ℕ) → AreListable l.groups → id < length (types_in l) → SupertypeDeclares (declares l.groups) id
  supertypes_declare l id h lt = λ b e. let down : b < id = descends l.groups h id b e in declares_in l b (omega (arith, down, lt))
