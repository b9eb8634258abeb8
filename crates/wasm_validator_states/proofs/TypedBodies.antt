-- The bodies that a run hands out are valid exactly where those of the module are typed.
use Rattle.std.proofs.Common.{◌≡◌, refl, sym, ap, subst, ◌∙◌, ℕ, zero, suc, ◌+◌, Bool, true, false, ◌||◌, List, [], ◌∷◌, ◌++◌, length, slice_get, get_or, Option, Some, None, arith, inl, inr}
use Rattle.std.specs.Prelude.{◌↔◌, nat_eq}
use Rattle.std.specs.List.{All, flat_map}
use Rattle.std.proofs.lemmas.List.{length-append}
use Rattle.std.proofs.lemmas.List.Elements.{All-nil, All-cons, All-head, All-tail}
use Rattle.std.proofs.lemmas.Option.{none-some, same_Some}
use Rattle.wasm_spec.specs.Syntax.{Extern, func_extern, func_exact_extern, table_extern, memory_extern, global_extern, tag_extern}
use Rattle.wasm_spec.specs.BinaryModules.{Import}
use Rattle.wasm_spec.specs.Features.{Features, canonical}
use Rattle.wasm_spec.specs.Framing.{Piece, Version, Custom, Counted, Start, DataCount, CodeStart, CodeEntry, Unknown, End}
use Rattle.wasm_spec_rules.specs.Attempts.{among}
use Rattle.wasm_spec_rules.specs.Contexts.{Context, exact_in}
use Rattle.wasm_spec_rules.specs.FeatureFlags.{features_of}
use Rattle.wasm_spec_rules.specs.IndexSpaces.{IndexSpaces, index_spaces, imported, functions_in}
use Rattle.wasm_spec_rules.specs.LinkRules.{referenced}
use Rattle.wasm_spec_rules.specs.Modules.{IsAllowedPiece}
use Rattle.wasm_spec_rules.specs.Parts.{Parts, bodies_of, data_counts_of}
use Rattle.wasm_spec_rules.specs.Sections.{ranks, at_rank}
use Rattle.wasm_spec_rules.proofs.SectionRanks.{Follows}
use Rattle.wasm_readers_errors.specs.WasmReadersFeatures.declared.features.WasmFeatures.{WasmFeatures}
use Rattle.wasm_readers_types.specs.WasmReadersValues.declared.indices.UnpackedIndex.{UnpackedIndex}
use Rattle.wasm_validator_type_groups.proofs.Places.{get-right}
use Rattle.wasm_validator_resources.specs.Answers.{same_index}
use Rattle.wasm_spec_validity.specs.Expressions.{named}
use Rattle.wasm_spec_validity.specs.Typing.{HasTypedBodies}
use Rattle.wasm_spec_validity.specs.Modules.{context_of}
use Rattle.wasm_validator_sections.specs.WasmValidatorReferences.References.{section_names, piece_names, marked}
use Rattle.wasm_validator_sections.specs.WasmLawsCore.WasmValidatorCoreResources.ModuleContexts.{flagged_from}
use Rattle.wasm_validator_sections.specs.WasmLawsCore.ModuleParts.{spaces_of}
use Rattle.wasm_validator_sections.specs.WasmValidatorFunc.Functions.{IsFunctionBody}
use Rattle.wasm_validator_types.specs.Spaces.{Spaces}
use Rattle.wasm_validator_sections.specs.WasmValidatorCore.Answers.{TypesSoFar}
use Rattle.wasm_validator_sections.proofs.WasmLawsModules.SectionTypes.{sections_give_module_types}
use Rattle.wasm_validator_sections.specs.WasmLawsModules.BodyContexts.{code_context}
use Rattle.wasm_validator_canonical.specs.DistinctTypes.{AreApart}
use Rattle.wasm_validator_sections.specs.ModuleNotes.{Noted, nothing_noted, naming, counting}
use Rattle.wasm_validator_sections.specs.CodeProgress.{Started, starting, taking}
use Rattle.wasm_validator_states.specs.States.{BodyToValidate, next_function, body_with}
use Rattle.wasm_validator_states.specs.Payloads.{IsBodyOfIts}
use Rattle.wasm_validator_states.proofs.AddedTypes.{section, type_space, list_after, ids}
use Rattle.wasm_validator_states.proofs.ModuleRun.{AreParts, DataCountOf, data_count_at, ranked_data_counts}
use Rattle.wasm_validator_states.proofs.PieceRuns.{noted_all, bodies_from}
use Rattle.wasm_validator_states.proofs.RunOfParts.{Accepted, distinct, own_ids}
use Rattle.wasm_validator_states.proofs.UsedLaws.{UsedLaws}
use Rattle.wasm_validator_states.proofs.ValidRules.{parts_valid}

module _ (features : WasmFeatures) (s : Spaces) where
  abbrev IsIts : Started → ℕ → List ℕ → Type 0
  IsIts c x b = IsFunctionBody (features_of features) c.context x b

  tail_of : (C : Context UnpackedIndex) (k : ℕ) (b : List ℕ) (rest : List BodyToValidate) (o : Option ℕ) → All IsBodyOfIts (body_with features C k b o ++ rest) → All IsBodyOfIts rest
  tail_of C k b rest None a = a
  tail_of C k b rest (Some x) a = All-tail IsBodyOfIts (record { index = k; ty = x; features = features; context = C; bytes = b }) rest a

  head_of : (C : Context UnpackedIndex) (k x : ℕ) (b : List ℕ) (rest : List BodyToValidate) (o : Option ℕ) → o ≡ Some x → All IsBodyOfIts (body_with features C k b o ++ rest) → IsFunctionBody (features_of features) C x b
  head_of C k x b rest o e a =
      All-head IsBodyOfIts (record { index = k; ty = x; features = features; context = C; bytes = b }) rest (subst (λ (p : Option ℕ). All IsBodyOfIts (body_with features C k b p ++ rest)) e a)

  -- each of them is the body of its function
  each_body : (bs : List (List ℕ)) (c : Started) → All IsBodyOfIts (bodies_from features s c bs) → (i x : ℕ) (b : List ℕ) → slice_get s.functions (next_function s c + i) ≡ Some x → slice_get bs i ≡ Some b → IsIts c x b
  each_body [] c a i x b f e = absurd (none-some b e)
  each_body (y ∷ bs) c a zero x b f e =
      let k = next_function s c in
      let same : k ≡ k + 0 = omega arith in
      let here : slice_get s.functions k ≡ Some x = ap (slice_get s.functions) same ∙ f in
      subst (IsIts c x) (same_Some y b e) (head_of c.context k x y (bodies_from features s (taking c) bs) (slice_get s.functions k) here a)
  each_body (y ∷ bs) c a (suc i) x b f e =
      let k = next_function s c in
      let same : next_function s (taking c) + i ≡ k + suc i = omega arith in
      each_body bs (taking c) (tail_of c.context k y (bodies_from features s (taking c) bs) (slice_get s.functions k) a) i x b (ap (slice_get s.functions) same ∙ f) e

  -- and where each is, all are
  one_and_rest : (c : Started) (y : List ℕ) (rest : List BodyToValidate) (o : Option ℕ) → slice_get s.functions (next_function s c) ≡ o → ((x : ℕ) → slice_get s.functions (next_function s c) ≡ Some x → IsIts c x y) → All IsBodyOfIts rest
      → All IsBodyOfIts (body_with features c.context (next_function s c) y o ++ rest)
  one_and_rest c y rest None e h a = a
  one_and_rest c y rest (Some x) e h a = All-cons IsBodyOfIts (record { index = next_function s c; ty = x; features = features; context = c.context; bytes = y }) rest (h x e) a

  all_bodies : (bs : List (List ℕ)) (c : Started) → ((i x : ℕ) (b : List ℕ) → slice_get s.functions (next_function s c + i) ≡ Some x → slice_get bs i ≡ Some b → IsIts c x b) → All IsBodyOfIts (bodies_from features s c bs)
  all_bodies [] c h = All-nil IsBodyOfIts
  all_bodies (y ∷ bs) c h =
      let k = next_function s c in
      let here : k + 0 ≡ k = omega arith in
      one_and_rest c y (bodies_from features s (taking c) bs) (slice_get s.functions k) refl (λ x e. h 0 x y (ap (slice_get s.functions) here ∙ e) refl)
      (all_bodies bs (taking c) (λ i x b f e. let same : k + suc i ≡ next_function s (taking c) + i = omega arith in h (suc i) x b (ap (slice_get s.functions) same ∙ f) e))

-- what is noted behind all pieces
marked-append : (xs ys : List ℕ) (flags : List Bool) → marked (xs ++ ys) flags ≡ marked ys (marked xs flags)
marked-append [] ys flags = refl
marked-append (x ∷ xs) ys flags = marked-append xs ys _

noted_names : (ps : List Piece) (n : Noted) → (noted_all n ps).referenced ≡ marked (flat_map piece_names ps) n.referenced
noted_names [] n = refl
noted_names (Counted id count bytes ∷ ps) n =
    noted_names ps (naming (section_names id count bytes) n) ∙ sym (marked-append (section_names id count bytes) (flat_map piece_names ps) n.referenced)
noted_names (Version number kind ∷ ps) n = noted_names ps n
noted_names (Custom name bytes ∷ ps) n = noted_names ps n
noted_names (Start x ∷ ps) n = noted_names ps n
noted_names (DataCount count ∷ ps) n = noted_names ps (counting count n)
noted_names (CodeStart count size ∷ ps) n = noted_names ps n
noted_names (CodeEntry bytes ∷ ps) n = noted_names ps n
noted_names (Unknown id bytes ∷ ps) n = noted_names ps n
noted_names (End ∷ ps) n = noted_names ps n

-- the last of some counts
abbrev last_count : Option ℕ → List ℕ → Option ℕ
last_count o [] = o
last_count o (x ∷ xs) = last_count (Some x) xs

noted_count : (ps : List Piece) (n : Noted) → (noted_all n ps).data_count ≡ last_count n.data_count (flat_map data_counts_of ps)
noted_count [] n = refl
noted_count (Counted id count bytes ∷ ps) n = noted_count ps (naming (section_names id count bytes) n)
noted_count (Version number kind ∷ ps) n = noted_count ps n
noted_count (Custom name bytes ∷ ps) n = noted_count ps n
noted_count (Start x ∷ ps) n = noted_count ps n
noted_count (DataCount count ∷ ps) n = noted_count ps (counting count n)
noted_count (CodeStart count size ∷ ps) n = noted_count ps n
noted_count (CodeEntry bytes ∷ ps) n = noted_count ps n
noted_count (Unknown id bytes ∷ ps) n = noted_count ps n
noted_count (End ∷ ps) n = noted_count ps n

-- there is one at most
only_count : (qs : List Piece) → DataCountOf qs → last_count None (flat_map data_counts_of qs) ≡ slice_get (flat_map data_counts_of qs) 0
only_count qs (inl e) = subst (λ (xs : List Piece). last_count None (flat_map data_counts_of xs) ≡ slice_get (flat_map data_counts_of xs) 0) (sym e) refl
only_count qs (inr e) = subst (λ (xs : List Piece). last_count None (flat_map data_counts_of xs) ≡ slice_get (flat_map data_counts_of xs) 0) (sym e.1) refl

-- imported functions are as many as flags say of them
exact_of_extern : (x : Extern ℕ) → length (exact_in x) ≡ length (functions_in x)
exact_of_extern (func_extern x) = refl
exact_of_extern (func_exact_extern x) = refl
exact_of_extern (table_extern t) = refl
exact_of_extern (memory_extern m) = refl
exact_of_extern (global_extern g) = refl
exact_of_extern (tag_extern x) = refl

pub exact_of_imports : (is : List (Import ℕ)) → length (flat_map (λ (i : Import ℕ). exact_in i.ty) is) ≡ length (imported functions_in is)
exact_of_imports [] = refl
exact_of_imports (i ∷ is) =
    length-append (exact_in i.ty) (flat_map (λ (j : Import ℕ). exact_in j.ty) is)
    ∙ (λ k. exact_of_extern i.ty k + exact_of_imports is k)
    ∙ sym (length-append (functions_in i.ty) (imported functions_in is))

or_false : (b : Bool) → (b || false) ≡ b
or_false true = refl
or_false false = refl

module _ (laws : UsedLaws) (features : WasmFeatures) (T : TypesSoFar) (ps : List Piece) (parts : AreParts ps) (follows : Follows ranks ps) (allowed : All (IsAllowedPiece (features_of features)) ps) (apart : AreApart (canonical (features_of features)) T) (a : Accepted features T ps) where
  abbrev F : Features
  F = features_of features

  abbrev p : Parts
  p = a.parts

  abbrev C : IndexSpaces
  C = index_spaces (type_space features T p.groups a.types) p

  abbrev us : TypesSoFar
  us = list_after features T p.groups a.types

  abbrev s : Spaces
  s = spaces_of F (type_space features T p.groups a.types) (ids features T p.groups a.types) p

  abbrev noted : Noted
  noted = noted_all nothing_noted ps

  abbrev start : Started
  start = starting us s noted

  -- the function behind the imported ones
  function_at : (i : ℕ) → slice_get s.functions (next_function s start + i) ≡ slice_get p.functions i
  function_at i =
      let many = exact_of_imports p.imports in
      let same : next_function s start + i ≡ length (imported functions_in p.imports) + i = omega (arith, many) in
      ap (slice_get s.functions) same ∙ get-right (imported functions_in p.imports) p.functions i

  counted : noted.data_count ≡ slice_get p.data_counts 0
  counted =
      noted_count ps nothing_noted
      ∙ ap (last_count None) (ranked_data_counts ps)
      ∙ only_count (at_rank 11 ps) (data_count_at ps parts follows)
      ∙ ap (λ xs. slice_get xs 0) (sym (ranked_data_counts ps) ∙ a.has.data_counts)

  named_are : (i : ℕ) → among i (flagged_from 0 noted.referenced) ≡ among i (referenced named p)
  named_are i =
      laws.flags noted.referenced i
      ∙ ap (λ flags. get_or flags i false) (noted_names ps nothing_noted)
      ∙ laws.marked (flat_map piece_names ps) [] i
      ∙ or_false (among i (flat_map piece_names ps))
      ∙ laws.names F C a.numbering p ps a.has a.valid.segments a.typed i

  -- the bodies over the ids of the list
  over_ids : HasTypedBodies nat_eq F (context_of C a.numbering p) p ↔ HasTypedBodies same_index F start.context p
  over_ids =
      subst (λ (o : Option ℕ). HasTypedBodies nat_eq F (context_of C a.numbering p) p ↔ HasTypedBodies same_index F (code_context us s o (flagged_from 0 noted.referenced)) p) (sym counted)
      (laws.bodies F us a.types.valid (distinct laws features T ps parts follows allowed apart p.groups a.types)
      (ids features T p.groups a.types) (type_space features T p.groups a.types) (section features T p.groups a.types).stand (own_ids laws features T ps parts follows allowed apart p.groups a.types)
      (sections_give_module_types F p.groups (section features T p.groups a.types).section)
      a.numbering p (parts_valid F C p a.valid a.others) (flagged_from 0 noted.referenced) named_are)

  abbrev bodies : List BodyToValidate
  bodies = bodies_from features s start (flat_map bodies_of ps)

  pub typed_valid : HasTypedBodies nat_eq F (context_of C a.numbering p) p → All IsBodyOfIts bodies
  typed_valid h =
      all_bodies features s (flat_map bodies_of ps) start
      (λ i x b f e. over_ids.0 h i x b (sym (function_at i) ∙ f) (ap (λ (bs : List (List ℕ)). slice_get bs i) (sym a.has.bodies) ∙ e))

  pub valid_typed : All IsBodyOfIts bodies → HasTypedBodies nat_eq F (context_of C a.numbering p) p
  valid_typed h =
      over_ids.1 (λ i x b f e. each_body features s (flat_map bodies_of ps) start h i x b (function_at i ∙ f) (ap (λ (bs : List (List ℕ)). slice_get bs i) a.has.bodies ∙ e))
