-- What is told, step by step.
use Rattle.std.proofs.Common.{◌≡◌, refl, sym, ap, subst, ◌∙◌, ℕ, ◌≤◌, ◌<◌, Bool, true, false, true≢false, not, ◌||◌, List, [], ◌∷◌, map, Option, Some, None, is_ok, IfErr, Ok, Err}
use Rattle.std.specs.Prelude.{nat_lt, if◌then◌else◌}
use Rattle.std.specs.declared.result.Result.{Result}
use Rattle.std.specs.Bool.{Decides}
use Rattle.std.specs.Option.{option_map, option_or}
use Rattle.std.specs.Result.{IsErrAnd}
use Rattle.std.proofs.lemmas.List.{length-map}
use Rattle.wasm_spec.specs.Syntax.{Heap, abstract_heap, concrete, exact, map_heap, Val, i32, i64, f32, f64, v128, reference, map_val, Storage, i8, i16, unpacked, map_storage, Field, map_field, Comp, func, array, struct, cont, map_comp, Sub, map_sub}
use Rattle.wasm_spec.specs.GroupRules.{IsFunction, IsValidType}
use Rattle.wasm_spec.specs.CrateLimits.{most_params, most_results, most_fields}
use Rattle.wasm_validator_resources.specs.WasmSpecRules.FeatureFlags.{features_of}
use Rattle.wasm_validator_resources.specs.WasmReadersErrors.Refusals.{refused, plain, unless, lack_if}
use Rattle.wasm_validator_resources.specs.WasmReadersErrors.declared.error.Fault.TheVariants as fault
use Rattle.wasm_validator_resources.specs.WasmReadersErrors.declared.error.Rule.TheVariants.{MultiValue}
use Rattle.wasm_validator_resources.specs.WasmReadersErrors.declared.error.Refusal.{Refusal}
use Rattle.wasm_validator_resources.specs.WasmReadersErrors.WasmReadersFeatures.declared.type_rules.DescriptorRule.TheVariants.{Descriptors, DescriptorOfNonStruct, DescribesOfNonStruct}
use Rattle.wasm_validator_resources.specs.WasmReadersErrors.WasmReadersFeatures.declared.type_rules.GroupRule.TheVariants.{FunctionParams, FunctionReturns, StructFields, Subtypes, Arrays, ArrayGcTypes, Structs, StructGcTypes}
use Rattle.wasm_validator_resources.specs.WasmReadersErrors.WasmReadersFeatures.declared.type_rules.ValueTypeRule.TheVariants.{ReferenceTypes}
use Rattle.wasm_validator_resources.specs.WasmReadersErrors.WasmReadersFeatures.declared.features.WasmFeatures.{WasmFeatures}
use Rattle.wasm_validator_resources.specs.WasmReadersErrors.WasmReadersFeatures.declared.features.TheConstants.WasmFeatures.{REFERENCE_TYPES, GC, GC_TYPES, CUSTOM_DESCRIPTORS, MULTI_VALUE}
use Rattle.wasm_readers_types.specs.declared.types.SubType.{SubType}
use Rattle.wasm_validator_type_list.specs.WasmValidatorTypeGroups.Groups.{first_of, IsInGroup}
use Rattle.wasm_validator_type_list.specs.DeclarationsById.{declares}
use Rattle.wasm_validator_resources.specs.ProposalRefusals.{first_told, lack_for_ref, told_of_heap, told_of_val, told_of_storage, told_of_field, told_of_form, told_of_count, told_of_limits, told_of_comp}
use Rattle.wasm_validator_type_checks.specs.TypeRefusals.{Unless, holds, broken, FirstOf, first, second, AtSome, absent, present, told_of_extending, told_of_clauses, ToldOfContinuation, ToldOfType, ToldOfGroup}
use Rattle.wasm_validator_type_checks.proofs.AllowedComposites.{struct_map}
use Rattle.wasm_validator_type_checks.proofs.RuleTests.{is_some_map, is_decided}
use Rattle.wasm_validator_type_checks.proofs.Rules.{first_kept}

-- a call that decides a rule, and refuses with this alone
pub tells : {X P : Type 0} (x : Result X Refusal) (r : Refusal) → Decides (is_ok x) P → IfErr x (λ e. e ≡ r) → Unless P r (refused x)
tells (Ok u) r d e = holds (d.0 refl)
tells {P} (Err q) r d e = subst (λ (w : Refusal). Unless P r (Some w)) (sym e) (broken (λ h. true≢false (sym (d.1 h))))

-- what is there
pub of_some : {X Y : Type 0} (f : X → Y) (A : Y → Option Refusal → Type 0) (o : Option X) (u : Option Y) (x : X) (t : Option Refusal) → option_map f o ≡ u → o ≡ Some x → A (f x) t → AtSome A u t
of_some f A o u x t e s h = subst (λ v. AtSome A v t) (sym (ap (option_map f) s) ∙ e) (present (f x) t h)

pub of_none : {X Y : Type 0} (f : X → Y) (A : Y → Option Refusal → Type 0) (o : Option X) (u : Option Y) → option_map f o ≡ u → o ≡ None → AtSome A u None
of_none f A o u e n = subst (λ v. AtSome A v None) (sym (ap (option_map f) n) ∙ e) absent

pub declared_tells : {X : Type 0} (A : X → Option Refusal → Type 0) (u : Option X) (x : X) (t : Option Refusal) → u ≡ Some x → A x t → AtSome A u t
declared_tells A u x t e h = subst (λ v. AtSome A v t) (sym e) (present x t h)

-- a rule that a test refused
pub refuses : {P : Type 0} (b : Bool) (r q : Refusal) → Decides b P → b ≡ false → q ≡ r → Unless P r (Some q)
refuses {P} b r q d f e = subst (λ (w : Refusal). Unless P r (Some w)) (sym e) (broken (λ h. true≢false (sym (d.1 h) ∙ f)))

-- a call that ends with what the first of two tells, and one that goes on to the second
pub stopped : {A B : Option Refusal → Type 0} {X : Type 0} (x : Result X Refusal) (t : Option Refusal) → is_ok x ≡ false → t ≡ refused x → A (refused x) → FirstOf A B t
stopped (Ok u) t f e a = absurd (true≢false f)
stopped {A} {B} (Err r) t f e a = subst (FirstOf A B) (sym e) (first r a)

pub went : {A B : Option Refusal → Type 0} {X : Type 0} (x : Result X Refusal) (t : Option Refusal) → is_ok x ≡ true → A (refused x) → B t → FirstOf A B t
went (Ok u) t f a b = second t a b
went (Err r) t f a b = absurd (true≢false (sym f))

-- what a `?` hands on is the refusal that it got
pub handed_on : {X Y : Type 0} (x : Result X Refusal) (y : Result Y Refusal) (r : Refusal) → x ≡ Err r → IsErrAnd y (λ q. q ≡ r) → refused y ≡ refused x
handed_on x (Ok v) r e h = absurd h
handed_on x (Err q) r e h = ap Some h ∙ sym (ap refused e)

-- the same of refusals that are known
pub or_stopped : {X : Type 0} (x : Result X Refusal) (u v : Option Refusal) → is_ok x ≡ false → refused x ≡ u → refused x ≡ option_or u v
or_stopped (Ok y) u v f e = absurd (true≢false f)
or_stopped (Err r) u v f e = ap (λ o. option_or o v) e

pub or_went : {X : Type 0} (x : Result X Refusal) (u v t : Option Refusal) → is_ok x ≡ true → refused x ≡ u → t ≡ v → t ≡ option_or u v
or_went (Ok y) u v t f e h = h ∙ ap (λ o. option_or o v) e
or_went (Err r) u v t f e h = absurd (true≢false (sym f))

-- the refusal of a continuation
pub continuation_tells : {X : Type 0} (offset : ℕ) (D : ℕ → Option (Sub ℕ)) (x : Result X Refusal) (b : Bool) (c : Comp ℕ) (r id told : ℕ)
    → c ≡ cont r → id ≡ r → told ≡ id → is_ok x ≡ b → Decides b (IsFunction D id) → IfErr x (λ q. q ≡ plain (fault.NotAFunctionId told) offset) → ToldOfContinuation offset D c (refused x)
continuation_tells offset D x b c r id told e f h k d q =
    let at_id : ToldOfContinuation offset D (cont id) (refused x) =
    tells x (plain (fault.NotAFunctionId id) offset) (is_decided (is_ok x) b k d) (subst (λ n. IfErr x (λ w. w ≡ plain (fault.NotAFunctionId n) offset)) h q) in
    subst (λ w. ToldOfContinuation offset D w (refused x)) (ap cont f ∙ sym e) at_id

-- the refusal of a group
pub group_tells : {A X : Type 0} (features : WasmFeatures) (offset : ℕ) (gs : List (List (SubType A))) (k id : ℕ) (y : Result X Refusal) (t : Option Refusal)
    → refused y ≡ t → IsInGroup gs k id → ToldOfType features offset (declares gs) id t
    → ((before : ℕ) → first_of gs k ≤ before → before < id → IsValidType (features_of features) (declares gs) before)
    → IfErr y (ToldOfGroup features offset gs k)
group_tells features offset gs k id (Ok u) t e inside told valid = tt
group_tells features offset gs k id (Err r) t e inside told valid = record {
  id = id;
  inside = inside;
  told = subst (ToldOfType features offset (declares gs) id) (sym e) told;
  valid_before = λ before there below. valid before there.from below;
}

-- what is told of what is written isn't of what it refers to
module _ (features : WasmFeatures) (offset : ℕ) where
  first_told_map : {X Y : Type 0} (g : X → Y) (f : X → Option Refusal) (h : Y → Option Refusal) → ((x : X) → h (g x) ≡ f x) → (xs : List X) → first_told h (map g xs) ≡ first_told f xs
  first_told_map g f h e [] = refl
  first_told_map g f h e (x ∷ xs) = λ i. option_or (e x i) (first_told_map g f h e xs i)

  module _ {R S : Type 0} (f : R → S) where
    heap_told : (nullable : Bool) (h : Heap R) → told_of_heap features offset nullable (map_heap f h) ≡ told_of_heap features offset nullable h
    heap_told nullable (abstract_heap shared a) = refl
    heap_told nullable (concrete r) = refl
    heap_told nullable (exact r) = refl

    val_told : (v : Val R) → told_of_val features offset (map_val f v) ≡ told_of_val features offset v
    val_told i32 = refl
    val_told i64 = refl
    val_told f32 = refl
    val_told f64 = refl
    val_told v128 = refl
    val_told (reference r) = ap (λ o. option_or (lack_for_ref features offset true REFERENCE_TYPES ReferenceTypes) o) (heap_told r.nullable r.heap)

    storage_told : (s : Storage R) → told_of_storage features offset (map_storage f s) ≡ told_of_storage features offset s
    storage_told i8 = refl
    storage_told i16 = refl
    storage_told (unpacked v) = val_told v

    field_told : (x : Field R) → told_of_field features offset (map_field f x) ≡ told_of_field features offset x
    field_told x = storage_told x.storage

    form_told : (c : Comp R) → told_of_form features offset (map_comp f c) ≡ told_of_form features offset c
    form_told (func ps rs) = λ i.
        option_or (first_told_map (map_val f) (told_of_val features offset) (told_of_val features offset) val_told ps i)
        (option_or (first_told_map (map_val f) (told_of_val features offset) (told_of_val features offset) val_told rs i)
        (lack_if (nat_lt 1 (length-map rs (map_val f) i)) features MULTI_VALUE (fault.Rule MultiValue) offset))
    form_told (array x) = λ i. option_or (lack_if true features GC (fault.Group Arrays) offset) (option_or (lack_if true features GC_TYPES (fault.Group ArrayGcTypes) offset) (field_told x i))
    form_told (struct xs) = λ i. option_or (lack_if true features GC (fault.Group Structs) offset) (option_or (lack_if true features GC_TYPES (fault.Group StructGcTypes) offset) (first_told_map (map_field f) (told_of_field features offset) (told_of_field features offset) field_told xs i))
    form_told (cont r) = refl

    limits_told : (c : Comp R) → told_of_limits features offset (map_comp f c) ≡ told_of_limits features offset c
    limits_told (func ps rs) = λ i. option_or (told_of_count features offset most_params (length-map ps (map_val f) i) FunctionParams) (told_of_count features offset most_results (length-map rs (map_val f) i) FunctionReturns)
    limits_told (array x) = refl
    limits_told (struct xs) = λ i. told_of_count features offset most_fields (length-map xs (map_field f) i) StructFields
    limits_told (cont r) = refl

    pub comp_told : (c : Comp R) → told_of_comp features offset (map_comp f c) ≡ told_of_comp features offset c
    comp_told c = λ i. option_or (form_told c i) (limits_told c i)

    pub extending_told : (s : Sub R) → told_of_extending features offset (map_sub f s) ≡ told_of_extending features offset s
    extending_told s = ap (λ b. lack_if (not s.is_final || b) features GC (fault.Group Subtypes) offset) (first_kept f (features_of features) s.supers)

    pub clauses_told : (s : Sub R) → told_of_clauses features offset (map_sub f s) ≡ told_of_clauses features offset s
    clauses_told s = λ i.
        let has_clause = is_some_map f s.descriptor i || is_some_map f s.describes i in
        option_or (lack_if has_clause features CUSTOM_DESCRIPTORS (fault.Descriptor Descriptors) offset)
        (unless (not has_clause || struct_map f s.comp i) (plain (fault.Descriptor (if is_some_map f s.descriptor i then DescriptorOfNonStruct else DescribesOfNonStruct)) offset))
