-- What is read of the types of a module whose code section has started.
use Rattle.std.proofs.Common.{◌≡◌, refl, sym, ap, subst, ◌∙◌, ℕ, ◌<◌, [], List, length, Option, None, option_map, arith, Bor}
use Rattle.std.specs.Prelude.{IsSome, IfSome, ◌↔◌, slice_index_or}
use Rattle.wasm_validator_resources.specs.WasmSpecRules.Contexts.{Context}
use Rattle.wasm_readers_types.specs.SeenTypes.{sub_of}
use Rattle.wasm_readers_types.specs.WasmReadersValues.declared.indices.CoreTypeId.{CoreTypeId}
use Rattle.wasm_readers_types.specs.WasmReadersValues.declared.indices.UnpackedIndex.{UnpackedIndex}
use Rattle.wasm_readers_types.specs.WasmReadersValues.declared.indices.UnpackedIndex.TheVariants.{Id}
use Rattle.wasm_readers_types.specs.declared.types.SubType.{SubType}
use Rattle.wasm_validator_types.specs.Spaces.{no_spaces}
use Rattle.wasm_validator_resources.specs.Answers.{world}
use Rattle.wasm_validator_core_resources.specs.declared.resources.ModuleResources.TheInside as lookups
use Rattle.wasm_validator_core_resources.specs.ModuleLookups as lookups_shown
use Rattle.wasm_validator_core_resources.proofs.ContextTypes as declared
use Rattle.wasm_validator_core_resources.specs.declared.validator_resources.CodeModule.TheInside.{Inside}
use Rattle.wasm_validator_core_resources.specs.CodeLookups.{shown, IsSound}

abbrev lent : {X : Type 0} → X → Bor X
lent x = record { ref_ptr = (0, 0); now = x }

module _ {A : Type 0} (a : Inside A) (C : Context UnpackedIndex) (e : shown a ≡ C) (sound : IsSound a) where
  -- the look-ups over the same list, of a module that has nothing else
  abbrev over_the_list : lookups.Inside A
  over_the_list = record {
    spaces = lent no_spaces;
    list = lent a.list;
    types = lent a.types;
    elements = lent [];
    data_count = None;
    referenced = None;
  }

  is_sound : lookups_shown.IsSound over_the_list
  is_sound = record {
    listable = sound.listable;
    small = λ k d l. absurd (omega (arith, l));
    types = sound.types;
    elements = omega arith;
  }

  -- what is read under an id is what it declares
  pub type_read :
      (id : CoreTypeId) (i : ℕ) (types : List (SubType A)) (r : Option (Bor (SubType A))) → i ≡ id.index → types ≡ a.types → IsSome r ↔ (i < length types)
      → IfSome r (λ t. t.now ≡ slice_index_or types i t.now) → option_map (λ t. sub_of t.now) r ≡ (world C).declared (Id id)
  type_read id i types r n same when value =
      subst (λ ts. IsSome r ↔ (i < length ts) → IfSome r (λ t. t.now ≡ slice_index_or ts i t.now) → option_map (λ t. sub_of t.now) r ≡ (world C).declared (Id id)) (sym same)
      (λ s v. declared.type_read over_the_list (lookups_shown.shown over_the_list) refl is_sound id i r n s v ∙ ap (λ (D : Context UnpackedIndex). (world D).declared (Id id)) e) when value

  -- and what is no id declares nothing
  pub none_declared : (b : UnpackedIndex) → declared.IsNotId b → None ≡ (world C).declared b
  none_declared b h = declared.none_declared over_the_list (lookups_shown.shown over_the_list) refl is_sound b h ∙ ap (λ (D : Context UnpackedIndex). (world D).declared b) e
