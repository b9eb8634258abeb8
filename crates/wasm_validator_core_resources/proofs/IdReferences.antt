-- Ids as references of types, in a context.
use Rattle.std.proofs.Common.{◌≡◌, refl, sym, ap, ◌∙◌, true, false, true≢false, []}
use Rattle.std.specs.Bool.{Decides}
use Rattle.std.specs.List.{All}
use Rattle.std.proofs.lemmas.Bool.Decides.{Decides-eqb}
use Rattle.std.proofs.lemmas.List.Elements.{All-head}
use Rattle.wasm_spec.specs.Syntax.{Heap, abstract_heap, concrete, exact, Val, i32, i64, f32, f64, v128, reference, map_heap, map_val}
use Rattle.wasm_spec.specs.References.{refs_heap, refs_val}
use Rattle.wasm_spec.specs.MatchingTests.{matches_val}
use Rattle.wasm_readers_types.specs.WasmReadersValues.Indices.{IsId}
use Rattle.wasm_readers_types.specs.WasmReadersValues.declared.indices.UnpackedIndex.{UnpackedIndex}
use Rattle.wasm_readers_types.specs.WasmReadersValues.declared.indices.UnpackedIndex.TheVariants.{Module, RecGroup, Id}
use Rattle.wasm_validator_type_list.specs.Lookups.{leads_to}
use Rattle.wasm_validator_resources.specs.WasmSpecRules.Worlds.{world_of}
use Rattle.wasm_validator_core_resources.specs.IndexContexts.{id_of, same_index, ListsAreListed}
use Rattle.wasm_validator_core_resources.proofs.ListWorlds.{lists_are_seen, list_contexts_are_worlds}

not_both : {P : Type 0} → false ≡ true → P
not_both e = absurd (true≢false (sym e))

-- the test for the same reference is right
apart_forms : (a b : UnpackedIndex) → (a ≡ b → ⊥) → Decides false (a ≡ b)
apart_forms a b h = ((λ e. not_both e), (λ e. absurd (h e)))

index-decides : (a b : UnpackedIndex) → Decides (same_index a b) (a ≡ b)
index-decides (Module m) (Module n) = let d = Decides-eqb m n in ((λ e. ap (λ k. Module k) (d.0 e)), (λ (e : Module m ≡ Module n). d.1 cc))
index-decides (RecGroup m) (RecGroup n) = let d = Decides-eqb m n in ((λ e. ap (λ k. RecGroup k) (d.0 e)), (λ (e : RecGroup m ≡ RecGroup n). d.1 cc))
index-decides (Id a) (Id b) =
    let d = Decides-eqb a.index b.index in
    ((λ e. ap (λ k. Id (record { index = k })) (d.0 e)), (λ (e : Id a ≡ Id b). d.1 (let h : a ≡ b = cc in ap (λ x. x.index) h)))
index-decides (Module m) (RecGroup n) = apart_forms _ _ (λ (e : Module m ≡ RecGroup n). cc)
index-decides (Module m) (Id b) = apart_forms _ _ (λ (e : Module m ≡ Id b). cc)
index-decides (RecGroup m) (Module n) = apart_forms _ _ (λ (e : RecGroup m ≡ Module n). cc)
index-decides (RecGroup m) (Id b) = apart_forms _ _ (λ (e : RecGroup m ≡ Id b). cc)
index-decides (Id a) (Module n) = apart_forms _ _ (λ (e : Id a ≡ Module n). cc)
index-decides (Id a) (RecGroup n) = apart_forms _ _ (λ (e : Id a ≡ RecGroup n). cc)

-- an id is the id with its number
as_id : (a : UnpackedIndex) → IsId a → a ≡ id_of (leads_to 0 a)
as_id (Module m) h = absurd h
as_id (RecGroup m) h = absurd h
as_id (Id a) h = refl

heap_by_ids : (x : Heap UnpackedIndex) → All IsId (refs_heap x) → x ≡ map_heap id_of (map_heap (leads_to 0) x)
heap_by_ids (abstract_heap s k) h = refl
heap_by_ids (concrete a) h = ap concrete (as_id a (All-head IsId a [] h))
heap_by_ids (exact a) h = ap exact (as_id a (All-head IsId a [] h))

pub val_by_ids : (v : Val UnpackedIndex) → All IsId (refs_val v) → v ≡ map_val id_of (map_val (leads_to 0) v)
val_by_ids i32 h = refl
val_by_ids i64 h = refl
val_by_ids f32 h = refl
val_by_ids f64 h = refl
val_by_ids v128 h = refl
val_by_ids (reference r) h = λ i. reference (record { nullable = r.nullable; heap = heap_by_ids r.heap h i })

pub lists_are_listed : {A : Type 0} → ListsAreListed A
lists_are_listed gs h C e =
    let seen = lists_are_seen same_index id_of (λ m n. refl) gs h C e in
    record {
      seen = seen;
      right = list_contexts_are_worlds same_index index-decides id_of (λ m n. refl) gs h C e;
      matches = λ v w p q.
          (λ i. matches_val (world_of same_index C) (val_by_ids v p i) (val_by_ids w q i)) ∙ seen.matches (map_val (leads_to 0) v) (map_val (leads_to 0) w);
    }
