-- One-to-one numberings of the types of a context.
use Rattle.std.proofs.Common.{◌≡◌, refl, ℕ, Bool, List, ◌==◌}
use Rattle.std.specs.Prelude.{◌↔◌}
use Rattle.wasm_spec.specs.Features.{Features}
use Rattle.wasm_spec_steps.specs.WasmSpecRules.Contexts.{Context, map_context}
use Rattle.wasm_spec_steps.specs.WasmSpecRules.Parts.{Parts}
use Rattle.wasm_spec_steps.specs.WasmSpecRules.Worlds.{world_of}
use Rattle.wasm_spec_steps.specs.Bodies.{Surroundings}
use Rattle.wasm_spec_steps.specs.FunctionBodies.{IsBodyOfFunction}
use Rattle.wasm_spec_steps.specs.Machine.{State}
use Rattle.wasm_spec_steps.specs.Renaming.{Renames}
use Rattle.wasm_spec_steps.proofs.WorldsRenamed.{world_of-map}
use Rattle.wasm_spec_validity.specs.OneToOne.{SaysTheSame, ConstantsAlso, Below, NumberingsSayTheSame}
use Rattle.wasm_spec_validity.specs.OtherContexts.{ConstantsAreRenamed}
use Rattle.wasm_spec_validity.specs.Renaming.{ShowsRenamed}
use Rattle.wasm_spec_validity.specs.Typing.{HasTypedBodies}
use Rattle.wasm_spec_validity.proofs.ConstantRenamings.{constants_rename}
use Rattle.wasm_spec_validity.proofs.RenamedBodies.{bodies_are_renamed, typed_bodies_are_renamed}

shown : {T R : Type 0} (f : T → R) (C : Context T) → ShowsRenamed f C (map_context f C)
shown f C = record { shows = refl; references = λ i. refl }

-- from the identities themselves to others
module _ {T R : Type 0} (own : T → T → Bool) (same : R → R → Bool) (f : T → R) (e : (a b : T) → same (f a) (f b) ≡ own a b) where
  worlds : (C : Context T) → Renames f (world_of own C) (world_of same (map_context f C))
  worlds C = world_of-map f own same e C

  bodies : (F : Features) (C : Context T) (n : ℕ) (bytes : List ℕ) → IsBodyOfFunction (world_of own C) F C n bytes ↔ IsBodyOfFunction (world_of same (map_context f C)) F (map_context f C) n bytes
  bodies F C n bytes = bodies_are_renamed f (world_of own C) (world_of same (map_context f C)) (worlds C) F C (map_context f C) (shown f C) n bytes

  typed : (F : Features) (C : Context T) (parts : Parts) → HasTypedBodies own F C parts ↔ HasTypedBodies same F (map_context f C) parts
  typed F C parts = typed_bodies_are_renamed own same f F C (map_context f C) (worlds C) (shown f C) parts

  constants :
      (B : Surroundings T) (imported : ℕ) (s : State T) (bytes more : List ℕ)
      → ConstantsAreRenamed f (world_of own B.context) (world_of same (map_context f B.context)) B (map_context f B.context) imported s bytes more
  constants B imported s bytes more = constants_rename f (world_of own B.context) (world_of same (map_context f B.context)) (worlds B.context) B (map_context f B.context) imported s bytes more

module _ {T R S : Type 0} (own : T → T → Bool) (same : R → R → Bool) (also : S → S → Bool) (f : T → R) (g : T → S)
    (e : (a b : T) → same (f a) (f b) ≡ own a b) (h : (a b : T) → also (g a) (g b) ≡ own a b) where
  constants_also : ConstantsAlso same also f g
  constants_also B imported s u bytes more c =
      let x = (constants own same f e B imported s bytes more).back u c in
      (x.0, x.2, (constants own also g h B imported s bytes more).there x.0 x.1)

module _ {T R S : Type 0} (own : T → T → Bool) (same : R → R → Bool) (also : S → S → Bool) (f : T → R) (g : T → S)
    (e : (a b : T) → same (f a) (f b) ≡ own a b) (h : (a b : T) → also (g a) (g b) ≡ own a b) where
  says_the_same : SaysTheSame same also f g
  says_the_same = record {
    bodies = λ F C n bytes. (
      λ b. (bodies own also g h F C n bytes).0 ((bodies own same f e F C n bytes).1 b),
      λ b. (bodies own same f e F C n bytes).0 ((bodies own also g h F C n bytes).1 b),
    );
    typed = λ F C parts. (
      λ b. (typed own also g h F C parts).0 ((typed own same f e F C parts).1 b),
      λ b. (typed own same f e F C parts).0 ((typed own also g h F C parts).1 b),
    );
    constants = constants_also own same also f g e h;
    constants_back = constants_also own also same g f h e;
  }

pub numberings_say_the_same : {R S : Type 0} → NumberingsSayTheSame R S
numberings_say_the_same limit same also f g e h =
    says_the_same (λ (a : Below limit) (b : Below limit). a.0 == b.0) same also (λ (k : Below limit). f k.0) (λ (k : Below limit). g k.0)
    (λ a b. e a.0 b.0 a.1 b.1) (λ a b. h a.0 b.0 a.1 b.1)
