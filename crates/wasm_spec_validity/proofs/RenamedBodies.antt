-- Bodies of functions, renamed.
use Rattle.std.proofs.Common.{◌≡◌, ◌≤◌, refl, sym, ap, ◌∙◌, subst, ℕ, zero, suc, Bool, true, List, [], ◌∷◌, ◌++◌, map, length, replicate, Option, Some, None, option_map, option_and_then, slice_get}
use Rattle.std.specs.Prelude.{◌↔◌}
use Rattle.std.proofs.lemmas.List.{length-map, map-append}
use Rattle.std.proofs.lemmas.Option.{slice_get-map}
use Rattle.wasm_spec.specs.Syntax.{Heap, abstract_heap, concrete, exact, Ref, Val, i32, i64, f32, f64, v128, reference, Comp, func, array, struct, cont, Sub, map_heap, map_ref, map_val, map_comp, map_sub}
use Rattle.wasm_spec.specs.Features.{Features}
use Rattle.wasm_spec.specs.MatchingTests.{World}
use Rattle.wasm_spec.specs.Limits.{most_locals}
use Rattle.wasm_operators.specs.Control.{func_block}
use Rattle.wasm_operators.specs.Instructions.{Instruction}
use Rattle.wasm_spec_steps.specs.WasmSpecRules.Attempts.{◌>>=◌, among}
use Rattle.wasm_spec_steps.specs.WasmSpecRules.Contexts.{Context, map_context}
use Rattle.wasm_spec_steps.specs.WasmSpecRules.Signatures.{Signature, signature_of, resolve_heap, resolve_ref, resolve_val}
use Rattle.wasm_spec_steps.specs.WasmSpecRules.Worlds.{world_of}
use Rattle.wasm_spec_steps.specs.Bodies.{Local, Surroundings, map_local}
use Rattle.wasm_spec_steps.specs.FunctionBodies.{Declaration, local_declared, type_of, declared_locals, with_locals, local_taken, declared_at, IsBody, IsBodyOfFunction}
use Rattle.wasm_spec_steps.specs.Machine.{State, map_state}
use Rattle.wasm_spec_steps.specs.Meanings.{has_default}
use Rattle.wasm_spec_steps.specs.Renaming.{Renames}
use Rattle.wasm_spec_steps.specs.Steps.{start, steps_in, is_finished}
use Rattle.wasm_spec_steps.proofs.Attempts.{bind-map, then-map, if-map}
use Rattle.wasm_spec_steps.proofs.StepsRenamed.{is_finished-map}
use Rattle.wasm_spec_validity.specs.Renaming.{BodiesAreRenamed, TypedBodiesAreRenamed}
use Rattle.wasm_spec_validity.proofs.ContextWorlds.{naming, steps_renamed}

none : {P X : Type 0} (x : X) → None ≡ Some x → P
none x e = absurd cc

-- a value behind a map comes from one before it
from_map : {X Y : Type 0} (g : X → Y) (o : Option X) (y : Y) → option_map g o ≡ Some y → (x : X) × (o ≡ Some x) × (g x ≡ y)
from_map g None y e = none y e
from_map g (Some x) y e = (x, refl, cc)

module _ {A A' B B' : Type 0} (u : A → A') (v : B → B') (g : A → Option B) (g' : A' → Option B') (e : (x : A) → g' (u x) ≡ option_map v (g x)) where
  chain-some : (o : Option A) → option_and_then g' (option_map u o) ≡ option_map v (option_and_then g o)
  chain-some None = refl
  chain-some (Some x) = e x

  chain-map : (o : Option A) (o' : Option A') → o' ≡ option_map u o → option_and_then g' o' ≡ option_map v (option_and_then g o)
  chain-map o o' p = ap (option_and_then g') p ∙ chain-some o

copies-map : {A B : Type 0} (u : A → B) (n : ℕ) (x : A) → replicate n (u x) ≡ map u (replicate n x)
copies-map u zero x = refl
copies-map u (suc n) x = λ i. u x ∷ copies-map u n x i

module _ {R S : Type 0} (f : R → S) where
  abbrev map_signature : Signature R → Signature S
  map_signature g = record { takes = map (map_val f) g.takes; gives = map (map_val f) g.gives }

  signature_of-map : (c : Comp R) → signature_of (map_comp f c) ≡ option_map map_signature (signature_of c)
  signature_of-map (func ps rs) = refl
  signature_of-map (array x) = refl
  signature_of-map (struct xs) = refl
  signature_of-map (cont r) = refl

  has_default-map : (v : Val R) → has_default (map_val f v) ≡ has_default v
  has_default-map i32 = refl
  has_default-map i64 = refl
  has_default-map f32 = refl
  has_default-map f64 = refl
  has_default-map v128 = refl
  has_default-map (reference r) = refl

  declared-map : (v : Val R) → local_declared (map_val f v) ≡ map_local f (local_declared v)
  declared-map v = λ i. record { content = map_val f v; set = has_default-map v i }

  taken-map : (vs : List (Val R)) → map local_taken (map (map_val f) vs) ≡ map (map_local f) (map local_taken vs)
  taken-map [] = refl
  taken-map (v ∷ vs) = λ i. map_local f (local_taken v) ∷ taken-map vs i

  resolve_heap-map : (ts : List R) (x : Heap ℕ) → resolve_heap (map f ts) x ≡ option_map (map_heap f) (resolve_heap ts x)
  resolve_heap-map ts (abstract_heap s k) = refl
  resolve_heap-map ts (concrete n) = then-map f (map_heap f) concrete concrete (λ a. refl) (slice_get ts n) (slice_get-map f ts n)
  resolve_heap-map ts (exact n) = then-map f (map_heap f) exact exact (λ a. refl) (slice_get ts n) (slice_get-map f ts n)

  resolve_ref-map : (ts : List R) (r : Ref ℕ) → resolve_ref (map f ts) r ≡ option_map (map_ref f) (resolve_ref ts r)
  resolve_ref-map ts r = then-map (map_heap f) (map_ref f) _ _ (λ y. refl) (resolve_heap ts r.heap) (resolve_heap-map ts r.heap)

  resolve_val-map : (ts : List R) (v : Val ℕ) → resolve_val (map f ts) v ≡ option_map (map_val f) (resolve_val ts v)
  resolve_val-map ts i32 = refl
  resolve_val-map ts i64 = refl
  resolve_val-map ts f32 = refl
  resolve_val-map ts f64 = refl
  resolve_val-map ts v128 = refl
  resolve_val-map ts (reference r) = then-map (map_ref f) (map_val f) reference reference (λ y. refl) (resolve_ref ts r) (resolve_ref-map ts r)

  module _ (F : Features) (ts : List R) where
    type_of-map : (v : Val ℕ) → type_of F (map f ts) v ≡ option_map (map_val f) (type_of F ts v)
    type_of-map v = if-map (map_val f) (resolve_val ts v) None refl (resolve_val-map ts v) refl

    more-map : (n : ℕ) (v : Val R) (ls : List (Local R)) → replicate n (local_declared (map_val f v)) ++ map (map_local f) ls ≡ map (map_local f) (replicate n (local_declared v) ++ ls)
    more-map n v ls =
        (λ i. replicate n (declared-map v i) ++ map (map_local f) ls)
        ∙ (λ i. copies-map (map_local f) n (local_declared v) i ++ map (map_local f) ls)
        ∙ sym (map-append (map_local f) (replicate n (local_declared v)) ls)

    declared_locals-map : (ds : List Declaration) → declared_locals F (map f ts) ds ≡ option_map (map (map_local f)) (declared_locals F ts ds)
    declared_locals-map [] = refl
    declared_locals-map (d ∷ ds) =
        chain-map (map_val f) (map (map_local f))
        (λ (v : Val R). option_map (λ (ls : List (Local R)). replicate d.count (local_declared v) ++ ls) (declared_locals F ts ds))
        (λ (v : Val S). option_map (λ (ls : List (Local S)). replicate d.count (local_declared v) ++ ls) (declared_locals F (map f ts) ds))
        (λ v. then-map (map (map_local f)) (map (map_local f)) (λ ls. replicate d.count (local_declared v) ++ ls) (λ ls. replicate d.count (local_declared (map_val f v)) ++ ls) (more-map d.count v) (declared_locals F ts ds) (declared_locals-map ds))
        (type_of F ts d.content) (type_of F (map f ts) d.content) (type_of-map d.content)

module _ {R S : Type 0} (f : R → S) (W : World R) (V : World S) (h : Renames f W V) (F : Features) (C : Context R) (ds : List (S × Sub S)) (rs : List ℕ) (e : (i : ℕ) → among i rs ≡ among i C.references) where
  abbrev renamed : Context S
  renamed = naming ds rs (map_context f C)

  sub-map : (n : ℕ) → declared_at V F renamed n ≡ option_map (map_sub f) (declared_at W F C n)
  sub-map n = bind-map f (map_sub f) W.declared V.declared h.declared (slice_get C.types n) (slice_get-map f C.types n)

  abbrev function_type : ℕ → Option (Signature R)
  function_type n = option_map (λ d. d.comp) (declared_at W F C n) >>= signature_of

  function-map : (n : ℕ) → (option_map (λ d. d.comp) (declared_at V F renamed n) >>= signature_of) ≡ option_map (map_signature f) (function_type n)
  function-map n =
      bind-map (map_comp f) (map_signature f) signature_of signature_of (signature_of-map f) (option_map (λ d. d.comp) (declared_at W F C n))
      (then-map (map_sub f) (map_comp f) _ _ (λ d. refl) (declared_at W F C n) (sub-map n))

  flag-map : (o : Option (Sub R)) → option_map (λ d. d.shared) (option_map (map_sub f) o) ≡ option_map (λ d. d.shared) o
  flag-map None = refl
  flag-map (Some d) = refl

  shared-map : (n : ℕ) → option_map (λ d. d.shared) (declared_at V F renamed n) ≡ option_map (λ d. d.shared) (declared_at W F C n)
  shared-map n = ap (option_map (λ d. d.shared)) (sub-map n) ∙ flag-map (declared_at W F C n)

  module _ (shared : Bool) (g : Signature R) (n : ℕ) (bytes : List ℕ) where
    abbrev here : Surroundings R
    here = record { features = F; context = C; locals = map local_taken g.takes; shared = shared }

    abbrev elsewhere : Surroundings S
    elsewhere = record { features = F; context = renamed; locals = map local_taken (map (map_val f) g.takes); shared = shared }

    all-map : (ls : List (Local R)) → map (map_local f) (map local_taken g.takes ++ ls) ≡ map local_taken (map (map_val f) g.takes) ++ map (map_local f) ls
    all-map ls = map-append (map_local f) (map local_taken g.takes) ls ∙ (λ i. sym (taken-map f g.takes) i ++ map (map_local f) ls)

    steps-map :
        (ls : List (Local R)) (ops : List (Instruction ℕ)) (s : State R)
        → steps_in V (with_locals elsewhere (map (map_local f) ls)) ops (map_state f s) ≡ option_map (map_state f) (steps_in W (with_locals here ls) ops s)
    steps-map ls ops s = steps_renamed f W V h (with_locals here ls) ds rs e ops s

    body_there : (ls : List (Local R)) (t : State R) → IsBody W here (start (func_block n)) bytes ls t → IsBody V elsewhere (start (func_block n)) bytes (map (map_local f) ls) (map_state f t)
    body_there ls t b = record {
      declarations = b.declarations;
      locals = map (map_local f) b.locals;
      instructions = b.instructions;
      behind = b.behind;
      listed = b.listed;
      declared = declared_locals-map f F C.types b.declarations ∙ ap (option_map (map (map_local f))) b.declared;
      all = ap (map (map_local f)) b.all ∙ all-map b.locals;
      few = subst (λ k. k ≤ most_locals) (sym (length-map ls (map_local f))) b.few;
      written = b.written;
      typed = steps-map ls b.instructions (start (func_block n)) ∙ ap (option_map (map_state f)) b.typed;
      finished = is_finished-map f t ∙ b.finished;
    }

    all_back : (ls own : List (Local S)) (ms : List (Local R)) → ls ≡ map local_taken (map (map_val f) g.takes) ++ own → map (map_local f) ms ≡ own → ls ≡ map (map_local f) (map local_taken g.takes ++ ms)
    all_back ls own ms p q = p ∙ (λ i. map local_taken (map (map_val f) g.takes) ++ sym q i) ∙ sym (all-map ms)

    typed_back :
        (ls : List (Local S)) (ms : List (Local R)) (ops : List (Instruction ℕ)) (s : State R) (u : State S)
        → ls ≡ map (map_local f) ms → steps_in V (with_locals elsewhere ls) ops (map_state f s) ≡ Some u
        → (t : State R) × (steps_in W (with_locals here ms) ops s ≡ Some t) × (map_state f t ≡ u)
    typed_back ls ms ops s u p q =
        from_map (map_state f) (steps_in W (with_locals here ms) ops s) u (sym (steps-map ms ops s) ∙ (λ i. steps_in V (with_locals elsewhere (sym p i)) ops (map_state f s)) ∙ q)

    declared_back :
        (types : List R) (d : List Declaration) (own : List (Local S)) → declared_locals F (map f types) d ≡ Some own
        → (ms : List (Local R)) × (declared_locals F types d ≡ Some ms) × (map (map_local f) ms ≡ own)
    declared_back types d own p = from_map (map (map_local f)) (declared_locals F types d) own (sym (declared_locals-map f F types d) ∙ p)

    few_back : (ls : List (Local S)) (ms : List (Local R)) → ls ≡ map (map_local f) ms → length ls ≤ most_locals → length ms ≤ most_locals
    few_back ls ms p l = subst (λ k. k ≤ most_locals) (ap length p ∙ length-map ms (map_local f)) l

    finished_back : (t : State R) (u : State S) → map_state f t ≡ u → is_finished u ≡ true → is_finished t ≡ true
    finished_back t u p e = sym (is_finished-map f t) ∙ ap is_finished p ∙ e

    body_back : (ls : List (Local S)) (u : State S) → IsBody V elsewhere (start (func_block n)) bytes ls u → (ms : List (Local R)) × (t : State R) × IsBody W here (start (func_block n)) bytes ms t
    body_back ls u b =
        let x : (ms : List (Local R)) × (declared_locals F C.types b.declarations ≡ Some ms) × (map (map_local f) ms ≡ b.locals) = declared_back C.types b.declarations b.locals b.declared in
        let ms : List (Local R) = map local_taken g.takes ++ x.0 in
        let same : ls ≡ map (map_local f) ms = all_back ls b.locals x.0 b.all x.2 in
        let y : (t : State R) × (steps_in W (with_locals here ms) b.instructions (start (func_block n)) ≡ Some t) × (map_state f t ≡ u) =
        typed_back ls ms b.instructions (start (func_block n)) u same b.typed in (
          ms,
          y.0,
          record {
            declarations = b.declarations;
            locals = x.0;
            instructions = b.instructions;
            behind = b.behind;
            listed = b.listed;
            declared = x.1;
            all = refl;
            few = few_back ls ms same b.few;
            written = b.written;
            typed = y.1;
            finished = finished_back y.0 u y.2 b.finished;
          },
        )

  there : (n : ℕ) (bytes : List ℕ) → IsBodyOfFunction W F C n bytes → IsBodyOfFunction V F renamed n bytes
  there n bytes b = record {
    signature = map_signature f b.signature;
    shared = b.shared;
    locals = map (map_local f) b.locals;
    last = map_state f b.last;
    is_function = function-map n ∙ ap (option_map (map_signature f)) b.is_function;
    is_shared = shared-map n ∙ b.is_shared;
    body = body_there b.shared b.signature n bytes b.locals b.last b.body;
  }

  back : (n : ℕ) (bytes : List ℕ) → IsBodyOfFunction V F renamed n bytes → IsBodyOfFunction W F C n bytes
  back n bytes b =
      let x : (g : Signature R) × (function_type n ≡ Some g) × (map_signature f g ≡ b.signature) =
      from_map (map_signature f) (function_type n) b.signature (sym (function-map n) ∙ b.is_function) in
      let z : (ms : List (Local R)) × (t : State R) × IsBody W (here b.shared x.0 n bytes) (start (func_block n)) bytes ms t =
      body_back b.shared x.0 n bytes b.locals b.last
      (subst (λ (g : Signature S). IsBody V (record { features = F; context = renamed; locals = map local_taken g.takes; shared = b.shared }) (start (func_block n)) bytes b.locals b.last) (sym x.2) b.body) in
      record {
        signature = x.0;
        shared = b.shared;
        locals = z.0;
        last = z.1;
        is_function = x.1;
        is_shared = sym (shared-map n) ∙ b.is_shared;
        body = z.2;
      }

pub bodies_are_renamed : {R S : Type 0} → BodiesAreRenamed R S
bodies_are_renamed {R} {S} f W V h F C D p n bytes =
    subst (λ (X : Context S). IsBodyOfFunction W F C n bytes ↔ IsBodyOfFunction V F X n bytes) (sym p.shows)
    (there f W V h F C D.declares D.references p.references n bytes, back f W V h F C D.declares D.references p.references n bytes)

pub typed_bodies_are_renamed : {R S : Type 0} → TypedBodiesAreRenamed R S
typed_bodies_are_renamed same renamed f F C D h p parts = (
  λ t i x bytes at_x at_bytes. (bodies_are_renamed f (world_of same C) (world_of renamed D) h F C D p x bytes).0 (t i x bytes at_x at_bytes),
  λ t i x bytes at_x at_bytes. (bodies_are_renamed f (world_of same C) (world_of renamed D) h F C D p x bytes).1 (t i x bytes at_x at_bytes),
)
