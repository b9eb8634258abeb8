-- No function of an instance of a valid module gets stuck.
use Rattle.std.proofs.Common.{◌≡◌, refl, sym, ap, subst, ◌∙◌, ℕ, zero, suc, Bool, false, List, [], ◌∷◌, ◌++◌, map, replicate, slice_get, Option, Some, None, option_map}
use Rattle.std.specs.Option.{option_and_then}
use Rattle.wasm_spec.specs.Syntax.{Val}
use Rattle.wasm_spec.specs.Features.{Features}
use Rattle.wasm_spec.specs.MatchingTests.{World}
use Rattle.wasm_spec_steps.specs.WasmSpecRules.Contexts.{Context}
use Rattle.wasm_spec_steps.specs.WasmSpecRules.Parts.{Parts}
use Rattle.wasm_spec_steps.specs.WasmSpecRules.Signatures.{Signature}
use Rattle.wasm_operators.specs.Instructions.{Instruction, instruction_at}
use Rattle.wasm_spec_steps.specs.Bodies.{Local, Surroundings}
use Rattle.wasm_spec_steps.specs.FunctionBodies.{Declaration, type_of, declared_locals, local_taken, local_declared}
use Rattle.wasm_spec_steps.specs.Sequences.{Are}
use Rattle.wasm_spec_instructions.specs.Code.{Code, Is}
use Rattle.wasm_spec_instructions.specs.ValueTypes.{vals}
use Rattle.wasm_spec_instructions.specs.Expressions.{body_scope}
use Rattle.wasm_spec_instructions.proofs.Attempts.{the_same, absent}
use Rattle.wasm_spec_instructions.proofs.CodeUniqueness.{code_is_unique}
use Rattle.wasm_laws_soundness.specs.BodiesByRules.{body_in, IsTypedBody}
use Rattle.wasm_laws_soundness.specs.Values.{Value, Instance, Definition, defined, hosted, Function, Store, signature_in, HaveTypes}
use Rattle.wasm_laws_soundness.specs.Outcomes.{State, falls_through, Outcome, Primitives}
use Rattle.wasm_laws_soundness.specs.StoreValidity.{InstanceFits, IsTypedCode, IsTypedFunction, Fits, IsPromised, falling, leaving}
use Rattle.wasm_laws_soundness.proofs.Values.{grows-refl}
use Rattle.wasm_laws_soundness.specs.Interpreter.{invokes, run}
use Rattle.wasm_laws_soundness.specs.Laws.{AreSound}
use Rattle.wasm_laws_soundness.specs.Modules.{IsCodeOf, IsFunctionOf, of_host, of_module, IsInstance, called_with, RunsWell}
use Rattle.wasm_laws_soundness.proofs.Inversions.{signed}
use Rattle.wasm_laws_soundness.proofs.SoundnessTheorem.{functions_are_sound, not_stuck}

-- bytes are those of one list of instructions at most
nothing-there : instruction_at (λ n. n) [] ≡ None
unfolding instruction_at
nothing-there = refl

none-left : (i : Instruction ℕ) (next bytes : List ℕ) → bytes ≡ [] → instruction_at (λ n. n) bytes ≡ Some (i, next) → ⊥
none-left i next bytes e f = absent (i, next) (sym nothing-there ∙ ap (instruction_at (λ n. n)) (sym e) ∙ f)

instructions-unique : (xs ys : List (Instruction ℕ)) (bytes : List ℕ) → Are xs bytes [] → Are ys bytes [] → xs ≡ ys
instructions-unique [] [] bytes a b = refl
instructions-unique [] (y ∷ ys) bytes a b = absurd (none-left y b.0 bytes a b.1)
instructions-unique (x ∷ xs) [] bytes a b = absurd (none-left x a.0 bytes b a.1)
instructions-unique (x ∷ xs) (y ∷ ys) bytes a b =
    let w : (x, a.0) ≡ (y, b.0) = the_same (x, a.0) (y, b.0) (sym a.1 ∙ b.1) in
    let r : xs ≡ ys = instructions-unique xs ys b.0 (subst (λ (z : List ℕ). Are xs z []) (λ i. (w i).1) a.2) b.2 in
    (λ i. (w i).0 ∷ r i)

-- locals that are declared are set where they have a default
module _ {R : Type 0} (F : Features) (types : List R) where
  copied :
      (n : ℕ) (v : Val R) (extra : List (Val R)) (ls : List (Local R)) → ls ≡ map local_declared extra
      → (more : List (Val R)) × (replicate n (local_declared v) ++ ls ≡ map local_declared more)
  copied zero v extra ls e = (extra, e)
  copied (suc n) v extra ls e = let k = copied n v extra ls e in (v ∷ k.0, ap (λ (z : List (Local R)). local_declared v ∷ z) k.1)

  are_declared : (ds : List Declaration) (ls : List (Local R)) → declared_locals F types ds ≡ Some ls → (extra : List (Val R)) × (ls ≡ map local_declared extra)
  are_declared [] ls e = ([], sym (the_same [] ls e))
  are_declared (d ∷ ds) ls e = go (λ ms f. are_declared ds ms f) (type_of F types d.content) (declared_locals F types ds) refl e
    where
      go :
          ((ms : List (Local R)) → declared_locals F types ds ≡ Some ms → (extra : List (Val R)) × (ms ≡ map local_declared extra))
          → (t : Option (Val R)) (o : Option (List (Local R))) → declared_locals F types ds ≡ o
          → option_and_then (λ v. option_map (λ ls. replicate d.count (local_declared v) ++ ls) o) t ≡ Some ls
          → (extra : List (Val R)) × (ls ≡ map local_declared extra)
      go ih None o f g = absurd (absent ls g)
      go ih (Some v) None f g = absurd (absent ls g)
      go ih (Some v) (Some ms) f g =
          let k = ih ms f in
          let c = copied d.count v k.0 ms k.1 in
          (c.0, sym (the_same (replicate d.count (local_declared v) ++ ms) ls g) ∙ c.1)

module _ {R : Type 0} (W : World R) (F : Features) (C : Context R) (P : Primitives R) where
  -- what a definition is asked for
  abbrev TypedAs : Store R → Signature R → Definition R → Type 0
  TypedAs S g (defined B I c) = IsTypedCode W P S g B I c
  TypedAs S g (hosted k) = Unit {0}

  as_code :
      (S : Store R) (g : Signature R) (d : Definition R) (B D : Surroundings R) (I J : Instance) (c e : Code) → d ≡ defined B I c → d ≡ defined D J e
      → IsTypedCode W P S g B I c → IsTypedCode W P S g D J e
  as_code S g d B D I J c e f h t = subst (TypedAs S g) (sym f ∙ h) t

  -- a body that the rules type is the code that its bytes are
  pub code-typed :
      (S : Store R) (I : Instance) (n : ℕ) (bytes : List ℕ) (B : Surroundings R) (c : Code) (k : IsCodeOf W F C n bytes B c) (t : IsTypedBody W F C n bytes)
      → ((shared : Bool) (locals : List (Local R)) → InstanceFits W P S (body_in F C shared locals) I) → IsTypedCode W P S t.signature B I c
  code-typed S I n bytes B c k t fits =
      let g : k.signature ≡ t.signature = the_same k.signature t.signature (sym k.is_function ∙ t.is_function) in
      let b : k.shared ≡ t.shared = the_same k.shared t.shared (sym k.is_shared ∙ t.is_shared) in
      let l : (k.declarations, k.behind) ≡ (t.declarations, t.behind) =
      the_same (k.declarations, k.behind) (t.declarations, t.behind) (sym k.listed ∙ t.listed) in
      let ls : k.locals ≡ t.locals =
      the_same k.locals t.locals (sym k.declared ∙ ap (λ (p : List Declaration × List ℕ). declared_locals F C.types p.0) l ∙ t.declared) in
      let is : k.instructions ≡ t.instructions =
      instructions-unique k.instructions t.instructions t.behind (subst (λ (p : List Declaration × List ℕ). Are k.instructions p.1 []) l k.written) t.written in
      let w : c ≡ t.typed.code = code_is_unique t.instructions c t.typed.code (subst (λ (z : List (Instruction ℕ)). Is z c) is k.code) t.typed.is in
      let D : Surroundings R = body_in F C t.shared (map local_taken t.signature.takes ++ t.locals) in
      let e : B ≡ D = k.surroundings ∙ (λ i. body_in F C (b i) (map local_taken (g i).takes ++ ls i)) in
      let x = are_declared F C.types t.declarations t.locals t.declared in
      subst (λ (z : Surroundings R). IsTypedCode W P S t.signature z I c) (sym e)
      (subst (λ (z : Code). IsTypedCode W P S t.signature D I z) (sym w)
      (record {
        extra = x.0;
        sets = [];
        locals = ap (λ (z : List (Local R)). map local_taken t.signature.takes ++ z) x.1;
        typed = t.typed.typed;
        instance = fits t.shared (map local_taken t.signature.takes ++ t.locals);
      }))

  pub function-typed :
      (parts : Parts) (S : Store R) (I : Instance) (f : Function R)
      → ((i n : ℕ) (bytes : List ℕ) → slice_get parts.functions i ≡ Some n → slice_get parts.bodies i ≡ Some bytes → IsTypedBody W F C n bytes)
      → ((shared : Bool) (locals : List (Local R)) → InstanceFits W P S (body_in F C shared locals) I) → IsFunctionOf W F C P parts I f
      → IsTypedFunction W P S f
  function-typed parts S I f bodies fits (of_host {k = k} g e d) = record { signature = g; is = e; code = λ B J c h. absurd (apart B J c (sym d ∙ h)) }
    where
      apart : (B : Surroundings R) (J : Instance) (c : Code) → hosted k ≡ defined B J c → ⊥
      apart B J c e = cc
  function-typed parts S I f bodies fits (of_module {B = B} {c = c} i n bytes e h w k d) =
      let t : IsTypedBody W F C n bytes = bodies i n bytes e h in
      let s = signed W (body_in F C false []) (body_scope []) (slice_get C.types n) t.signature t.is_function in
      record {
        signature = t.signature;
        is = ap (signature_in W) (the_same f.type s.0 (sym w ∙ s.1)) ∙ s.2;
        code = λ D J x y. as_code S t.signature f.definition B D I J c x d y (code-typed S I n bytes B c k t fits);
      }

  pub runs-well :
      (parts : Parts) → AreSound W P
      → ((i n : ℕ) (bytes : List ℕ) → slice_get parts.functions i ≡ Some n → slice_get parts.bodies i ≡ Some bytes → IsTypedBody W F C n bytes)
      → (S : Store R) (I : Instance) → IsInstance W F C P parts S I → (a : ℕ) (f : Function R) (g : Signature R) (vs : List (Value R))
      → slice_get S.functions a ≡ Some f → signature_in W f.type ≡ Some g
      → HaveTypes W S vs (vals g.takes) → RunsWell W P a g (called_with vs S)
  runs-well parts sound bodies S I h a f g vs e w v = record {
    never_stuck = λ n k. not_stuck W P sound (run W P n (invokes a) (called_with vs S)) (promised n) k;
    results = λ n t k. given (run W P n (invokes a) (called_with vs S)) t (promised n) k;
  }
    where
      fits : Fits W P (body_in F C false []) I S [] (vals g.takes) (called_with vs S)
      fits = record {
        operands = v;
        locals = record { holds = λ n x e. absurd (absent x e) };
        store = record { functions = λ b z i. function-typed parts S I z bodies h.fits (h.functions b z i); exceptions = h.exceptions };
        instance = h.fits false [];
        grown = grows-refl S;
      }

      promised : (n : ℕ) → IsPromised W P (body_in F C false []) I S (body_scope []) [] (vals g.gives) (run W P n (invokes a) (called_with vs S))
      promised n = functions_are_sound R W P sound (body_in F C false []) I (body_scope []) a f g [] n (called_with vs S) e w fits

      given :
          (o : Outcome R) (t : State R) → IsPromised W P (body_in F C false []) I S (body_scope []) [] (vals g.gives) o → o ≡ falls_through t
          → HaveTypes W t.store t.operands (vals g.gives)
      given o t (falling {s = s} k) e = let w : s ≡ t = cc in subst (λ (z : State R). HaveTypes W z.store z.operands (vals g.gives)) w k.operands
      given o t (leaving m) e = cc
