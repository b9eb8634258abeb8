-- The way through the bytes finds bodies, and all of them.
use Rattle.std.proofs.Common.{◌≡◌, ◌≤◌, ◌<◌, ◌+◌, ◌==◌, ◌∙◌, refl, sym, ap, subst, ℕ, zero, suc, Bool, true, false, List, [], ◌∷◌, ◌++◌, length, replicate, leb, if◌then◌else◌, Option, Some, None, append_assoc, length-append, arith}
use Rattle.std.specs.Option.{option_map, option_and_then}
use Rattle.std.proofs.lemmas.Bool.{leb-true, eqb-true}
use Rattle.std.proofs.lemmas.List.{length-replicate}
use Rattle.wasm_spec.specs.Syntax.{Val}
use Rattle.wasm_spec.specs.Features.{Features}
use Rattle.wasm_spec.specs.Values.{u32_at, many_at, list_at}
use Rattle.wasm_spec.specs.MatchingTests.{World}
use Rattle.wasm_spec.proofs.LawSet as reading
use Rattle.wasm_operators.specs.Instructions.{Instruction, instruction_at}
use Rattle.wasm_operators.proofs.Fronts.{instruction-reads}
use Rattle.wasm_spec_rules.specs.Attempts.{◌>>=◌}
use Rattle.wasm_spec_rules.specs.Limits.{most_locals}
use Rattle.wasm_spec_steps.specs.Bodies.{Local, Surroundings}
use Rattle.wasm_spec_steps.specs.Machine.{Frame, State}
use Rattle.wasm_spec_steps.specs.Steps.{step_in, steps_in, is_open, is_finished}
use Rattle.wasm_spec_steps.specs.Sequences.{Are}
use Rattle.wasm_validator_func.specs.Bodies.{more_locals, declared_from, locals_from, typed_from, instructions_from, where_all_is_read, body_from, FindsBodies, BodiesAreFound}
use Rattle.wasm_spec_steps.specs.FunctionBodies.{Declaration, declaration_at, local_declared, type_of, declared_locals, with_locals, IsBody}
use Rattle.wasm_validator_func.proofs.LocalDeclarations.{more_of, room, on_from, then_more}
use Rattle.wasm_validator_func.proofs.Machine.{here, stepped_from, read_from, one_step, done}

none_after : {X : Type 0} (xs : List X) → xs ++ [] ≡ xs
none_after [] = refl
none_after (x ∷ xs) = ap (λ us. x ∷ us) (none_after xs)

-- what two attempts have in common
abbrev first_or : {X Y : Type 0} → X → Option (X × Y) → X
first_or x None = x
first_or x (Some p) = p.0

abbrev second_or : {X Y : Type 0} → Y → Option (X × Y) → Y
second_or y None = y
second_or y (Some p) = p.1

abbrev value_or : {X : Type 0} → X → Option X → X
value_or x None = x
value_or x (Some y) = y

module _ {R : Type 0} (F : Features) (types : List R) where
  abbrev of_declaration : Declaration → Val R → List (Local R)
  of_declaration d v = replicate d.count (local_declared v)

  record More (d : Declaration) (ls ks : List (Local R)) : Type 0 where
    content : Val R
    typed : type_of F types d.content ≡ Some content
    is : ks ≡ ls ++ of_declaration d content
    few : length ls + d.count ≤ most_locals

  more_if : (d : Declaration) (ls ks : List (Local R)) (v : Val R) (b : Bool) → leb (length ls + d.count) most_locals ≡ b → type_of F types d.content ≡ Some v
      → (if b then Some (ls ++ of_declaration d v) else None) ≡ Some ks → More d ls ks
  more_if d ls ks v true b e f = record { content = v; typed = e; is = sym (ap (value_or ks) f); few = leb-true (length ls + d.count) most_locals b }
  more_if d ls ks v false b e f = absurd cc

  more_by : (d : Declaration) (ls ks : List (Local R)) (o : Option (Val R)) → type_of F types d.content ≡ o → more_of d.count ls o ≡ Some ks → More d ls ks
  more_by d ls ks None e f = absurd cc
  more_by d ls ks (Some v) e f = more_if d ls ks v (leb (length ls + d.count) most_locals) refl e f

  count_of : (d : Declaration) (ls ks : List (Local R)) (v : Val R) → ks ≡ ls ++ of_declaration d v → length ks ≡ length ls + d.count
  count_of d ls ks v e = ap length e ∙ length-append ls (of_declaration d v) ∙ ap (λ k. length ls + k) (length-replicate d.count (local_declared v))

  record Found (n : ℕ) (ls ks : List (Local R)) (bytes more : List ℕ) : Type 0 where
    declarations : List Declaration
    locals : List (Local R)
    read : many_at declaration_at n bytes ≡ Some (declarations, more)
    declared : declared_locals F types declarations ≡ Some locals
    all : ks ≡ ls ++ locals
    few : length ls ≤ most_locals → length ks ≤ most_locals

  abbrev with_item : Declaration → Option (List Declaration × List ℕ) → Option (List Declaration × List ℕ)
  with_item d o = option_map (λ xs. (d ∷ xs.0, xs.1)) o

  abbrev items_behind : ℕ → Option (Declaration × List ℕ) → Option (List Declaration × List ℕ)
  items_behind n o = option_and_then (λ x. with_item x.0 (many_at declaration_at n x.1)) o

  abbrev with_locals_of : Declaration → Val R → Option (List (Local R)) → Option (List (Local R))
  with_locals_of d v o = option_map (λ ls. of_declaration d v ++ ls) o

  abbrev locals_behind : Declaration → List Declaration → Option (Val R) → Option (List (Local R))
  locals_behind d ds o = option_and_then (λ v. with_locals_of d v (declared_locals F types ds)) o

  found_one : (n : ℕ) (d : Declaration) (ls js ks : List (Local R)) (bytes next more : List ℕ) → declaration_at bytes ≡ Some (d, next) → More d ls js → Found n js ks next more → Found (suc n) ls ks bytes more
  found_one n d ls js ks bytes next more e m x =
      record {
        declarations = d ∷ x.declarations;
        locals = of_declaration d m.content ++ x.locals;
        read = ap (items_behind n) e ∙ ap (with_item d) x.read;
        declared = ap (locals_behind d x.declarations) m.typed ∙ ap (with_locals_of d m.content) x.declared;
        all = x.all ∙ ap (λ us. us ++ x.locals) m.is ∙ append_assoc ls (of_declaration d m.content) x.locals;
        few = λ h. x.few (let c : length js ≡ length ls + d.count = count_of d ls js m.content m.is in omega (arith, c, m.few));
      }

  abbrev Finds : ℕ → Type 0
  Finds n = (ls ks : List (Local R)) (bytes more : List ℕ) → declared_from F types n ls bytes ≡ Some (ks, more) → Found n ls ks bytes more

  found_none : (ls ks : List (Local R)) (bytes more : List ℕ) → declared_from F types 0 ls bytes ≡ Some (ks, more) → Found 0 ls ks bytes more
  found_none ls ks bytes more e =
      let same : ls ≡ ks = ap (first_or ls) e in
      record {
        declarations = [];
        locals = [];
        read = ap (λ b. Some ([], b)) (ap (second_or bytes) e);
        declared = refl;
        all = sym same ∙ sym (none_after ls);
        few = λ h. subst (λ k. length k ≤ most_locals) same h;
      }

  found_more : (n : ℕ) → Finds n → (d : Declaration) (ls ks : List (Local R)) (bytes next more : List ℕ) (o : Option (List (Local R))) → declaration_at bytes ≡ Some (d, next)
      → more_locals F types d ls ≡ o → on_from F types n next o ≡ Some (ks, more) → Found (suc n) ls ks bytes more
  found_more n found d ls ks bytes next more None e f g = absurd cc
  found_more n found d ls ks bytes next more (Some js) e f g = found_one n d ls js ks bytes next more e (more_by d ls js (type_of F types d.content) refl f) (found js ks next more g)

  found_read : (n : ℕ) → Finds n → (ls ks : List (Local R)) (bytes more : List ℕ) (o : Option (Declaration × List ℕ)) → declaration_at bytes ≡ o
      → option_and_then (λ d. on_from F types n d.1 (more_locals F types d.0 ls)) o ≡ Some (ks, more) → Found (suc n) ls ks bytes more
  found_read n found ls ks bytes more None e f = absurd cc
  found_read n found ls ks bytes more (Some d) e f = found_more n found d.0 ls ks bytes d.1 more (more_locals F types d.0 ls) e refl f

  found_by : (n : ℕ) → Finds n
  found_by zero = λ ls ks bytes more e. found_none ls ks bytes more e
  found_by (suc n) = λ ls ks bytes more e. found_read n (found_by n) ls ks bytes more (declaration_at bytes) refl e

  abbrev Reaches : ℕ → Type 0
  Reaches n = (ds : List Declaration) (xs ls : List (Local R)) (bytes more : List ℕ) → many_at declaration_at n bytes ≡ Some (ds, more) → declared_locals F types ds ≡ Some xs
      → length (ls ++ xs) ≤ most_locals → declared_from F types n ls bytes ≡ Some (ls ++ xs, more)

  reached_none : (ds : List Declaration) (xs ls : List (Local R)) (bytes more : List ℕ) → many_at declaration_at 0 bytes ≡ Some (ds, more) → declared_locals F types ds ≡ Some xs
      → declared_from F types 0 ls bytes ≡ Some (ls ++ xs, more)
  reached_none [] xs ls bytes more e f =
      let same : ls ≡ ls ++ xs = sym (none_after ls) ∙ ap (λ us. ls ++ us) (ap (value_or xs) f) in
      let rest : bytes ≡ more = ap (second_or bytes) e in
      λ i. Some (same i, rest i)
  reached_none (d ∷ ds) xs ls bytes more e f = let apart : [] ≡ d ∷ ds = ap (first_or []) e in absurd cc

  sizes : (d : Declaration) (v : Val R) (ls ws xs : List (Local R)) → of_declaration d v ++ ws ≡ xs → length (ls ++ xs) ≡ length ls + (d.count + length ws)
  sizes d v ls ws xs e =
      length-append ls xs ∙ ap (λ k. length ls + k) (sym (ap length e) ∙ length-append (of_declaration d v) ws ∙ ap (λ k. k + length ws) (length-replicate d.count (local_declared v)))

  reached_one : (n : ℕ) → Reaches n → (d : Declaration) (ds : List Declaration) (v : Val R) (ls ws xs : List (Local R)) (bytes next more : List ℕ) → declaration_at bytes ≡ Some (d, next)
      → many_at declaration_at n next ≡ Some (ds, more) → type_of F types d.content ≡ Some v → declared_locals F types ds ≡ Some ws → of_declaration d v ++ ws ≡ xs → length (ls ++ xs) ≤ most_locals
      → declared_from F types (suc n) ls bytes ≡ Some (ls ++ xs, more)
  reached_one n reaches d ds v ls ws xs bytes next more e f g h k few =
      let size = sizes d v ls ws xs k in
      let regroup : (ls ++ of_declaration d v) ++ ws ≡ ls ++ xs = append_assoc ls (of_declaration d v) ws ∙ ap (λ us. ls ++ us) k in
      let enough : length ls + d.count ≤ most_locals = omega (arith, size, few) in
      let fits : length ((ls ++ of_declaration d v) ++ ws) ≤ most_locals = subst (λ us. length us ≤ most_locals) (sym regroup) few in
      let made : more_locals F types d ls ≡ Some (ls ++ of_declaration d v) = ap (more_of d.count ls) g ∙ room d.count ls v enough in
      then_more F types n ls bytes next d (Some (ls ++ of_declaration d v)) e made
      ∙ reaches ds ws (ls ++ of_declaration d v) next more f h fits
      ∙ ap (λ us. Some (us, more)) regroup

  reached_typed : (n : ℕ) → Reaches n → (d : Declaration) (ds : List Declaration) (ls xs : List (Local R)) (bytes next more : List ℕ) (o : Option (Val R)) (p : Option (List (Local R))) → declaration_at bytes ≡ Some (d, next)
      → many_at declaration_at n next ≡ Some (ds, more) → type_of F types d.content ≡ o → declared_locals F types ds ≡ p → option_and_then (λ v. with_locals_of d v p) o ≡ Some xs → length (ls ++ xs) ≤ most_locals
      → declared_from F types (suc n) ls bytes ≡ Some (ls ++ xs, more)
  reached_typed n reaches d ds ls xs bytes next more None p e f g h k few = absurd cc
  reached_typed n reaches d ds ls xs bytes next more (Some v) None e f g h k few = absurd cc
  reached_typed n reaches d ds ls xs bytes next more (Some v) (Some ws) e f g h k few =
      reached_one n reaches d ds v ls ws xs bytes next more e f g h (ap (value_or xs) k) few

  reached_items : (n : ℕ) → Reaches n → (d : Declaration) (ds : List Declaration) (ls xs : List (Local R)) (bytes next more : List ℕ) (o : Option (List Declaration × List ℕ)) → declaration_at bytes ≡ Some (d, next)
      → many_at declaration_at n next ≡ o → with_item d o ≡ Some (ds, more) → declared_locals F types ds ≡ Some xs → length (ls ++ xs) ≤ most_locals → declared_from F types (suc n) ls bytes ≡ Some (ls ++ xs, more)
  reached_items n reaches d ds ls xs bytes next more None e f g h few = absurd cc
  reached_items n reaches d ds ls xs bytes next more (Some y) e f g h few =
      let same : ds ≡ d ∷ y.0 = sym (ap (first_or ds) g) in
      let rest : y.1 ≡ more = ap (second_or more) g in
      reached_typed n reaches d y.0 ls xs bytes next more (type_of F types d.content) (declared_locals F types y.0) e (f ∙ ap (λ b. Some (y.0, b)) rest) refl refl
      (subst (λ us. declared_locals F types us ≡ Some xs) same h) few

  reached_read : (n : ℕ) → Reaches n → (ds : List Declaration) (ls xs : List (Local R)) (bytes more : List ℕ) (o : Option (Declaration × List ℕ)) → declaration_at bytes ≡ o
      → items_behind n o ≡ Some (ds, more) → declared_locals F types ds ≡ Some xs → length (ls ++ xs) ≤ most_locals → declared_from F types (suc n) ls bytes ≡ Some (ls ++ xs, more)
  reached_read n reaches ds ls xs bytes more None e f h few = absurd cc
  reached_read n reaches ds ls xs bytes more (Some d) e f h few = reached_items n reaches d.0 ds ls xs bytes d.1 more (many_at declaration_at n d.1) e refl f h few

  reached_by : (n : ℕ) → Reaches n
  reached_by zero = λ ds xs ls bytes more e f few. reached_none ds xs ls bytes more e f
  reached_by (suc n) = λ ds xs ls bytes more e f few. reached_read n (reached_by n) ds ls xs bytes more (declaration_at bytes) refl e f few

  -- lists of declarations
  record Listed (ls ks : List (Local R)) (bytes more : List ℕ) : Type 0 where
    declarations : List Declaration
    locals : List (Local R)
    listed : list_at declaration_at bytes ≡ Some (declarations, more)
    declared : declared_locals F types declarations ≡ Some locals
    all : ks ≡ ls ++ locals
    few : length ls ≤ most_locals → length ks ≤ most_locals

  abbrev counted_items : Option (ℕ × List ℕ) → Option (List Declaration × List ℕ)
  counted_items o = option_and_then (λ n. many_at declaration_at n.0 n.1) o

  abbrev counted_locals : List (Local R) → Option (ℕ × List ℕ) → Option (List (Local R) × List ℕ)
  counted_locals ls o = option_and_then (λ n. declared_from F types n.0 ls n.1) o

  listed_by : (ls ks : List (Local R)) (bytes more : List ℕ) (o : Option (ℕ × List ℕ)) → u32_at bytes ≡ o → counted_locals ls o ≡ Some (ks, more) → Listed ls ks bytes more
  listed_by ls ks bytes more None e f = absurd cc
  listed_by ls ks bytes more (Some n) e f =
      let x = found_by n.0 ls ks n.1 more f in
      record { declarations = x.declarations; locals = x.locals; listed = ap counted_items e ∙ x.read; declared = x.declared; all = x.all; few = x.few }

  listed : (ls ks : List (Local R)) (bytes more : List ℕ) → locals_from F types ls bytes ≡ Some (ks, more) → Listed ls ks bytes more
  unfolding locals_from
  listed ls ks bytes more e = listed_by ls ks bytes more (u32_at bytes) refl e

  reached_list_by : (ds : List Declaration) (xs ls : List (Local R)) (bytes more : List ℕ) (o : Option (ℕ × List ℕ)) → u32_at bytes ≡ o → counted_items o ≡ Some (ds, more)
      → declared_locals F types ds ≡ Some xs → length (ls ++ xs) ≤ most_locals → counted_locals ls (u32_at bytes) ≡ Some (ls ++ xs, more)
  reached_list_by ds xs ls bytes more None e f h few = absurd cc
  reached_list_by ds xs ls bytes more (Some n) e f h few = ap (counted_locals ls) e ∙ reached_by n.0 ds xs ls n.1 more f h few

  reached_list : (ds : List Declaration) (xs ls : List (Local R)) (bytes more : List ℕ) → list_at declaration_at bytes ≡ Some (ds, more) → declared_locals F types ds ≡ Some xs → length (ls ++ xs) ≤ most_locals
      → locals_from F types ls bytes ≡ Some (ls ++ xs, more)
  unfolding locals_from
  reached_list ds xs ls bytes more e f few = reached_list_by ds xs ls bytes more (u32_at bytes) refl e f few

-- instructions
module _ {R : Type 0} (W : World R) (B : Surroundings R) where
  record Typed (s : State R) (bytes : List ℕ) (t : State R) (more : List ℕ) : Type 0 where
    instructions : List (Instruction ℕ)
    written : Are instructions bytes more
    typed : steps_in W B instructions s ≡ Some t
    finished : is_finished t ≡ true

  behind_one : (i : Instruction ℕ) (s u t : State R) (bytes next more : List ℕ) → instruction_at (λ n. n) bytes ≡ Some (i, next) → step_in W B i s ≡ Some u → Typed u next t more → Typed s bytes t more
  behind_one i s u t bytes next more e d x =
      record { instructions = i ∷ x.instructions; written = (next, e, x.written); typed = ap (λ o. o >>= steps_in W B x.instructions) d ∙ x.typed; finished = x.finished }

  nothing_left : (s t : State R) (bytes more : List ℕ) → is_finished s ≡ true → here W B s bytes ≡ here W B t more → Typed s bytes t more
  nothing_left s t bytes more finished e =
      let same : s ≡ t = ap (first_or s) e in
      let rest : bytes ≡ more = ap (second_or bytes) e in
      record { instructions = []; written = rest; typed = ap Some same; finished = subst (λ x. is_finished x ≡ true) same finished }

  abbrev Types : ℕ → Type 0
  Types most = (s t : State R) (bytes more : List ℕ) → typed_from W B most s bytes ≡ Some (t, more) → Typed s bytes t more

  stepped_on : (m : ℕ) → Types m → (i : Instruction ℕ) (s t : State R) (bytes next more : List ℕ) (o : Option (State R)) → instruction_at (λ n. n) bytes ≡ Some (i, next)
      → step_in W B i s ≡ o → stepped_from W B m next o ≡ Some (t, more) → Typed s bytes t more
  stepped_on m found i s t bytes next more None e d f = absurd cc
  stepped_on m found i s t bytes next more (Some u) e d f = behind_one i s u t bytes next more e d (found u t next more f)

  read_on : (m : ℕ) → Types m → (s t : State R) (bytes more : List ℕ) (o : Option (Instruction ℕ × List ℕ)) → instruction_at (λ n. n) bytes ≡ o
      → read_from W B m s o ≡ Some (t, more) → Typed s bytes t more
  read_on m found s t bytes more None e f = absurd cc
  read_on m found s t bytes more (Some i) e f = stepped_on m found i.0 s t bytes i.1 more (step_in W B i.0 s) e refl f

  zero_by : (s t : State R) (bytes more : List ℕ) (b : Bool) → is_finished s ≡ b → (if b then here W B s bytes else None) ≡ Some (t, more) → Typed s bytes t more
  zero_by s t bytes more true c f = nothing_left s t bytes more c f
  zero_by s t bytes more false c f = absurd cc

  suc_by : (m : ℕ) → Types m → (s t : State R) (bytes more : List ℕ) (b : Bool) → is_finished s ≡ b
      → (if b then here W B s bytes else read_from W B m s (instruction_at (λ n. n) bytes)) ≡ Some (t, more) → Typed s bytes t more
  suc_by m found s t bytes more true c f = nothing_left s t bytes more c f
  suc_by m found s t bytes more false c f = read_on m found s t bytes more (instruction_at (λ n. n) bytes) refl f

  typed_by : (most : ℕ) → Types most
  typed_by zero = λ s t bytes more e. zero_by s t bytes more (is_finished s) refl e
  typed_by (suc m) = λ s t bytes more e. suc_by m (typed_by m) s t bytes more (is_finished s) refl e

  typed : (s t : State R) (bytes more : List ℕ) → instructions_from W B s bytes ≡ Some (t, more) → Typed s bytes t more
  unfolding instructions_from
  typed s t bytes more e = typed_by (length bytes) s t bytes more e

  none_open : (fs : List (Frame R)) → (elim fs [ [] ↦ true | _ ↦ false ]) ≡ true → (elim fs [ [] ↦ false | _ ↦ true ]) ≡ false
  none_open [] e = refl
  none_open (f ∷ fs) e = absurd cc

  not_closed : (b : Bool) (i : Instruction ℕ) (s u : State R) → is_finished s ≡ b → step_in W B i s ≡ Some u → b ≡ false
  not_closed false i s u c e = refl
  not_closed true i s u c e = let shut : is_open s ≡ false = none_open s.frames c in let none : step_in W B i s ≡ None = rw shut refl in absurd cc

  abbrev First : ℕ → Type 0
  First most = (ops : List (Instruction ℕ)) (s t : State R) (bytes more : List ℕ) → length bytes ≤ most → Are ops bytes more
      → steps_in W B ops s ≡ Some t → is_finished t ≡ true → typed_from W B most s bytes ≡ Some (t, more)

  shorter : (bytes next : List ℕ) (i : Instruction ℕ) → instruction_at (λ n. n) bytes ≡ Some (i, next) → length next < length bytes
  shorter bytes next i e = (reading.goes_on (instruction_at (λ n. n)) (λ more. instruction-reads {more = more} (λ n. n)) bytes i next e).shorter

  ended_by : (most : ℕ) (s t : State R) (bytes more : List ℕ) → bytes ≡ more → Some s ≡ Some t → is_finished t ≡ true → typed_from W B most s bytes ≡ Some (t, more)
  ended_by most s t bytes more e f c =
      let same : s ≡ t = ap (value_or s) f in
      done W B most s bytes (subst (λ x. is_finished x ≡ true) (sym same) c) ∙ (λ i. Some (same i, e i))

  stepped_by : (m : ℕ) → First m → (op : Instruction ℕ) (ops : List (Instruction ℕ)) (s t : State R) (bytes next more : List ℕ) (o : Option (State R)) → step_in W B op s ≡ o
      → length bytes ≤ suc m → instruction_at (λ n. n) bytes ≡ Some (op, next) → Are ops next more → (o >>= steps_in W B ops) ≡ Some t → is_finished t ≡ true
      → typed_from W B (suc m) s bytes ≡ Some (t, more)
  stepped_by m first op ops s t bytes next more None d enough e are f c = absurd cc
  stepped_by m first op ops s t bytes next more (Some u) d enough e are f c =
      let less = shorter bytes next op e in
      one_step W B m s u bytes next op (not_closed (is_finished s) op s u refl d) e d ∙ first ops u t next more (omega (arith, less, enough)) are f c

  all_by : (most : ℕ) → First most
  all_by most [] s t bytes more enough are f c = ended_by most s t bytes more are f c
  all_by zero (op ∷ ops) s t bytes more enough are f c = let less = shorter bytes are.0 op are.1 in absurd (omega (arith, less, enough))
  all_by (suc m) (op ∷ ops) s t bytes more enough are f c = stepped_by m (all_by m) op ops s t bytes are.0 more (step_in W B op s) refl enough are.1 are.2 f c

  reached : (ops : List (Instruction ℕ)) (s t : State R) (bytes more : List ℕ) → Are ops bytes more → steps_in W B ops s ≡ Some t → is_finished t ≡ true → instructions_from W B s bytes ≡ Some (t, more)
  unfolding instructions_from
  reached ops s t bytes more are f c = all_by (length bytes) ops s t bytes more (omega arith) are f c

-- bodies
empty_by : (xs : List ℕ) → length xs ≡ 0 → xs ≡ []
empty_by [] e = refl
empty_by (x ∷ xs) e = absurd (omega arith)

module _ {R : Type 0} (W : World R) (B : Surroundings R) where
  abbrev instructions_behind : State R → Option (List (Local R) × List ℕ) → Option (List (Local R) × State R)
  instructions_behind s o = option_and_then (λ d. option_and_then (where_all_is_read d.0) (instructions_from W (with_locals B d.0) s d.1)) o

  abbrev kept_if : Bool → List (Local R) → State R → Option (List (Local R) × State R)
  kept_if b ls u = if b then Some (ls, u) else None

  body_of : (s t : State R) (bytes behind more : List ℕ) (ls : List (Local R)) → length B.locals ≤ most_locals → Listed B.features B.context.types B.locals ls bytes behind
      → Typed W (with_locals B ls) s behind t more → more ≡ [] → IsBody W B s bytes ls t
  body_of s t bytes behind more ls h x y e =
      record {
        declarations = x.declarations;
        locals = x.locals;
        instructions = y.instructions;
        behind = behind;
        listed = x.listed;
        declared = x.declared;
        all = x.all;
        few = x.few h;
        written = subst (λ us. Are y.instructions behind us) e y.written;
        typed = y.typed;
        finished = y.finished;
      }

  read_by : (s t u : State R) (bytes behind more : List ℕ) (ls ks : List (Local R)) (b : Bool) → (length more == 0) ≡ b → length B.locals ≤ most_locals → Listed B.features B.context.types B.locals ks bytes behind
      → Typed W (with_locals B ks) s behind u more → kept_if b ks u ≡ Some (ls, t) → IsBody W B s bytes ls t
  read_by s t u bytes behind more ls ks true c h x y e =
      let same : ks ≡ ls = ap (first_or ks) e in
      let state : u ≡ t = ap (second_or u) e in
      subst (λ us. IsBody W B s bytes us t) same (subst (λ v. IsBody W B s bytes ks v) state (body_of s u bytes behind more ks h x y (empty_by more (eqb-true (length more) 0 c))))
  read_by s t u bytes behind more ls ks false c h x y e = absurd cc

  typed_of : (s t : State R) (bytes behind : List ℕ) (ls ks : List (Local R)) (o : Option (State R × List ℕ)) → instructions_from W (with_locals B ks) s behind ≡ o → length B.locals ≤ most_locals
      → Listed B.features B.context.types B.locals ks bytes behind → option_and_then (where_all_is_read ks) o ≡ Some (ls, t) → IsBody W B s bytes ls t
  typed_of s t bytes behind ls ks None e h x f = absurd cc
  typed_of s t bytes behind ls ks (Some y) e h x f = read_by s t y.0 bytes behind y.1 ls ks (length y.1 == 0) refl h x (typed W (with_locals B ks) s y.0 behind y.1 e) f

  locals_by : (s t : State R) (bytes : List ℕ) (ls : List (Local R)) (o : Option (List (Local R) × List ℕ)) → locals_from B.features B.context.types B.locals bytes ≡ o → length B.locals ≤ most_locals
      → instructions_behind s o ≡ Some (ls, t) → IsBody W B s bytes ls t
  locals_by s t bytes ls None e h f = absurd cc
  locals_by s t bytes ls (Some d) e h f =
      typed_of s t bytes d.1 ls d.0 (instructions_from W (with_locals B d.0) s d.1) refl h (listed B.features B.context.types B.locals d.0 bytes d.1 e) f

  pub finds : FindsBodies W B
  unfolding body_from
  finds s bytes ls t h e = locals_by s t bytes ls (locals_from B.features B.context.types B.locals bytes) refl h e

  pub are_found : BodiesAreFound W B
  unfolding body_from
  are_found s bytes ls t x =
      let fits : length (B.locals ++ x.locals) ≤ most_locals = subst (λ us. length us ≤ most_locals) x.all x.few in
      let first : locals_from B.features B.context.types B.locals bytes ≡ Some (ls, x.behind) =
      reached_list B.features B.context.types x.declarations x.locals B.locals bytes x.behind x.listed x.declared fits ∙ ap (λ us. Some (us, x.behind)) (sym x.all) in
      ap (instructions_behind s) first ∙ ap (option_and_then (where_all_is_read ls)) (reached W (with_locals B ls) x.instructions s t x.behind [] x.written x.typed x.finished)
