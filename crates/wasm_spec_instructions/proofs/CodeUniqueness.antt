-- A flat list is written for one structured code at most: the code is read back from it.
use Rattle.std.proofs.Common.{◌≡◌, refl, sym, ap, ◌∙◌, ℕ, true, List, [], ◌∷◌, ◌++◌, append_assoc}
use Rattle.wasm_operators.specs.Control as control
use Rattle.wasm_operators.specs.Control.{Block, Control}
use Rattle.wasm_operators.specs.Legacy as legacy
use Rattle.wasm_operators.specs.Legacy.{Legacy}
use Rattle.wasm_operators.specs.Instructions as instruction
use Rattle.wasm_operators.specs.Instructions.{Instruction}
use Rattle.wasm_spec_steps.specs.Shapes.{shape_of}
use Rattle.wasm_spec_instructions.specs.Code.{Opening, a_block, a_loop, an_if, a_try, a_try_table, Handler, a_catch, a_catch_all, Code, done, simply, enclosing, choosing_between, handling, delegating_to, Handlers, last_handler, catch_before, written, handler_written, delegate_, else_, end_, flatten, flatten_handlers, and_then, is_simple, IsProper, AreProper}
use Rattle.wasm_spec_instructions.specs.Laws.{CodeIsUnique}
use Rattle.wasm_spec_instructions.proofs.Attempts.{no}

-- what ends a sequence, and what an instruction is
data Stop : Type 0 where
  at_end at_else : Stop
  at_handler : Handler → Stop
  at_delegate : ℕ → Stop

data Part : Type 0 where
  alone : Part
  opens : Opening → Part
  stops : Stop → Part

control_part : Control ℕ → Part
control_part (control.block b) = opens (a_block b)
control_part (control.loop b) = opens (a_loop b)
control_part (control.if_ b) = opens (an_if b)
control_part (control.try_table b cs) = opens (a_try_table b cs)
control_part control.else_ = stops at_else
control_part control.end_ = stops at_end
control_part _ = alone

legacy_part : Legacy ℕ → Part
legacy_part (legacy.try_ b) = opens (a_try b)
legacy_part (legacy.catch_ x) = stops (at_handler (a_catch x))
legacy_part legacy.catch_all = stops (at_handler a_catch_all)
legacy_part (legacy.delegate l) = stops (at_delegate l)
legacy_part _ = alone

part_of : Instruction ℕ → Part
part_of (instruction.control op) = control_part op
part_of (instruction.legacy op) = legacy_part op
part_of _ = alone

opening-part : (o : Opening) → part_of (written o) ≡ opens o
unfolding part_of control_part legacy_part
opening-part (a_block b) = refl
opening-part (a_loop b) = refl
opening-part (an_if b) = refl
opening-part (a_try b) = refl
opening-part (a_try_table b cs) = refl

handler-part : (x : Handler) → part_of (handler_written x) ≡ stops (at_handler x)
unfolding part_of legacy_part
handler-part (a_catch x) = refl
handler-part a_catch_all = refl

control-alone : (op : Control ℕ) → is_simple (shape_of (instruction.control op)) ≡ true → control_part op ≡ alone
unfolding control_part
control-alone (control.block b) e = no e
control-alone (control.loop b) e = no e
control-alone (control.if_ b) e = no e
control-alone (control.try_table b cs) e = no e
control-alone control.else_ e = no e
control-alone control.end_ e = no e
control-alone _ e = refl

legacy-alone : (op : Legacy ℕ) → is_simple (shape_of (instruction.legacy op)) ≡ true → legacy_part op ≡ alone
unfolding legacy_part
legacy-alone (legacy.try_ b) e = no e
legacy-alone (legacy.catch_ x) e = no e
legacy-alone legacy.catch_all e = no e
legacy-alone (legacy.delegate l) e = no e
legacy-alone _ e = refl

simple-alone : (i : Instruction ℕ) → is_simple (shape_of i) ≡ true → part_of i ≡ alone
unfolding part_of
simple-alone (instruction.control op) e = control-alone op e
simple-alone (instruction.legacy op) e = legacy-alone op e
simple-alone _ e = refl

-- code up to a stop, and what stands behind it; and the code of all of these
data Rest : Type 0 where
  nothing : Rest
  behind : Stop → Code → Rest → Rest

record Read : Type 0 where
  code : Code
  rest : Rest

record Gathered : Type 0 where
  handlers : Handlers
  after : Read

read_as : Code → Rest → Read
read_as c r = record { code = c; rest = r }

before : Code → Read → Read
before c p = record { code = and_then c p.code; rest = p.rest }

gather_more : ℕ → Code → Gathered → Gathered
gather_more x c g = record { handlers = catch_before x c g.handlers; after = g.after }

-- handlers, up to their `end`
gather : Rest → Gathered
gather (behind (at_handler h) d (behind at_end c rest)) = record { handlers = last_handler h d; after = read_as c rest }
gather (behind (at_handler (a_catch x)) d rest) = gather_more x d (gather rest)
gather _ = record { handlers = last_handler a_catch_all done; after = read_as done nothing }

handled : Block ℕ → Code → Gathered → Read
handled g b x = record { code = handling g b x.handlers x.after.code; rest = x.after.rest }

open_block : Opening → Code → Rest → Read
open_block o b (behind at_end c rest) = read_as (enclosing o b c) rest
open_block (an_if g) b (behind at_else d (behind at_end c rest)) = read_as (choosing_between g b d c) rest
open_block (a_try g) b (behind (at_delegate l) c rest) = read_as (delegating_to l g b c) rest
open_block (a_try g) b (behind (at_handler h) d rest) = handled g b (gather (behind (at_handler h) d rest))
open_block _ b _ = read_as done nothing

place : Part → Instruction ℕ → Read → Read
place alone i p = read_as (simply i p.code) p.rest
place (opens o) i p = open_block o p.code p.rest
place (stops s) i p = read_as done (behind s p.code p.rest)

read : List (Instruction ℕ) → Read
read [] = read_as done nothing
read (i ∷ ops) = place (part_of i) i (read ops)

then_done : (c : Code) → and_then c done ≡ c
then_done done = refl
then_done (simply i c) = ap (simply i) (then_done c)
then_done (enclosing o b c) = ap (enclosing o b) (then_done c)
then_done (choosing_between g b d c) = ap (choosing_between g b d) (then_done c)
then_done (handling g b hs c) = ap (handling g b hs) (then_done c)
then_done (delegating_to l g b c) = ap (delegating_to l g b) (then_done c)

-- handlers as they are read, before what follows their `end`
listed : Handlers → Read → Rest
listed (last_handler h b) p = behind (at_handler h) b (behind at_end p.code p.rest)
listed (catch_before x b hs) p = behind (at_handler (a_catch x)) b (listed hs p)

gather-listed : (hs : Handlers) (p : Read) → gather (listed hs p) ≡ record { handlers = hs; after = p }
unfolding gather listed read_as gather_more
gather-listed (last_handler h b) p = refl
gather-listed (catch_before x b (last_handler h d)) p = refl
gather-listed (catch_before x b (catch_before y d hs)) p = ap (gather_more x b) (gather-listed (catch_before y d hs) p)

try-listed : (g : Block ℕ) (b : Code) (hs : Handlers) (p : Read) → open_block (a_try g) b (listed hs p) ≡ read_as (handling g b hs p.code) p.rest
unfolding open_block listed handled read_as
try-listed g b (last_handler h d) p = ap (handled g b) (gather-listed (last_handler h d) p)
try-listed g b (catch_before x d hs) p = ap (handled g b) (gather-listed (catch_before x d hs) p)

-- a stop, and code before it
stopped : Stop → Read → Read
stopped s p = read_as done (behind s p.code p.rest)

ended : Code → Stop → Read → Read
ended c s p = read_as c (behind s p.code p.rest)

before-stopped : (c : Code) (s : Stop) (p : Read) → before c (stopped s p) ≡ ended c s p
unfolding before stopped ended read_as
before-stopped c s p = λ i. record { code = then_done c i; rest = behind s p.code p.rest }

opened : (o : Opening) (p : Read) → place (part_of (written o)) (written o) p ≡ open_block o p.code p.rest
unfolding place
opened o p = ap (λ (x : Part). place x (written o) p) (opening-part o)

handler-read : (x : Handler) (ops : List (Instruction ℕ)) → read (handler_written x ∷ ops) ≡ stopped (at_handler x) (read ops)
unfolding read place stopped
handler-read x ops = ap (λ (z : Part). place z (handler_written x) (read ops)) (handler-part x)

abbrev ReadBack : Code → Type 0
ReadBack c = (ops : List (Instruction ℕ)) → read (flatten c ++ ops) ≡ before c (read ops)

abbrev HandlersReadBack : Handlers → Type 0
HandlersReadBack hs = (ops : List (Instruction ℕ)) → read (flatten_handlers hs ++ (end_ ∷ ops)) ≡ read_as done (listed hs (read ops))

simply-back : (i : Instruction ℕ) (c : Code) → is_simple (shape_of i) ≡ true → ReadBack c → ReadBack (simply i c)
unfolding read place before read_as
simply-back i c w h ops = ap (λ (x : Part). place x i (read (flatten c ++ ops))) (simple-alone i w) ∙ (λ j. read_as (simply i (h ops j).code) (h ops j).rest)

-- a sequence up to its `end`
end-back : (b c : Code) → ReadBack b → ReadBack c → (ops : List (Instruction ℕ)) → read ((flatten b ++ (end_ ∷ flatten c)) ++ ops) ≡ ended b at_end (before c (read ops))
unfolding read place part_of control_part stopped
end-back b c hb hc ops =
    ap read (append_assoc (flatten b) (end_ ∷ flatten c) ops) ∙ hb (end_ ∷ (flatten c ++ ops)) ∙ ap (λ (p : Read). before b (stopped at_end p)) (hc ops) ∙ before-stopped b at_end (before c (read ops))

enclosing-back : (o : Opening) (b c : Code) → ReadBack b → ReadBack c → ReadBack (enclosing o b c)
unfolding read open_block ended before read_as
enclosing-back o b c hb hc ops = opened o (read ((flatten b ++ (end_ ∷ flatten c)) ++ ops)) ∙ ap (λ (p : Read). open_block o p.code p.rest) (end-back b c hb hc ops)

choosing-back : (g : Block ℕ) (b d c : Code) → ReadBack b → ReadBack d → ReadBack c → ReadBack (choosing_between g b d c)
unfolding read place part_of control_part stopped open_block ended before read_as
choosing-back g b d c hb hd hc ops =
    opened (an_if g) (read ((flatten b ++ (else_ ∷ (flatten d ++ (end_ ∷ flatten c)))) ++ ops))
    ∙ ap (λ (p : Read). open_block (an_if g) p.code p.rest)
    (ap read (append_assoc (flatten b) (else_ ∷ (flatten d ++ (end_ ∷ flatten c))) ops)
    ∙ hb (else_ ∷ ((flatten d ++ (end_ ∷ flatten c)) ++ ops))
    ∙ ap (λ (p : Read). before b (stopped at_else p)) (end-back d c hd hc ops)
    ∙ before-stopped b at_else (ended d at_end (before c (read ops))))

handling-back : (g : Block ℕ) (b : Code) (hs : Handlers) (c : Code) → ReadBack b → HandlersReadBack hs → ReadBack c → ReadBack (handling g b hs c)
unfolding read before read_as
handling-back g b hs c hb hh hc ops =
    opened (a_try g) (read ((flatten b ++ (flatten_handlers hs ++ (end_ ∷ flatten c))) ++ ops))
    ∙ ap (λ (p : Read). open_block (a_try g) p.code p.rest)
    (ap read (append_assoc (flatten b) (flatten_handlers hs ++ (end_ ∷ flatten c)) ops)
    ∙ hb ((flatten_handlers hs ++ (end_ ∷ flatten c)) ++ ops)
    ∙ ap (before b) (ap read (append_assoc (flatten_handlers hs) (end_ ∷ flatten c) ops) ∙ hh (flatten c ++ ops))
    ∙ (λ i. record { code = then_done b i; rest = listed hs (hc ops i) }))
    ∙ try-listed g b hs (before c (read ops))

delegating-back : (l : ℕ) (g : Block ℕ) (b c : Code) → ReadBack b → ReadBack c → ReadBack (delegating_to l g b c)
unfolding read place part_of legacy_part stopped open_block ended before read_as
delegating-back l g b c hb hc ops =
    opened (a_try g) (read ((flatten b ++ (delegate_ l ∷ flatten c)) ++ ops))
    ∙ ap (λ (p : Read). open_block (a_try g) p.code p.rest)
    (ap read (append_assoc (flatten b) (delegate_ l ∷ flatten c) ops)
    ∙ hb (delegate_ l ∷ (flatten c ++ ops))
    ∙ ap (λ (p : Read). before b (stopped (at_delegate l) p)) (hc ops)
    ∙ before-stopped b (at_delegate l) (before c (read ops)))

last-back : (h : Handler) (b : Code) → ReadBack b → HandlersReadBack (last_handler h b)
unfolding read place part_of control_part stopped ended listed read_as
last-back h b hb ops =
    handler-read h (flatten b ++ (end_ ∷ ops)) ∙ ap (stopped (at_handler h)) (hb (end_ ∷ ops) ∙ before-stopped b at_end (read ops))

before-back : (x : ℕ) (b : Code) (hs : Handlers) → ReadBack b → HandlersReadBack hs → HandlersReadBack (catch_before x b hs)
unfolding read before stopped listed read_as
before-back x b hs hb hh ops =
    handler-read (a_catch x) ((flatten b ++ flatten_handlers hs) ++ (end_ ∷ ops))
    ∙ ap (stopped (at_handler (a_catch x)))
    (ap read (append_assoc (flatten b) (flatten_handlers hs) (end_ ∷ ops)) ∙ hb (flatten_handlers hs ++ (end_ ∷ ops)) ∙ ap (before b) (hh ops) ∙ (λ i. record { code = then_done b i; rest = listed hs (read ops) }))

done-back : ReadBack done
unfolding before
done-back ops = refl

mutual
  read-back : (c : Code) → IsProper c → ReadBack c
  read-back done w = done-back
  read-back (simply i c) w = simply-back i c w.0 (read-back c w.1)
  read-back (enclosing o b c) w = enclosing-back o b c (read-back b w.0) (read-back c w.1)
  read-back (choosing_between g b d c) w = choosing-back g b d c (read-back b w.0) (read-back d w.1) (read-back c w.2)
  read-back (handling g b hs c) w = handling-back g b hs c (read-back b w.0) (handlers-back hs w.1) (read-back c w.2)
  read-back (delegating_to l g b c) w = delegating-back l g b c (read-back b w.0) (read-back c w.1)

  handlers-back : (hs : Handlers) → AreProper hs → HandlersReadBack hs
  handlers-back (last_handler h b) w = last-back h b (read-back b w)
  handlers-back (catch_before x b hs) w = before-back x b hs (read-back b w.0) (handlers-back hs w.1)

code_of : Read → Code
code_of p = p.code

whole : (c : Code) → IsProper c → code_of (read (flatten c ++ (end_ ∷ []))) ≡ c
unfolding code_of before read place part_of control_part read_as
whole c w = ap code_of (read-back c w (end_ ∷ [])) ∙ then_done c

pub code_is_unique : CodeIsUnique
code_is_unique ops c d a b = sym (whole c a.is_proper) ∙ ap (λ (xs : List (Instruction ℕ)). code_of (read xs)) (sym a.is_written ∙ b.is_written) ∙ whole d b.is_proper
