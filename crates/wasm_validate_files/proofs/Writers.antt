-- What a formatter has written, of which some calls wrote the parts with escapes.
use Rattle.std.proofs.Common.{ℕ, ◌≡◌, List, [], ◌∷◌, ◌++◌, Option, Some, None, option_map, Result, Ok, Err, IsOk, OnOk, IsUtf8, refl, sym, ap, subst, ◌∙◌}
use Rattle.std.proofs.lemmas.Bool.{false≢true}
use Rattle.std.proofs.Output.{writes_in_calls_nil, has_written_append, has_written_of_eq}
use Rattle.std.specs.List.{FoldsTo, concat}
use Rattle.std.specs.Fmt.{WritesInCalls, WritesText, HasWritten, DisplaysOnOk, IsPlainFormatter}
use Rattle.std.specs.declared.fmt.Formatter.{Formatter}
use Rattle.std.specs.declared.fmt.Error.{Error}
use Rattle.wasm_validate_files.specs.Printable.{printable}
use Rattle.wasm_validate_files.proofs.Escapes.{printable_append, printable_empty}

if_ok : {T E : Type 0} (r : Result T E) (P : Type 0) → OnOk r P → IsOk r → P
if_ok (Ok x) P h ok = h
if_ok (Err e) P h ok = absurd (false≢true ok)

module _ {W : Type 0} (took : W → List ℕ → W → Type 0) where
  -- what a call does to a formatter
  abbrev pub Took : Formatter W → List ℕ → Formatter W → Type 0
  Took s bs t = IsPlainFormatter s → HasWritten took s bs t

  nothing : (f g : Formatter W) → f ≡ g → IsPlainFormatter f → HasWritten took f [] g
  nothing f g e plain = subst (HasWritten took f []) e (record { wrote = writes_in_calls_nil took f.writer; plain = plain })

  in_all : (f : Formatter W) (parts : List (List ℕ)) (g : Formatter W) → FoldsTo Took f parts g → IsPlainFormatter f → HasWritten took f (concat parts) g
  in_all f [] g e plain = nothing f g e plain
  in_all f (x ∷ xs) g calls plain =
      let here = calls.1 plain in
      has_written_append took f x calls.0 (concat xs) g here (in_all calls.0 xs g calls.2 here.plain)

  pub in_calls : (f : Formatter W) (bs : List ℕ) (g : Formatter W) → WritesInCalls Took f bs g → IsPlainFormatter f → HasWritten took f bs g
  in_calls f bs g w plain = has_written_of_eq took f (concat w.parts) bs g w.whole (in_all f w.parts g w.calls plain)

  -- The same where a state around the formatter takes each text with escapes, and goes on naming the same formatter.
  module _ {S N : Type 0} (takes : S → List ℕ → S → Type 0) (inner : S → Formatter W) (name : S → N)
      (given : (s t : S) (bs : List ℕ) → takes s bs t → IsUtf8 bs × (name t ≡ name s) × WritesInCalls Took (inner s) (printable bs) (inner t)) where
    same_name : (s : S) (parts : List (List ℕ)) (t : S) → FoldsTo takes s parts t → name t ≡ name s
    same_name s [] t e = sym (ap name e)
    same_name s (x ∷ xs) t calls = same_name calls.0 xs t calls.2 ∙ (given s calls.0 x calls.1).1

    with_escapes : (s : S) (parts : List (List ℕ)) (t : S) → FoldsTo takes s parts t → IsPlainFormatter (inner s) → HasWritten took (inner s) (printable (concat parts)) (inner t)
    with_escapes s [] t e plain = has_written_of_eq took (inner s) [] (printable []) (inner t) (sym (printable_empty [] refl)) (nothing (inner s) (inner t) (ap inner e) plain)
    with_escapes s (x ∷ xs) t calls plain =
        let part = given s calls.0 x calls.1 in
        let here = in_calls (inner s) (printable x) (inner calls.0) part.2 plain in
        has_written_of_eq took (inner s) (printable x ++ printable (concat xs)) (printable (x ++ concat xs)) (inner t) (sym (printable_append x (concat xs) part.0))
        (has_written_append took (inner s) (printable x) (inner calls.0) (printable (concat xs)) (inner t) here (with_escapes calls.0 xs t calls.2 here.plain))

    pub displayed : (s t : S) (v : Formatter W) (r : Result (Unit {0}) Error) (o : Option (List ℕ))
        → (name t ≡ name s → v ≡ inner t) → OnOk r (WritesText takes s o t) → DisplaysOnOk took (inner s) r (option_map printable o) v
    displayed s t v r None back h = tt
    displayed s t v r (Some bs) back h = λ plain ok.
        let w = if_ok r (WritesInCalls takes s bs t) h ok in
        let all = with_escapes s w.parts t w.calls plain in
        subst (HasWritten took (inner s) (printable bs)) (sym (back (same_name s w.parts t w.calls)))
        (has_written_of_eq took (inner s) (printable (concat w.parts)) (printable bs) (inner t) (ap printable w.whole) all)
