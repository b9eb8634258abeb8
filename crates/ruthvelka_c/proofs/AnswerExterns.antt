-- The imports and exports that are told with an answer.
use Rattle.std.proofs.Common.{ℕ, ◌≡◌, List, [], length, refl, sym, subst, arith}
use Rattle.std.specs.declared.result.Result.TheVariants.{Ok, Err}
use Rattle.wasm_validator_handles.specs.declared.entities.Extern.{Extern}
use Rattle.wasm_validator_handles.specs.declared.entities.ExternType.{ExternType}
use Rattle.wasm_validator_handles.specs.declared.entities.Externs as gathered
use Rattle.ruthvelka_c.specs.declared.report.Report.{Report}
use Rattle.ruthvelka_c.specs.Answers.{Answer}
use Rattle.wasm_validator_handles.specs.Arrays.{AreWritten, HasText}
use Rattle.ruthvelka_c.specs.Externs.{AreGathered, ExternsStay, ExternsTell, GivesExterns}

pub gives :
    (answer : Answer) (e : gathered.Externs) (r : Report) (i0 i1 x0 x1 : List Extern) (n0 n1 : List ℕ) → AreGathered answer e → ExternsTell e.imports.items i0 i1
    → ExternsTell e.exports.items x0 x1 → AreWritten e.names.items n0 n1 → r.names_length ≡ length e.names.items → GivesExterns answer r i0 i1 x0 x1 n0 n1
gives (Ok t) e r i0 i1 x0 x1 n0 n1 g i x n l = record {
  imports = e.imports.items;
  exports = e.exports.items;
  names = e.names.items;
  are = g;
  imports_written = i;
  exports_written = x;
  names_written = n;
  names_length = l;
}
gives (Err error) e r i0 i1 x0 x1 n0 n1 g i x n l = record {
  imports = subst (λ (es : List ExternType). ExternsTell es i0 i1) g.0 i;
  exports = subst (λ (es : List ExternType). ExternsTell es x0 x1) g.1 x;
  names = subst (λ (ns : List ℕ). AreWritten ns n0 n1) g.2 n;
}

none_written : (n : List ℕ) → AreWritten [] n n
none_written n = record { room = refl; written = λ k l m. absurd (omega (arith, l)); others = λ k l. refl }

none_told : (i : List Extern) → ExternsTell [] i i
none_told i = record { room = refl; told = λ k e l. absurd (omega (arith, l)); others = λ k l. refl }

pub stays : (i x : List Extern) (n : List ℕ) → ExternsStay i i x x n n
stays i x n = record { imports = none_told i; exports = none_told x; names = none_written n }

pub no_text : (size : ℕ) (n : List ℕ) → size ≡ 0 → HasText size n n
no_text size n e = record { text = []; whole = sym e; copied = none_written n }
