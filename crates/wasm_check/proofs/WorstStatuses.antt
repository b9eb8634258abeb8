-- From the answers on files to what the status says of them, and from the statuses of parts to that of the whole.
use Rattle.std.proofs.Common.{ℕ, ◌≡◌, ◌+◌, ◌≤◌, ◌⊎◌, ◌++◌, List, [], ◌∷◌, length, slice_get, Option, Some, None, inl, inr, refl, sym, ap, ◌∙◌, arith, below_more}
use Rattle.std.specs.Prelude.{Any, ⊤}
use Rattle.std.specs.List.{All}
use Rattle.std.specs.declared.alloc.Global.{Global}
use Rattle.std.specs.declared.result.Result.{Result}
use Rattle.std.specs.declared.result.Result.TheVariants.{Ok, Err}
use Rattle.std.proofs.lemmas.Option.{slice_get_read}
use Rattle.std.proofs.lemmas.List.Elements.{All-nil, All-cons, All-head, All-tail, All-append}
use Rattle.wasm_readers_errors.specs.WasmReadersFeatures.declared.features.WasmFeatures.{WasmFeatures}
use Rattle.wasm_check_reports.specs.WasmValidateFiles.WasmValidatorTypes.declared.shown.Types as shown
use Rattle.wasm_check_reports.specs.WasmValidateFiles.WasmValidatorCore.declared.error.Error.{Error}
use Rattle.wasm_check_reports.specs.WasmValidateFiles.WasmValidatorCore.declared.error.Error.TheVariants.{Refused, DuplicateExport, InFunction, OutOfMemory}
use Rattle.wasm_check_reports.specs.WasmValidateFiles.declared.files.Input.{Input}
use Rattle.wasm_check_reports.specs.WasmValidateFiles.Files.{IsRead, IsAccepted, AreAllAccepted, HasRoomForAll}
use Rattle.wasm_check_reports.specs.WasmValidateFiles.Answers.{LacksMemory, IsOkAt, AreAnswers, Tells}
use Rattle.wasm_check_reports.proofs.WasmValidateFiles.FileStatuses.{all_accepted, all_answered}
use Rattle.wasm_check.proofs.TypeListRoom.{room_for_one}
use Rattle.wasm_check.specs.Statuses.{status_of, status_at, IsWorst}
use Rattle.wasm_check.proofs.FilesByName.{files_behind, as_many_files}
use Rattle.wasm_check.specs.ExitStatuses.{AreFilesOf, StatusTells, WereChecked}

-- what the validator answers on a file
abbrev Told : Type 0
Told = Result (shown.Types Global) (Error Global)

-- the largest status of one file more
pub more_worst : (answers : List Told) (i w s r : ℕ) → IsWorst answers i w → s ≡ status_at answers i → w ≤ r → s ≤ r → (r ≡ w) ⊎ (r ≡ s) → IsWorst answers (i + 1) r
more_worst answers i w s r before at a b which = record {
  above = below_more (λ k. status_at answers k ≤ r) i (λ k l. let h = before.above k l in omega (arith, h, a)) (omega (arith, at, b));
  some = elim which [
    | inl e ↦ elim before.some [
      | inl z ↦ inl (e ∙ z)
      | inr x ↦ let within = x.1 in inr (x.0, omega (arith, within), x.2 ∙ sym e)
    ]
    | inr e ↦ inr (i, omega arith, sym at ∙ sym e)
  ];
}

lacks_memory : (r : Told) → LacksMemory r → status_of (Some r) ≡ 2
lacks_memory (Ok t) m = absurd m
lacks_memory (Err (Refused e)) m = absurd m
lacks_memory (Err (DuplicateExport name offset)) m = absurd m
lacks_memory (Err (InFunction index e)) m = absurd m
lacks_memory (Err OutOfMemory) m = refl

is_ok : (o : Option Told) → status_of o ≡ 0 → (t : shown.Types Global) × (o ≡ Some (Ok t))
is_ok None e = absurd (omega (arith, e))
is_ok (Some (Ok t)) e = (t, refl)
is_ok (Some (Err (Refused r))) e = absurd (omega (arith, e))
is_ok (Some (Err (DuplicateExport name offset))) e = absurd (omega (arith, e))
is_ok (Some (Err (InFunction index r))) e = absurd (omega (arith, e))
is_ok (Some (Err OutOfMemory)) e = absurd (omega (arith, e))

-- where the largest status isn't that of trouble, no answer is that memory was refused
none_lacks : (answers : List Told) (n s : ℕ) → length answers ≤ n → IsWorst answers n s → s ≤ 1 → Any LacksMemory answers → ⊥
none_lacks answers n s short worst small (k, r, l, at, m) =
    let here : slice_get answers k ≡ Some r = slice_get_read answers (length answers) k r refl l (sym at) in
    let two : status_at answers k ≡ 2 = ap status_of here ∙ lacks_memory r m in
    let most = worst.above k (omega (arith, l, short)) in
    omega (arith, two, most, small)

module _ (features : WasmFeatures) where
  tells : (files : List (Input Global)) (answers : List Told) (s : ℕ) → AreAnswers features files answers → length answers ≤ length files → IsWorst answers (length files) s → s ≤ 1 → Tells features files answers
  tells files answers s are short worst small = record { headline = are; with_memory = none_lacks answers (length files) s short worst small }

  -- the status of files that one validator has checked
  pub status_tells : (files : List (Input Global)) (answers : List Told) (s : ℕ) → All IsRead files → AreAnswers features files answers → length answers ≤ length files → s ≤ 2 → IsWorst answers (length files) s
      → StatusTells features (HasRoomForAll features) files s
  status_tells files answers s read are short known worst = record {
    known = known;
    accepted = λ e.
        all_accepted features files answers read (tells files answers s are short worst (omega (arith, e)))
        (λ k l. let most = worst.above k l in is_ok (slice_get answers k) (omega (arith, most, e)));
    refused = λ e room accepted.
        elim worst.some [
          | inl z ↦ omega (arith, e, z)
          | inr x ↦
              let ok : IsOkAt answers x.0 = all_answered features files answers (tells files answers s are short worst (omega (arith, e))) room accepted x.0 x.1 in
              let zero : status_at answers x.0 ≡ 0 = ap status_of ok.1 in
              let is = x.2 in
              omega (arith, zero, is, e)
        ];
  }

  module _ (gives : List ℕ → List ℕ → Type 0) where
    -- with the status of trouble nothing is said of files
    pub troubled : (room : List (Input Global) → Type 0) (names : List (List ℕ)) → WereChecked features room gives names 2
    troubled room names = record {
      files = [];
      each = λ other. absurd (other refl);
      tells = record { known = omega arith; accepted = λ e. absurd (omega (arith, e)); refused = λ e. absurd (omega (arith, e)) };
    }

    pub none_checked : (room : List (Input Global) → Type 0) → WereChecked features room gives [] 0
    none_checked room = record {
      files = [];
      each = λ other. tt;
      tells = record { known = omega arith; accepted = λ e. All-nil (IsAccepted features); refused = λ e. absurd (omega (arith, e)) };
    }

  all_left : (xs ys : List (Input Global)) → AreAllAccepted features (xs ++ ys) → AreAllAccepted features xs
  all_left [] ys a = All-nil (IsAccepted features)
  all_left (x ∷ xs) ys a = All-cons (IsAccepted features) x xs (All-head (IsAccepted features) x (xs ++ ys) a) (all_left xs ys (All-tail (IsAccepted features) x (xs ++ ys) a))

  all_right : (xs ys : List (Input Global)) → AreAllAccepted features (xs ++ ys) → AreAllAccepted features ys
  all_right [] ys a = a
  all_right (x ∷ xs) ys a = all_right xs ys (All-tail (IsAccepted features) x (xs ++ ys) a)

  room_alone : (files : List (Input Global)) → length files ≡ 1 → HasRoomForAll features files
  room_alone [] e = absurd (omega (arith, e))
  room_alone (f ∷ []) e = room_for_one features f
  room_alone (f ∷ g ∷ fs) e = absurd (omega (arith, e))

  -- files that were checked each by its own validator, and one more
  pub one_more :
      (gives : List ℕ → List ℕ → Type 0) (ms ns : List (List ℕ)) (s t r : ℕ) → WereChecked features (λ _. ⊤) gives ms s → WereChecked features (HasRoomForAll features) gives ns t
      → length ns ≡ 1 → s ≤ r → t ≤ r → (r ≡ s) ⊎ (r ≡ t) → WereChecked features (λ _. ⊤) gives (ms ++ ns) r
  one_more gives ms ns s t r before one single a b which =
      let known : r ≤ 2 =
      (let k = before.tells.known in
      let l = one.tells.known in
      elim which [ inl e ↦ omega (arith, e, k) | inr e ↦ omega (arith, e, l) ]) in
      record {
        files = before.files ++ one.files;
        each = λ other.
            let small : r ≤ 1 = not_two r known other in
            files_behind gives ms ns before.files one.files (before.each (λ e. omega (arith, e, a, small))) (one.each (λ e. omega (arith, e, b, small)));
        tells = record {
          known = known;
          accepted = λ e. All-append (IsAccepted features) before.files one.files (before.tells.accepted (omega (arith, e, a))) (one.tells.accepted (omega (arith, e, b)));
          refused = λ e _ accepted.
              elim which [
                | inl same ↦ before.tells.refused (sym same ∙ e) tt (all_left before.files one.files accepted)
                | inr same ↦
                    let is_one : t ≡ 1 = sym same ∙ e in
                    let alone : length one.files ≡ length ns = as_many_files gives ns one.files (one.each (λ two. omega (arith, is_one, two))) in
                    one.tells.refused is_one (room_alone one.files (alone ∙ single)) (all_right before.files one.files accepted)
              ];
        };
      }
    where
      not_two : (r : ℕ) → r ≤ 2 → (r ≡ 2 → ⊥) → r ≤ 1
      not_two r k other = omega (arith, k, other)

  -- all files that were named were read
  pub all_checked :
      (room : List (Input Global) → Type 0) (gives : List ℕ → List ℕ → Type 0) (files : List (Input Global)) (names : List (List ℕ)) (s : ℕ)
      → AreFilesOf gives names files → StatusTells features room files s → WereChecked features room gives names s
  all_checked room gives files names s all tells = record { files = files; each = λ _. all; tells = tells }
