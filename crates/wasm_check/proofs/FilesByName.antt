-- Files by their names, one after another.
use Rattle.std.proofs.Common.{◌≡◌, refl, ap, subst, sym, ◌∙◌, ℕ, zero, suc, ◌+◌, ◌<◌, List, [], ◌∷◌, ◌++◌, length, map, take, get_or, arith}
use Rattle.std.specs.Prelude.{string_bytes, IsSome, Some, Vec}
use Rattle.std.specs.Option.{option_map, unwrap_or}
use Rattle.std.specs.declared.alloc.Global.{Global}
use Rattle.wasm_check_reports.specs.WasmValidateFiles.declared.files.Input.{Input}
use Rattle.wasm_check.specs.ExitStatuses.{IsFileOf, AreFilesOf}

module _ (gives : List ℕ → List ℕ → Type 0) where
  pub one_more_file : (ns : List (List ℕ)) (fs : List (Input Global)) (n : List ℕ) (f : Input Global) → AreFilesOf gives ns fs → IsFileOf gives n f → AreFilesOf gives (ns ++ n ∷ []) (fs ++ f ∷ [])
  one_more_file [] [] n f a b = (b, tt)
  one_more_file [] (g ∷ fs) n f a b = absurd a
  one_more_file (m ∷ ns) [] n f a b = absurd a
  one_more_file (m ∷ ns) (g ∷ fs) n f a b = (a.0, one_more_file ns fs n f a.1 b)

  pub files_behind : (ms ns : List (List ℕ)) (fs gs : List (Input Global)) → AreFilesOf gives ms fs → AreFilesOf gives ns gs → AreFilesOf gives (ms ++ ns) (fs ++ gs)
  files_behind [] ns [] gs a b = b
  files_behind [] ns (f ∷ fs) gs a b = absurd a
  files_behind (m ∷ ms) ns [] gs a b = absurd a
  files_behind (m ∷ ms) ns (f ∷ fs) gs a b = (a.0, files_behind ms ns fs gs a.1 b)

  pub as_many_files : (ns : List (List ℕ)) (fs : List (Input Global)) → AreFilesOf gives ns fs → length fs ≡ length ns
  as_many_files [] [] a = refl
  as_many_files [] (f ∷ fs) a = absurd a
  as_many_files (n ∷ ns) [] a = absurd a
  as_many_files (n ∷ ns) (f ∷ fs) a = ap suc (as_many_files ns fs a.1)

  pub is_file : (name : List ℕ) (f : Input Global) (bytes : Vec ℕ Global) → string_bytes f.name ≡ name → f.bytes ≡ Some bytes → gives name bytes.items → IsFileOf gives name f
  is_file name f bytes e h given =
      (e, subst IsSome (sym h) refl, subst (gives name) (ap (λ o. unwrap_or (option_map (λ v. v.items) o) []) (sym h)) given)

pub taken_more : {X Y : Type 0} (g : X → Y) (xs : List X) (i : ℕ) (d : X) → i < length xs → map g (take (i + 1) xs) ≡ map g (take i xs) ++ g (get_or xs i d) ∷ []
taken_more g [] i d h = absurd (omega (arith, h))
taken_more g (y ∷ xs) zero d h = refl
taken_more g (y ∷ xs) (suc i) d h =
    let back : suc i + 1 ≡ suc (i + 1) = omega arith in
    ap (λ k. map g (take k (y ∷ xs))) back ∙ ap (λ zs. g y ∷ zs) (taken_more g xs i d (omega (arith, h)))

pub all_taken : {X : Type 0} (xs : List X) (i : ℕ) → i ≡ length xs → take i xs ≡ xs
all_taken [] zero e = refl
all_taken [] (suc i) e = absurd (omega (arith, e))
all_taken (x ∷ xs) zero e = absurd (omega (arith, e))
all_taken (x ∷ xs) (suc i) e = ap (λ ys. x ∷ ys) (all_taken xs i (omega (arith, e)))
