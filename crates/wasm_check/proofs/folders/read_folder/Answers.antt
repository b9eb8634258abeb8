use Rattle.std.proofs.Common.{◌≡◌, true, sym, ap, subst, ◌∙◌, [], ◌∷◌}
use Rattle.std.specs.List.{All}
use Rattle.std.specs.Prelude.{string_bytes}
use Rattle.std.proofs.lemmas.List.Elements.{All-nil, All-cons, All-append}
use Rattle.wasm_check.specs.FoundFiles.{has_ending, IsLookedFor}
use Rattle.wasm_check.proofs.folders.read_folder.Goals as goal
use Rattle.wasm_check.proofs.folders.read_folder.Goals.{then-is_dir+in_ok-push, else-is_dir+then-has_ending+then-may_be_read+in_ok-push-2, else-is_dir+else-has_ending}

pub entries-preserved : goal.entries-preserved
entries-preserved g c =
    let before = c.entries.invariant.2 in
    let path = c.in_ok-path.path in
    elim c.if-is_dir.branch [
      | then-is_dir+in_ok-push w ↦ (tt, tt, λ all. subst (All IsLookedFor) (sym (ap (λ v. v.items) w.files-is)) (before all))
      | else-is_dir+then-has_ending+then-may_be_read+in_ok-push-2 w ↦
          let looked : has_ending (string_bytes path) ≡ true = ap has_ending (sym w.as_str-else-is_dir.ensures.value) ∙ sym w.has_ending.ensures ∙ w.if-has_ending.true in (
            tt,
            tt,
            λ all.
                subst (All IsLookedFor) (sym (ap (λ v. v.items) w.files-is ∙ w.in_ok-push-2.ensures.items))
                (All-append IsLookedFor c.entries.files.items (path ∷ []) (before all) (All-cons IsLookedFor path [] looked (All-nil IsLookedFor))),
          )
      | else-is_dir+else-has_ending w ↦ (tt, tt, λ all. subst (All IsLookedFor) (sym (ap (λ v. v.items) w.files-is)) (before all))
    ]
