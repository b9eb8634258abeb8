use Rattle.std.proofs.Common.{sym, ap, subst, ◌∙◌, [], ◌∷◌, ◌++◌, map, take, get_or}
use Rattle.wasm_check.specs.FoundFiles.{StandFor}
use Rattle.wasm_check.proofs.FilesByName.{taken_more}
use Rattle.wasm_check.proofs.NamesFound.{one_more_file, one_more_folder}
use Rattle.wasm_check.proofs.folders.find_files.Goals as goal
use Rattle.wasm_check.proofs.folders.find_files.Goals.{then-is_folder+in_ok-find_below, else-is_folder+in_ok-from_str+in_ok-push}

pub names-preserved : goal.names-preserved
names-preserved g c = λ whole.
    let names = c.args.names.now in
    let i = c.names.name-index in
    let ns = map (λ name. name.now) (take i names) in
    let n = (get_or names i _).now in
    let fs = c.names.found.files.items in
    subst (λ ms. StandFor ms c.if-is_folder.found.files.items) (sym (taken_more (λ name. name.now) names i _ c.names-test.true))
    (elim c.if-is_folder.branch [
      | then-is_folder+in_ok-find_below w ↦
          let all = sym (ap (λ f. f.is_whole) w.found-is) ∙ whole in
          subst (StandFor (ns ++ n ∷ [])) (sym (ap (λ f. f.files.items) w.found-is))
          (one_more_folder ns fs _ n (w.in_ok-find_below.ensures.more all) (c.names.invariant (w.find_below.ensures.kept all)))
      | else-is_folder+in_ok-from_str+in_ok-push w ↦
          let all = sym (ap (λ f. f.is_whole) w.found-is) ∙ whole in
          subst (StandFor (ns ++ n ∷ [])) (sym (ap (λ f. f.files.items) w.found-is ∙ w.in_ok-push.ensures.items))
          (one_more_file ns fs n w.in_ok-from_str.field-0 w.in_ok-from_str.ensures.ok (c.names.invariant all))
    ])
