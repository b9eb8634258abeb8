use Rattle.std.proofs.Common.{◌≡◌, ◌+◌, ◌++◌, ◌∷◌, [], ◌∙◌, ap, subst, sym, map, take, vec_len, get_or, arith}
use Rattle.std.specs.List.{All}
use Rattle.std.specs.declared.alloc.Global.{Global}
use Rattle.std.proofs.lemmas.List.Elements.{All-nil, All-cons, All-append}
use Rattle.wasm_check_reports.specs.WasmValidateFiles.Files.{IsRead}
use Rattle.wasm_check.specs.ExitStatuses.{AreFilesOf}
use Rattle.wasm_check.proofs.FilesByName.{one_more_file, taken_more, is_file}
use Rattle.wasm_check.proofs.check.check_group.Goals as goal
use Rattle.wasm_check.proofs.check.check_group.Goals.{in-Ok+in_ok-input_of-in-Ok+in_ok-push-in-Ok, in-Err+in_ok-tell_unread-in-Err}

pub names-preserved : goal.names-preserved
names-preserved g c =
    let gives = g.R.Source.gives c.args.rt.now in
    let names = c.args.names.now in
    let i = c.names.name-index in
    let few = c.names.invariant.few in
    let old = c.names.files.items in
    elim c.match-read_named.branch [
      | in-Ok+in_ok-input_of-in-Ok+in_ok-push-in-Ok w ↦
          let f = w.in_ok-input_of-in-Ok.field-0 in
          let file = w.in_ok-input_of-in-Ok.ensures in
          let pushed : c.match-read_named.files.items ≡ old ++ f ∷ [] = ap (λ fs. fs.items) w.files-is ∙ w.in_ok-push-in-Ok.ensures.items in
          let more : vec_len c.match-read_named.files ≡ vec_len c.names.files + 1 = ap vec_len w.files-is ∙ w.in_ok-push-in-Ok.ensures.len in
          let n = (get_or names i _).now in
          record {
            read = subst (All (IsRead {A = Global})) (sym pushed) (All-append (IsRead {A = Global}) old (f ∷ []) c.names.invariant.read (All-cons (IsRead {A = Global}) f [] file.read (All-nil (IsRead {A = Global}))));
            named = λ all.
                subst (AreFilesOf gives (map (λ name. name.now) (take (i + 1) names))) (sym pushed)
                (subst (λ ns. AreFilesOf gives ns (old ++ f ∷ [])) (sym (taken_more (λ name. name.now) names i _ c.names-test.true))
                (one_more_file gives (map (λ name. name.now) (take i names)) old n f (c.names.invariant.named (omega (arith, more, all))) (is_file gives n f w.in-Ok.bytes file.name file.bytes w.in-Ok.ensures)));
            few = omega (arith, more, few);
            silent = λ all. w.err-is ∙ c.names.invariant.silent (omega (arith, more, all));
            quiet = λ q. w.out-is ∙ c.names.invariant.quiet q;
          }
      | in-Err+in_ok-tell_unread-in-Err w ↦
          let same : vec_len c.match-read_named.files ≡ vec_len c.names.files = ap vec_len w.files-is in
          record {
            read = subst (All (IsRead {A = Global})) (sym (ap (λ fs. fs.items) w.files-is)) c.names.invariant.read;
            named = λ all. absurd (omega (arith, same, few, all));
            few = omega (arith, same, few);
            silent = λ all. absurd (omega (arith, same, few, all));
            quiet = λ q. w.out-is ∙ w.in_ok-tell_unread-in-Err.ensures.quiet q ∙ c.names.invariant.quiet q;
          }
    ]
