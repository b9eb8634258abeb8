use Rattle.std.proofs.Common.{◌≡◌, true, true≢false, sym, ap, ◌∙◌, [], ◌++◌, length}
use Rattle.std.specs.Prelude.{is_ok, if◌then◌else◌, ◌==◌}
use Rattle.wasm_check.proofs.NamesFound.{more_in_order}
use Rattle.wasm_check.proofs.folders.find_below.Goals as goal
use Rattle.wasm_check.proofs.folders.find_below.Goals.{in-Err, in_default-read_folder, then-is_empty+then-found, else-is_empty, else-is_empty-via-then-is_empty+else-found, else-is_empty-via-else-is_empty}

pub folders-preserved : goal.folders-preserved
folders-preserved g c =
    let each = c.read_folder.ensures c.folders.invariant.each in
    elim c.match-read_folder.branch [
      | in-Err w ↦ record {
        each = each;
        kept = λ whole. absurd (true≢false (sym whole ∙ ap (λ f. f.is_whole) w.found-is));
        same = ap (λ f. f.files) w.found-is ∙ c.folders.invariant.same;
      }
      | in_default-read_folder w ↦ record {
        each = each;
        kept = λ whole. c.folders.invariant.kept (sym (ap (λ f. f.is_whole) w.found-is) ∙ whole);
        same = ap (λ f. f.files) w.found-is ∙ c.folders.invariant.same;
      }
    ]

pub returns-clause-more : goal.returns-clause-more
returns-clause-more g c =
    let same : c.if-is_empty.found.files.items ≡ c.args.found.now.files.items =
    (elim c.if-is_empty.branch [
      | then-is_empty+then-found w ↦ ap (λ f. f.files.items) w.found-is ∙ ap (λ v. v.items) c.folders.invariant.same
      | else-is_empty w ↦ ap (λ f. f.files.items) w.found-is ∙ ap (λ v. v.items) c.folders.invariant.same
    ]) in
    let some : c.if-is_empty.found.is_whole ≡ true → c.folders.files.items ≡ [] → ⊥ =
    (λ whole none. elim c.if-is_empty.branch [
      | then-is_empty+then-found w ↦ true≢false (sym whole ∙ ap (λ f. f.is_whole) w.found-is)
      | else-is_empty w ↦ elim w.else-is_empty.branch [
        | else-is_empty-via-then-is_empty+else-found x ↦ true≢false (sym whole ∙ ap (λ f. f.is_whole) w.found-is ∙ x.if-found.false)
        | else-is_empty-via-else-is_empty x ↦
            true≢false (sym (c.is_empty.ensures ∙ ap (λ n. n == 0) (c.folders.files.ok.0 ∙ ap length none)) ∙ x.if-is_empty.false)
      ]
    ]) in
    more_in_order c.append.result c.if-is_empty.found.is_whole c.args.found.now.files.items c.append.new.self.items c.folders.files.items c.sort.new.self.items
    c.folders.invariant.each c.sort.ensures.permutation some (c.append.ensures.items ∙ ap (λ fs. if is_ok c.append.result then fs ++ c.sort.new.self.items else fs) same)
