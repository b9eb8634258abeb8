use Rattle.std.proofs.Common.{ℕ, ◌≡◌, ◌+◌, ◌≤◌, [], ◌∷◌, ◌++◌, map, take, get_or, refl, sym, subst, ◌∙◌, arith}
use Rattle.std.specs.Prelude.{⊤}
use Rattle.wasm_check_reports.specs.WasmValidateFiles.Files.{HasRoomForAll}
use Rattle.wasm_check.specs.ExitStatuses.{WereChecked}
use Rattle.wasm_check.proofs.FilesByName.{taken_more}
use Rattle.wasm_check.proofs.WorstStatuses.{none_checked, one_more}
use Rattle.wasm_check.proofs.check.check_each.Goals as goal

is_two : (s r : ℕ) → s ≡ 2 → s ≤ r → r ≤ 2 → r ≡ 2
is_two s r e a b = omega (arith, e, a, b)

pub names-init : goal.names-init
names-init g c = record { told = none_checked c.args.settings.now.features (g.R.Source.gives c.args.rt.now) (λ _. ⊤); silent = λ _. refl; quiet = λ _. refl }

pub names-preserved : goal.names-preserved
names-preserved g c =
    let before = c.names.invariant in
    let here = c.in_ok-found.ensures in
    let larger = c.worse-status.ensures in
    let gives = g.R.Source.gives c.args.rt.now in
    let names = c.args.names.now in
    let i = c.names.name-index in
    let name = (get_or names i _).now in
    let alone : WereChecked c.args.settings.now.features (HasRoomForAll c.args.settings.now.features) gives (name ∷ []) c.in_ok-found.found =
    subst (λ ns. WereChecked c.args.settings.now.features (HasRoomForAll c.args.settings.now.features) gives (map (λ n. n.now) ns) c.in_ok-found.found) c.from_ref.ensures.value here.told in
    let both : WereChecked c.args.settings.now.features (λ _. ⊤) gives (map (λ n. n.now) (take i names) ++ name ∷ []) c.worse-status.result =
    one_more c.args.settings.now.features gives (map (λ n. n.now) (take i names)) (name ∷ []) c.names.status c.in_ok-found.found c.worse-status.result before.told alone refl larger.one larger.other larger.some in
    let told : WereChecked c.args.settings.now.features (λ _. ⊤) gives (map (λ n. n.now) (take (i + 1) names)) c.worse-status.result =
    subst (λ ns. WereChecked c.args.settings.now.features (λ _. ⊤) gives ns c.worse-status.result) (sym (taken_more (λ n. n.now) names i _ c.names-test.true)) both in
    record {
      told = told;
      silent = λ other.
          here.silent (λ e. other (is_two c.in_ok-found.found c.worse-status.result e larger.other told.tells.known))
          ∙ before.silent (λ e. other (is_two c.names.status c.worse-status.result e larger.one told.tells.known));
      quiet = λ q. here.quiet q ∙ before.quiet q;
    }
