-- A parser that goes on has refused nothing.
use Rattle.std.proofs.Common.{◌≡◌, refl, ap, None}
use Rattle.wasm_parser.specs.Machine.{Stage, at_header, at_sections, ended, failed}
use Rattle.wasm_parser.specs.Places.{refused_with}
use Rattle.wasm_parser.specs.PayloadViews.{stage_of, state}
use Rattle.wasm_parser.specs.declared.parser.ParseAll.{ParseAll}
use Rattle.wasm_parser.specs.declared.parser.Progress.{Progress}
use Rattle.wasm_parser.specs.declared.parser.Progress.TheVariants as stages

-- nothing was refused
abbrev pub IsOn : Stage → Type 0
IsOn at_header = Unit {0}
IsOn at_sections = Unit {0}
IsOn ended = Unit {0}
IsOn failed = ⊥

module _ {A : Type 0} (p : ParseAll A) where
  unrefused : (g : Progress) → p.progress ≡ g → IsOn (stage_of g) → refused_with p ≡ None
  unrefused stages.Header e on = ap (λ (x : Progress). refused_with (record p { progress = x })) e
  unrefused stages.Sections e on = ap (λ (x : Progress). refused_with (record p { progress = x })) e
  unrefused stages.Ended e on = ap (λ (x : Progress). refused_with (record p { progress = x })) e
  unrefused (stages.Failed r) e on = absurd on

  pub refused_nothing : IsOn (state p).stage → refused_with p ≡ None
  refused_nothing on = unrefused p.progress refl on
