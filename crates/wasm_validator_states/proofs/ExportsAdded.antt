-- A section of exports adds them where each is valid and they fit behind those that are there.
use Rattle.std.proofs.Common.{refl, sym, ap, ◌∙◌, ◌+◌, cond, leb, map, length, None}
use Rattle.std.specs.Option.{option_and_then}
use Rattle.std.proofs.lemmas.Bool.{leb-true, le-leb}
use Rattle.wasm_spec.specs.Values.{items_at}
use Rattle.wasm_spec.specs.BinaryModules.{export_at}
use Rattle.wasm_spec_rules.specs.FeatureFlags.{features_of}
use Rattle.wasm_spec_rules.specs.Sections.{each}
use Rattle.wasm_spec_rules.specs.Limits.{most_exports}
use Rattle.wasm_spec_rules.proofs.Tests.{then_some, guarded}
use Rattle.wasm_validator_sections.specs.WasmValidatorCore.Items.{add_export}
use Rattle.wasm_validator_sections.specs.WasmLawsCore.Exports.{with_exports}
use Rattle.wasm_validator_sections.proofs.WasmLawsCore.AddedExports.{exports_are_added_behind}
use Rattle.wasm_validator_sections.proofs.WasmLawsCore.AddedItems.{each_changed}
use Rattle.wasm_validator_sections.specs.Sections.{read_section}
use Rattle.wasm_validator_sections.specs.ModuleNotes.{naming}
use Rattle.wasm_validator_states.specs.ValidatorStages.{in_module}
use Rattle.wasm_validator_sections.specs.WasmValidatorReferences.References.{names_of_exports}
use Rattle.wasm_validator_states.specs.SectionLaws.{ExportsAdd}
use Rattle.wasm_validator_sections.proofs.SectionEntries.{limited, section_entries, renames_nothing, same_item}
use Rattle.wasm_validator_states.proofs.SectionLaws.{moved_from, moved_to, at_module}

pub exports_add : ExportsAdd
exports_add old new us m n C count bytes r same =
    let F = features_of old.features in
    let there = length m.exports in
    let section = read_section export_at (add_export F us) there most_exports count bytes m in
    let entries = section_entries (add_export F us) same_item there most_exports m export_at export_at (renames_nothing export_at) count bytes in (
      λ e. let a = moved_from old new us (naming (names_of_exports count bytes) n) section (sym (at_module old us m n 7 count bytes r.stage) ∙ e) in
          let b = then_some (limited (add_export F us) same_item there most_exports m) (items_at export_at count bytes) a.0 (sym entries ∙ a.1) in
          let c = guarded (leb (there + length b.0) most_exports) (each (add_export F us) m (map same_item b.0)) a.0 b.2 in
          let d = (exports_are_added_behind F us C m r.stand same b.0 a.0).0 (sym (each_changed (add_export F us) same_item m b.0) ∙ c.1) in (
            record {
              items = b.0;
              read = b.1;
              rules = d.0.0;
              few = leb-true (there + length b.0) most_exports c.0;
              after = a.2 ∙ (λ i. record old { stage = in_module us (sym d.1 i) (naming (names_of_exports count bytes) n) });
            },
            d.0.1,
          ),
      λ h. let items = h.0.items in
          at_module old us m n 7 count bytes r.stage
          ∙ moved_to old new us (naming (names_of_exports count bytes) n) section (with_exports F C m items)
          (entries
          ∙ ap (option_and_then (limited (add_export F us) same_item there most_exports m)) h.0.read
          ∙ ap (λ b. cond b (each (add_export F us) m (map same_item items)) None) (le-leb (there + length items) most_exports h.0.few)
          ∙ each_changed (add_export F us) same_item m items
          ∙ (exports_are_added_behind F us C m r.stand same items (with_exports F C m items)).1 ((h.0.rules, h.1), refl))
          h.0.after,
    )
