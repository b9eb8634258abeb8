use Rattle.std.proofs.Common.{◌≡◌, ap, sym, subst, ◌∙◌, arith}
use Rattle.wasm_readers_errors.specs.WasmReadersFeatures.declared.features.WasmFeatures.{WasmFeatures}
use Rattle.wasm_validator_handles.specs.WasmValidator.Verdict.{DecidesAlone}
use Rattle.wasm_validator_tables.specs.ModuleReports.{AreTold}
use Rattle.wasm_validator_tables.specs.ModuleTables.{HasSomeLargeBody}
use Rattle.ruthvelka_c.specs.Reports.{flags}
use Rattle.ruthvelka_c.proofs.Verdicts.{not_done, not_wrong, refused_status}
use Rattle.ruthvelka_c.proofs.side_tables.ruthvelka_proved_side_tables.Goals as goal

pub returns-in-Ok-clause-told : goal.returns-in-Ok-clause-told
returns-in-Ok-clause-told c =
    let told = c.tell_tables-told.result.answer in
    let bits : c.from_bits_retain-features.result ≡ flags c.args.features = ap flags (c.from_bits_retain-features.ensures tt) in
    let d : DecidesAlone told c.args.bytes.now 0 (flags c.args.features) = subst (λ (f : WasmFeatures). DecidesAlone told c.args.bytes.now 0 f) bits c.tell_tables-told.ensures.decided in
    record { answer = told; decided = d; tells = c.report_of.ensures.tells }

pub returns-in-Ok-clause-message : goal.returns-in-Ok-clause-message
returns-in-Ok-clause-message c =
    rw c.report_of.ensures.message c.write_message-message_length.ensures

pub returns-clause-told : goal.returns-clause-told
returns-clause-told c =
    let told = c.tell_tables-told.result.answer in
    let bits : c.from_bits_retain-features.result ≡ flags c.args.features = ap flags (c.from_bits_retain-features.ensures tt) in
    let d : DecidesAlone told c.args.bytes.now 0 (flags c.args.features) = subst (λ (f : WasmFeatures). DecidesAlone told c.args.bytes.now 0 f) bits c.tell_tables-told.ensures.decided in
    record { answer = told; decided = d; tells = c.report_of.ensures.tells }

pub returns-clause-message : goal.returns-clause-message
returns-clause-message c =
    rw c.report_of.ensures.message c.write_message-message_length.ensures

pub returns-in-Ok-clause-valid : goal.returns-in-Ok-clause-valid
returns-in-Ok-clause-valid c =
    let told = c.tell_tables-told.result.answer in
    let bits : c.from_bits_retain-features.result ≡ flags c.args.features = ap flags (c.from_bits_retain-features.ensures tt) in
    let d : DecidesAlone told c.args.bytes.now 0 (flags c.args.features) = subst (λ (f : WasmFeatures). DecidesAlone told c.args.bytes.now 0 f) bits c.tell_tables-told.ensures.decided in
    λ e. let v = rw c.in-Ok.is at d in v.1.module_valid

pub returns-in-Ok-clause-wrong : goal.returns-in-Ok-clause-wrong
returns-in-Ok-clause-wrong c =
    let told = c.tell_tables-told.result.answer in
    let bits : c.from_bits_retain-features.result ≡ flags c.args.features = ap flags (c.from_bits_retain-features.ensures tt) in
    let d : DecidesAlone told c.args.bytes.now 0 (flags c.args.features) = subst (λ (f : WasmFeatures). DecidesAlone told c.args.bytes.now 0 f) bits c.tell_tables-told.ensures.decided in
    λ e. let v = rw c.in-Ok.is at d in v.1.module_valid

pub returns-in-Ok-clause-tables : goal.returns-in-Ok-clause-tables
returns-in-Ok-clause-tables c =
    let bits : c.from_bits_retain-features.result ≡ flags c.args.features = ap flags (c.from_bits_retain-features.ensures tt) in
    λ e. subst (λ (f : WasmFeatures). AreTold c.args.bytes.now f c.tell_tables-told.new.totals c.args.tables.now c.tell_tables-told.new.tables c.args.entries.now c.tell_tables-told.new.entries) bits
    (c.tell_tables-told.ensures.told (c.done_or_wrong.ensures.done e))

pub returns-in-Ok-clause-stays : goal.returns-in-Ok-clause-stays
returns-in-Ok-clause-stays c =
    λ n. c.tell_tables-told.ensures.stays (c.done_or_wrong.ensures.wrong n)

pub returns-in-Ok-clause-large : goal.returns-in-Ok-clause-large
returns-in-Ok-clause-large c =
    let bits : c.from_bits_retain-features.result ≡ flags c.args.features = ap flags (c.from_bits_retain-features.ensures tt) in
    λ e. subst (λ (f : WasmFeatures). HasSomeLargeBody c.args.bytes.now f) bits
    (rw c.in-Ok.is at (c.tell_tables-told.ensures.large (c.done_or_wrong.ensures.wrong (λ h. absurd (omega (arith, e, h))))))

pub returns-clause-valid : goal.returns-clause-valid
returns-clause-valid c =
    λ e. absurd (not_done c.in-Err.refusal (sym c.error_status.ensures ∙ e))

pub returns-clause-tables : goal.returns-clause-tables
returns-clause-tables c =
    λ e. absurd (not_done c.in-Err.refusal (sym c.error_status.ensures ∙ e))

pub returns-clause-refused : goal.returns-clause-refused
returns-clause-refused c =
    let told = c.tell_tables-told.result.answer in
    let bits : c.from_bits_retain-features.result ≡ flags c.args.features = ap flags (c.from_bits_retain-features.ensures tt) in
    let d : DecidesAlone told c.args.bytes.now 0 (flags c.args.features) = subst (λ (f : WasmFeatures). DecidesAlone told c.args.bytes.now 0 f) bits c.tell_tables-told.ensures.decided in
    let refused = rw c.in-Err.is at d in
    λ e. refused_status c.in-Err.refusal c.args.bytes.now (flags c.args.features) refused (sym c.error_status.ensures ∙ e)

pub returns-clause-stays : goal.returns-clause-stays
returns-clause-stays c =
    λ n. c.tell_tables-told.ensures.stays (rw c.in-Err.is at c.tell_tables-told.ensures.refused)

pub returns-clause-wrong : goal.returns-clause-wrong
returns-clause-wrong c =
    λ e. absurd (not_wrong c.in-Err.refusal (sym c.error_status.ensures ∙ e))

pub returns-clause-large : goal.returns-clause-large
returns-clause-large c =
    λ e. absurd (not_wrong c.in-Err.refusal (sym c.error_status.ensures ∙ e))
