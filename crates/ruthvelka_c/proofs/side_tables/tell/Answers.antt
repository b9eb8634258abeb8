use Rattle.std.proofs.Common.{◌≡◌, ap, inl, inr, subst}
use Rattle.wasm_readers_errors.specs.WasmReadersFeatures.declared.features.WasmFeatures.{WasmFeatures}
use Rattle.wasm_validator_tables.specs.FunctionTables.{HasNoBody, HasLargeBody}
use Rattle.wasm_validator_tables.specs.TableReports.{IsTold}
use Rattle.ruthvelka_c.specs.Reports.{flags}
use Rattle.ruthvelka_c.proofs.side_tables.tell.Goals as goal

pub returns-in-Ok-clause-table : goal.returns-in-Ok-clause-table
returns-in-Ok-clause-table c = λ e.
    let bits : c.from_bits_retain-features.result ≡ flags c.args.features = ap flags (c.from_bits_retain-features.ensures tt) in
    subst (λ (f : WasmFeatures). IsTold c.args.bytes.now f c.args.function c.tell_table.new.counts c.args.entries.now c.tell_table.new.entries) bits c.in-Ok.ensures.told

pub returns-in-Err-NoBody-clause-none : goal.returns-in-Err-NoBody-clause-none
returns-in-Err-NoBody-clause-none c = λ e.
    let bits : c.from_bits_retain-features.result ≡ flags c.args.features = ap flags (c.from_bits_retain-features.ensures tt) in
    let why = rw c.in-Err-NoBody.field-0-is at c.in-Err-NoBody.ensures.decides in
    inl (subst (λ (f : WasmFeatures). HasNoBody c.args.bytes.now f c.args.function) bits why)

pub returns-clause-none : goal.returns-clause-none
returns-clause-none c = λ e.
    let bits : c.from_bits_retain-features.result ≡ flags c.args.features = ap flags (c.from_bits_retain-features.ensures tt) in
    let why = rw c.in-Err-TooLarge.field-0-is at c.in-Err-TooLarge.ensures.decides in
    inr (subst (λ (f : WasmFeatures). HasLargeBody c.args.bytes.now f c.args.function) bits why)
