use Rattle.std.proofs.Common.{◌∙◌, arith, rules}
use Rattle.wasm_readers_bytes.specs.Reader.{rest}
use Rattle.wasm_readers.specs.Entries.{given, one_at}
use Rattle.wasm_readers.specs.Items.{import_of}
use Rattle.wasm_readers.proofs.Loops.{one_passed}
use Rattle.wasm_readers.proofs.imports.read_compact.Goals as goal

pub imports-preserved : goal.imports-preserved
imports-preserved c =
    let encoded = one_at c.args.module.now (given c.args.ty) in
    record {
      same = search rules;
      onward = omega arith;
      so_far = one_passed encoded (import_of c.in_ok-_import._import) c.imports.left (rest c.imports.reader) (rest c.read_one.new.reader) (omega arith) c.in_ok-_import.ensures.ok ∙ c.imports.invariant.so_far;
    }
