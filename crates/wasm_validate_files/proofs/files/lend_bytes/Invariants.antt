use Rattle.std.proofs.Common.{◌≡◌, ◌≤◌, length, map, take, vec_len, vec_capacity}
use Rattle.wasm_validate_files.specs.Files.{bytes_held}
use Rattle.wasm_validate_files.proofs.files.lend_bytes.Given as goal

abbrev pub invariant-files : goal.invariant-files
invariant-files g l = record {
  lent : map (λ bytes. bytes.now) l.modules.items ≡ map bytes_held (take l.file-index l.files);
  count : vec_len l.modules ≡ l.file-index;
  room : length l.files ≤ vec_capacity l.modules;
}
