use Rattle.std.proofs.Common.{map, take}
use Rattle.std.specs.Fmt.{HasWritten, IsPlainFormatter}
use Rattle.wasm_readers_values.specs.SeenValues.{val_of}
use Rattle.wasm_readers_types.specs.Texts.{spaced}
use Rattle.wasm_readers_types.proofs.text.write_each.Given as goal

abbrev pub invariant-types : goal.invariant-types
invariant-types g l = IsPlainFormatter l.initial.f → HasWritten g.W.Write.write_str_gives l.initial.f (spaced (map val_of (take l.ty-index l.types))) l.f
