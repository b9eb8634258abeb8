-- What contracts see of the items of sections.
use Rattle.wasm_readers_bytes.specs.WasmSpec.BinaryModules as binary
use Rattle.wasm_readers_types.specs.SeenExterns.{extern_of, kind_of}
use Rattle.wasm_readers_types.specs.WasmReadersValues.declared.indices.UnpackedIndex.{UnpackedIndex}
use Rattle.wasm_readers.specs.declared.items.Import.{Import}
use Rattle.wasm_readers.specs.declared.items.Export.{Export}

-- an import, without where its names lie
abbrev pub import_of : Import → binary.Import UnpackedIndex
import_of i = record { module_name = i.module.now; item_name = i.name.now; ty = extern_of i.ty }

-- an export, without where its name lies
abbrev pub export_of : Export → binary.Export
export_of e = record { name = e.name.now; kind = kind_of e.kind; index = e.index }
