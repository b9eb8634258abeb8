-- Two modules of one validator.
use Rattle.std.specs.Prelude.{if◌then◌else◌, nat_lt, length}
use Rattle.std.specs.declared.alloc.Global.{Global}
use Rattle.wasm_validator.specs.WasmValidatorTypes.WasmValidatorTypeList.ListViews.{Listing, types_in}

-- the list with more types, which has those of both where one begins the other
abbrev pub longer : Listing Global → Listing Global → Listing Global
longer l m = if nat_lt (length (types_in l)) (length (types_in m)) then m else l
