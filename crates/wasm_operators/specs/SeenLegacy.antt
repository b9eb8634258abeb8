-- What contracts see of the operators of legacy exceptions.
use Rattle.wasm_operators_proposals.specs.WasmOperatorsPlain.WasmReadersTypes.WasmReadersValues.declared.indices.UnpackedIndex.{UnpackedIndex}
use Rattle.wasm_operators.specs.Legacy as syntax
use Rattle.wasm_operators.specs.Legacy.{Legacy}
use Rattle.wasm_operators.specs.SeenControl.{block_of}
use Rattle.wasm_operators.specs.declared.legacy.LegacyOperator.{LegacyOperator}
use Rattle.wasm_operators.specs.declared.legacy.LegacyOperator.TheVariants as legacy

abbrev pub legacy_of : LegacyOperator → Legacy UnpackedIndex
legacy_of (legacy.Try b) = syntax.try_ (block_of b)
legacy_of (legacy.Catch x) = syntax.catch_ x
legacy_of (legacy.Rethrow l) = syntax.rethrow l
legacy_of (legacy.Delegate l) = syntax.delegate l
legacy_of legacy.CatchAll = syntax.catch_all
