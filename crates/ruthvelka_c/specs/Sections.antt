-- What is told of where parts of a module lie, by statuses.
use Rattle.std.specs.Prelude.{ℕ, ◌≡◌, List}
use Rattle.std.specs.declared.result.Result.{Result}
use Rattle.std.specs.declared.result.Result.TheVariants.{Ok, Err}
use Rattle.wasm_parser_ranges.specs.CallerArrays.{TellsFound, TellsName}
use Rattle.wasm_parser_ranges.specs.declared.not_found.NotFound.{NotFound}
use Rattle.wasm_parser_ranges.specs.declared.not_found.NotFound.TheVariants.{NoModule, NoName, OutOfMemory}
use Rattle.ruthvelka_c.specs.declared.handles.TheConstants.{STATUS_DONE, STATUS_REFUSED, STATUS_NO_MEMORY}
use Rattle.ruthvelka_c.specs.declared.sections.TheConstants.{STATUS_NONE}

abbrev pub found_status : Result Unit NotFound → ℕ
found_status (Ok x) = STATUS_DONE
found_status (Err NoModule) = STATUS_REFUSED
found_status (Err NoName) = STATUS_NONE
found_status (Err OutOfMemory) = STATUS_NO_MEMORY

pub record FoundBy {X : Type 0} (Are : List ℕ → List X → Type 0) (bytes : List ℕ) (c0 c1 : ℕ) (old new : List X) (status : ℕ) : Type 0 where
  pub told : Result Unit NotFound
  pub tells : TellsFound Are bytes told c0 c1 old new
  pub is_status : status ≡ found_status told

pub record NamedBy (bytes : List ℕ) (index l0 l1 : ℕ) (old new : List ℕ) (status : ℕ) : Type 0 where
  pub told : Result Unit NotFound
  pub tells : TellsName bytes index told l0 l1 old new
  pub is_status : status ≡ found_status told
