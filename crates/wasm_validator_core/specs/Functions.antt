-- The types of functions, as the list of types has them.
use Rattle.std.specs.Prelude.{ℕ, ◌≡◌, slice_get, Some, None}
use Rattle.wasm_readers_errors.specs.declared.error.Fault.TheVariants.{UnknownFunction}
use Rattle.wasm_readers_errors.specs.declared.error.Refusal.{Refusal}
use Rattle.wasm_readers_types.specs.declared.types.FuncType.{FuncType}
use Rattle.wasm_readers_types.specs.declared.types.SubType.{SubType}
use Rattle.wasm_readers_types.specs.declared.types.CompositeInnerType.TheVariants.{Func}
use Rattle.wasm_validator_checks.specs.WasmValidatorTypeList.ListViews.{Listing, types_in}
use Rattle.wasm_validator_checks.specs.WasmValidatorTypes.Spaces.{Spaces}

-- the type of the function with this index is this function type of the list, under the id of its type index
pub record IsTypeOfFunction {A : Type 0} (list : Listing A) (s : Spaces) (x : ℕ) (f : FuncType A) : Type 0 where
  pub type_index : ℕ
  pub id : ℕ
  pub ty : SubType A
  pub at : slice_get s.functions x ≡ Some type_index
  pub id_at : slice_get s.types type_index ≡ Some id
  pub there : slice_get (types_in list) id ≡ Some ty
  pub is_func : ty.composite_type.inner ≡ Func f

-- the refusal of a function index that is out of range
abbrev pub IsUnknownFunction : ℕ → ℕ → Refusal → Type 0
IsUnknownFunction x offset refusal = refusal ≡ record { fault = UnknownFunction x; offset = offset; missing = None }
