-- Which functions are exactly of their type: the imported ones as they say, and all that are defined.
use Rattle.std.proofs.Common.{◌≡◌, refl, sym, ap, ◌∙◌, ℕ, Bool, List, [], ◌∷◌, ◌++◌, map, append_assoc}
use Rattle.std.specs.List.{flat_map}
use Rattle.wasm_spec.specs.Syntax.{Extern, func_extern, func_exact_extern, table_extern, memory_extern, global_extern, tag_extern}
use Rattle.wasm_spec.specs.BinaryModules.{Import}
use Rattle.wasm_spec_rules.specs.Contexts.{exact_in, is_exact}
use Rattle.wasm_spec_rules.specs.IndexSpaces.{imported, functions_in}
use Rattle.wasm_laws_core.specs.WasmValidatorCoreResources.ModuleContexts.{exact_flags}
use Rattle.wasm_laws_core.proofs.ModuleOverIds.{defined-exact}

import-exact : (e : Extern ℕ) (xs : List ℕ) (bs : List Bool) → exact_flags (functions_in e ++ xs) (exact_in e ++ bs) ≡ exact_in e ++ exact_flags xs bs
import-exact (func_extern x) xs bs = refl
import-exact (func_exact_extern x) xs bs = refl
import-exact (table_extern t) xs bs = refl
import-exact (memory_extern m) xs bs = refl
import-exact (global_extern g) xs bs = refl
import-exact (tag_extern x) xs bs = refl

abbrev flags_of : List (Import ℕ) → List Bool
flags_of is = flat_map (λ (i : Import ℕ). exact_in i.ty) is

pub all-exact : (is : List (Import ℕ)) (xs : List ℕ) → exact_flags (imported functions_in is ++ xs) (flat_map (λ (i : Import ℕ). exact_in i.ty) is) ≡ flat_map (λ (i : Import ℕ). exact_in i.ty) is ++ map is_exact xs
all-exact [] xs = defined-exact xs
all-exact (i ∷ is) xs =
    ap (λ l. exact_flags l (exact_in i.ty ++ flags_of is)) (append_assoc (functions_in i.ty) (imported functions_in is) xs)
    ∙ import-exact i.ty (imported functions_in is ++ xs) (flags_of is)
    ∙ ap (λ l. exact_in i.ty ++ l) (all-exact is xs)
    ∙ sym (append_assoc (exact_in i.ty) (flags_of is) (map is_exact xs))
