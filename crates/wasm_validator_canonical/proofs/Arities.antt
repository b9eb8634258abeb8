-- How many parameters and results a type has is written in its recursive type.
use Rattle.std.proofs.Common.{◌≡◌, refl, sym, ap, ◌∙◌, ℕ, length, slice_get, Option, Some, None}
use Rattle.std.specs.Option.{option_map, option_and_then}
use Rattle.std.proofs.lemmas.List.{length-map}
use Rattle.wasm_spec.specs.Syntax.{Comp, func, array, struct, cont, map_comp, map_val, Sub, map_sub}
use Rattle.wasm_spec.specs.Trees.{DefType, TypeUse, members, denote, declared}
use Rattle.wasm_spec_rules.specs.IndexSpaces.{signature}
use Rattle.wasm_validator_canonical.specs.Arities.{arity, type_arity, IdsKeepArities}

-- by what is written
abbrev comp_arity : {R : Type 0} → Comp R → Option (ℕ × ℕ)
comp_arity (func ps rs) = Some (length ps, length rs)
comp_arity (array x) = None
comp_arity (struct xs) = None
comp_arity (cont r) = None

abbrev member_arity : Option (Sub TypeUse) → Option (ℕ × ℕ)
member_arity o = option_and_then (λ (s : Sub TypeUse). comp_arity s.comp) o

mapped_arity : (f : TypeUse → DefType) (c : Comp TypeUse) → option_map arity (signature (map_comp f c)) ≡ comp_arity c
mapped_arity f (func ps rs) = λ i. Some (length-map ps (map_val f) i, length-map rs (map_val f) i)
mapped_arity f (array x) = refl
mapped_arity f (struct xs) = refl
mapped_arity f (cont r) = refl

declared_arity_of : (f : TypeUse → DefType) (o : Option (Sub TypeUse)) → option_map arity (option_and_then (λ (s : Sub DefType). signature s.comp) (option_map (map_sub f) o)) ≡ member_arity o
declared_arity_of f None = refl
declared_arity_of f (Some s) = mapped_arity f s.comp

declared_arity : (d : DefType) → type_arity d ≡ member_arity (slice_get (members d.tree) d.position)
unfolding declared
declared_arity d = declared_arity_of (denote d.tree) (slice_get (members d.tree) d.position)

pub ids_keep_arities : IdsKeepArities
ids_keep_arities c us id d s =
    ap (option_and_then type_arity) s.is_there
    ∙ declared_arity s.listed
    ∙ (λ i. member_arity (slice_get (s.same_members i) (s.same_position i)))
    ∙ sym (declared_arity d)
