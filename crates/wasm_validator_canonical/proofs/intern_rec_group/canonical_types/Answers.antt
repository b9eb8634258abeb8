use Rattle.std.proofs.Common.{◌≡◌, sym, ap, subst, ◌∙◌, ◌+◌, ◌<◌, true, false, not, ◌&&◌, ◌||◌, map, length, arith, All}
use Rattle.std.specs.Prelude.{IfOk, IfErr}
use Rattle.std.specs.List.{list_all}
use Rattle.std.proofs.lemmas.List.{length-map}
use Rattle.wasm_spec.specs.Syntax.{map_sub}
use Rattle.wasm_spec_rules.specs.FeatureFlags.{features_of}
use Rattle.wasm_readers_types.specs.SeenTypes.{sub_of, rec_of}
use Rattle.wasm_readers_types.specs.WasmReadersValues.declared.indices.CoreTypeId.{CoreTypeId}
use Rattle.wasm_readers_types.specs.WasmReadersValues.declared.indices.TheConstants.{MAX_IDS}
use Rattle.wasm_validator_canonical.specs.Answers.{Says, IsAt}
use Rattle.wasm_validator_canonical.specs.Indices.{numbers, canonical_index, are_bound, extends_at_most_one, extend_at_most_one}
use Rattle.wasm_validator_canonical.proofs.CanonicalTypes.{and_false}
use Rattle.wasm_validator_canonical.proofs.Bounds.{closes_is}
use Rattle.wasm_validator_canonical.proofs.GroupRefusals.{err_says, index_tells}
use Rattle.wasm_validator_canonical.proofs.intern_rec_group.canonical_types.Goals as goal

pub returns-then-not-extend_at_most_one-clause-closes : goal.returns-then-not-extend_at_most_one-clause-closes
returns-then-not-extend_at_most_one-clause-closes g c =
    let F = features_of c.args.features in
    let w = rec_of c.args.group in
    let n = length c.args.ids.now in
    let bound = are_bound F.gc n (n + length w.types) n w.types in
    let many : false ≡ list_all extends_at_most_one w.types = c.if-not-extend_at_most_one.ensures ∙ ap (λ l. list_all extends_at_most_one (map sub_of l)) c.types.ensures in
    let allowed = not w.is_explicit || F.gc in
    sym (closes_is F n w) ∙ ap (λ b. allowed && (b && bound)) (sym many) ∙ and_false allowed

pub sub_types-requires-clause-small : goal.sub_types-requires-clause-small
sub_types-requires-clause-small g c =
    let same = c.new-canonicalizer.ensures.ids in
    let end = c.new-canonicalizer.ensures.end in
    let many = ap length c.types-2.ensures in
    let fits = c.requires.fits in
    record {
      ids = subst (All (λ (id : CoreTypeId). id.index < MAX_IDS)) (sym same) c.requires.small;
      end = omega (arith, end, many, fits, ap length same);
    }

pub returns-clause-value : goal.returns-clause-value
returns-clause-value g c =
    subst (λ l. IfOk c.sub_types.result (λ ss. map sub_of ss.items ≡ map (map_sub (canonical_index (numbers l))) (map sub_of c.args.group.types))) c.new-canonicalizer.ensures.ids
    (subst (λ l. IfOk c.sub_types.result (λ ss. map sub_of ss.items ≡ map (map_sub (canonical_index (numbers c.new-canonicalizer.result.ids.now))) (map sub_of l))) c.into_types.ensures c.sub_types.ensures.value)

pub returns-clause-closes : goal.returns-clause-closes
returns-clause-closes g c =
    let F = features_of c.args.features in
    let w = rec_of c.args.group in
    let n = length c.args.ids.now in
    let k = c.new-canonicalizer.result in
    let gc : k.has_gc ≡ F.gc = c.new-canonicalizer.ensures.gc ∙ c.contains-has_gc.ensures tt in
    let many : length c.types-2.result.now ≡ length w.types = ap length c.types-2.ensures ∙ sym (length-map c.args.group.types sub_of) in
    let last = c.new-canonicalizer.ensures.end in
    let end : k.end ≡ n + length w.types = omega (arith, last, many) in
    let bound = are_bound F.gc n (n + length w.types) n w.types in
    let one : true ≡ list_all extends_at_most_one w.types = c.if-not-extend_at_most_one.ensures ∙ ap (λ l. list_all extends_at_most_one (map sub_of l)) c.types.ensures in
    subst (Says c.sub_types.result)
    ((λ i. are_bound (gc i) (length (c.new-canonicalizer.ensures.ids i)) (end i) (length (c.new-canonicalizer.ensures.ids i)) (map sub_of (c.into_types.ensures i)))
    ∙ ap (λ b. b && bound) one
    ∙ ap (λ b. b && (list_all extends_at_most_one w.types && bound)) c.if-not-may_be_written.ensures
    ∙ closes_is F n w)
    c.sub_types.ensures.known

pub returns-clause-place : goal.returns-clause-place
returns-clause-place g c = subst (λ n. IfErr c.sub_types.result (IsAt n)) c.new-canonicalizer.ensures.offset c.sub_types.ensures.place

pub returns-clause-told : goal.returns-clause-told
returns-clause-told g c =
    let F = features_of c.args.features in
    let w = rec_of c.args.group in
    let n = length c.args.ids.now in
    let k = c.new-canonicalizer.result in
    let gc : k.has_gc ≡ F.gc = c.new-canonicalizer.ensures.gc ∙ c.contains-has_gc.ensures tt in
    let many : length c.types-2.result.now ≡ length w.types = ap length c.types-2.ensures ∙ sym (length-map c.args.group.types sub_of) in
    let last = c.new-canonicalizer.ensures.end in
    let end : k.end ≡ n + length w.types = omega (arith, last, many) in
    let one : true ≡ extend_at_most_one w = c.if-not-extend_at_most_one.ensures ∙ ap (λ l. list_all extends_at_most_one (map sub_of l)) c.types.ensures in
    err_says c.sub_types.result
    (λ r t.
    index_tells c.args.features c.args.offset n w r k.has_gc (length k.ids.now) k.end k.offset gc (ap length c.new-canonicalizer.ensures.ids) end c.new-canonicalizer.ensures.offset (sym c.if-not-may_be_written.ensures) (sym one) t)
    c.sub_types.ensures.told
