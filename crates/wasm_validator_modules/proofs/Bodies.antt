-- Bodies that are validated one after another.
use Rattle.std.proofs.Common.{◌≡◌, refl, sym, ap, subst, ◌∙◌, inl, inr, ℕ, ◌≤◌, length, map, List, [], ◌∷◌, ◌++◌, All, Some, None, arith}
use Rattle.std.proofs.lemmas.List.{map-append}
use Rattle.std.specs.declared.result.Result.TheVariants as results
use Rattle.wasm_spec_rules.specs.Contexts.{Context}
use Rattle.wasm_readers_types.specs.WasmReadersValues.declared.indices.UnpackedIndex.{UnpackedIndex}
use Rattle.wasm_readers_errors.specs.declared.error.Error.{Error}
use Rattle.wasm_readers_errors.specs.declared.error.Error.TheVariants.{Refused, OutOfMemory}
use Rattle.wasm_validator_states.specs.WasmParser.declared.function_body.FunctionBody.{FunctionBody}
use Rattle.wasm_validator_states.specs.WasmParser.PayloadViews.{body_reader}
use Rattle.wasm_validator_states.specs.WasmValidatorSections.WasmValidatorFunc.declared.func_validator.FuncToValidate.{FuncToValidate}
use Rattle.wasm_validator_states.specs.WasmValidatorSections.WasmValidatorFunc.Functions.{Refuses, StandsInOrFirst}
use Rattle.wasm_validator_states.proofs.WholeModules.{one_of}
use Rattle.wasm_validator_states.specs.WasmValidatorSections.WasmValidatorCore.declared.error.Error as whole
use Rattle.wasm_validator_states.specs.WasmValidatorSections.WasmValidatorCore.Errors.{lifted_in}
use Rattle.wasm_validator_states.specs.WasmValidatorSections.SectionFaults.{StandsBetween}
use Rattle.wasm_readers_errors.specs.WasmReadersFeatures.declared.features.WasmFeatures.{WasmFeatures}
use Rattle.wasm_validator_states.specs.States.{BodyToValidate}
use Rattle.wasm_validator_states.specs.Payloads.{IsBodyOfIts, DecidesBodies}
use Rattle.wasm_validator_states.specs.BodyAnswers.{body_seen}
use Rattle.wasm_validator_modules.specs.PayloadAnswers.{bodies_seen, pending_seen, pending_in, EndsBy, AllEndBy, GivenEndBy, StandsBy}
use Rattle.wasm_validator_modules.specs.declared.payload.PendingBody.{PendingBody}
use Rattle.wasm_validator_modules.specs.declared.payload.Bodies.{Bodies}
use Rattle.wasm_validator_modules.specs.declared.payload.ValidPayload.{ValidPayload}
use Rattle.wasm_validator_modules.specs.declared.payload.ValidPayload.TheVariants.{Ok, Func, End}

-- where one is refused, that is told, with its function
pub refused_one : {A : Type 0} (features : WasmFeatures) (context : Context UnpackedIndex) (xs ys rest : List PendingBody) (p : PendingBody) (e : Error) (f : whole.Error A) → f ≡ lifted_in p.index e → xs ≡ ys ++ p ∷ rest
    → All IsBodyOfIts (map (pending_seen features context) ys) → Refuses (IsBodyOfIts (pending_seen features context p)) e
    → DecidesBodies {T = Unit {0}} (map (pending_seen features context) xs) (results.Err f)
refused_one {A} features context xs ys rest p (Refused r) f is same valid h =
    let seen : List PendingBody → List BodyToValidate = map (pending_seen features context) in
    let P : whole.Error A → Type 0 = λ w. DecidesBodies {T = Unit {0}} (seen xs) (results.Err w) in
    subst P (sym is) (record {
      before = seen ys;
      body = pending_seen features context p;
      behind = seen rest;
      split = ap seen same ∙ map-append (pending_seen features context) ys (p ∷ rest);
      its_index = refl;
      valid_before = valid;
      invalid = h;
    })
refused_one {A} features context xs ys rest p OutOfMemory f is same valid h =
    let P : whole.Error A → Type 0 = λ w. DecidesBodies {T = Unit {0}} (map (pending_seen features context) xs) (results.Err w) in
    subst P (sym is) tt

-- a refusal stands where its body ends, or before
stands_in : (end : ℕ) (b : FunctionBody) (e : Error) → EndsBy end b → StandsInOrFirst (body_reader b) e → StandsBy end e
stands_in end b (Refused r) h (inl first) = omega (arith, first)
stands_in end b (Refused r) h (inr within) = omega (arith, h, within.1)
stands_in end b OutOfMemory h place = tt

pub stands_by : (end : ℕ) (xs ys rest : List PendingBody) (p : PendingBody) (e : Error) → xs ≡ ys ++ p ∷ rest
    → All (λ (q : PendingBody). EndsBy end q.body) xs → StandsInOrFirst (body_reader p.body) e → StandsBy end e
stands_by end xs ys rest p e same all place = stands_in end p.body e (one_of (λ (q : PendingBody). EndsBy end q.body) xs ys rest p same all) place

-- where none is pending
pub none_ends_by : {A : Type 0} (end : ℕ) (bodies : Bodies A) → bodies.pending.items ≡ [] → AllEndBy end bodies
none_ends_by end bodies e = subst (All (λ (q : PendingBody). EndsBy end q.body)) (sym e) (λ k d l. absurd (omega (arith, l)))

pub nothing_seen : {A : Type 0} (bodies : Bodies A) → bodies.resources ≡ None → bodies_seen bodies ≡ []
nothing_seen bodies e = ap (λ kept. pending_in bodies.features kept bodies.pending.items) e

-- one more, behind those that were pending before or as the first
pub pushed_first : (features : WasmFeatures) (context : Context UnpackedIndex) (xs : List PendingBody) (p : PendingBody) → xs ≡ p ∷ []
    → pending_in features (Some context) xs ≡ pending_seen features context p ∷ []
pushed_first features context xs p e = ap (map (pending_seen features context)) e

pub pushed_more : (features : WasmFeatures) (kept context : Context UnpackedIndex) (xs ys : List PendingBody) (p : PendingBody) → kept ≡ context → ys ≡ xs ++ p ∷ []
    → pending_in features (Some kept) ys ≡ pending_in features (Some kept) xs ++ pending_seen features context p ∷ []
pushed_more features kept context xs ys p same e =
    ap (map (pending_seen features kept)) e ∙ map-append (pending_seen features kept) xs (p ∷ [])
    ∙ ap (λ c. map (pending_seen features kept) xs ++ pending_seen features c p ∷ []) same

-- as its payload gave it
pub as_given : (features : WasmFeatures) (f : FuncToValidate (Context UnpackedIndex)) (b : FunctionBody) (p : PendingBody) → f.features ≡ features
    → pending_seen f.features f.resources p ≡ body_seen f b → pending_seen features f.resources p ≡ body_seen f b
as_given features f b p same seen = ap (λ g. pending_seen g f.resources p) (sym same) ∙ seen

pub given_wider : {A : Type 0} (a b : ℕ) (v : ValidPayload A) → a ≤ b → GivenEndBy a v → GivenEndBy b v
given_wider a b Ok h e = tt
given_wider a b (Func f body) h e = omega (arith, h, e)
given_wider a b (End t) h e = tt

-- of none
pub no_items : {X : Type 0} (xs : List X) → length xs ≡ 0 → xs ≡ []
no_items [] e = refl
no_items (x ∷ xs) e = absurd (omega (arith, e))

-- its refusal, handed on
pub between_in : {A : Type 0} (end index : ℕ) (e : Error) (f : whole.Error A) → f ≡ lifted_in index e → StandsBy end e → StandsBetween 0 end f
between_in {A} end index (Refused r) f same h =
    let P : whole.Error A → Type 0 = StandsBetween 0 end in
    subst P (sym same) (omega arith, h)
between_in {A} end index OutOfMemory f same h =
    let P : whole.Error A → Type 0 = StandsBetween 0 end in
    subst P (sym same) tt
