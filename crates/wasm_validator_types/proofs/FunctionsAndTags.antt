-- The types of functions and tags that are imported or exported, as the lists of these grow.
use Rattle.std.proofs.Common.{◌≡◌, sym, subst, ap, ◌∙◌, ℕ, ◌<◌, Bool, true, false, if◌then◌else◌, List, [], ◌∷◌, ◌++◌, map}
use Rattle.std.specs.List.{All}
use Rattle.std.specs.Prelude.{OnOk, OnErr, IfSome, Option, None, Some}
use Rattle.std.specs.declared.result.Result.{Result}
use Rattle.std.specs.declared.result.Result.TheVariants.{Ok, Err}
use Rattle.std.specs.declared.string.String.{String}
use Rattle.std.specs.String.{string_bytes}
use Rattle.std.proofs.lemmas.List.{map-append}
use Rattle.std.proofs.lemmas.List.Elements.{All-nil, All-cons, All-head, All-tail, All-append, All-push, All-map, All-same, All-weaker}
use Rattle.wasm_readers.specs.WasmReadersTypes.WasmReadersValues.declared.indices.CoreTypeId.{CoreTypeId}
use Rattle.wasm_readers.specs.WasmReadersTypes.declared.externs.EntityType.{EntityType}
use Rattle.wasm_validator_types.specs.Entities.{Entity, entity_of, HasIdBelow, IsAmong}
use Rattle.wasm_validator_types.specs.Rows.{import_rows, all_imports}
use Rattle.wasm_validator_types.specs.Spaces.{is_pair, with_import}
use Rattle.wasm_validator_types.specs.SpacesSeen.{numbers, shown_import, AreImportsAmong, AreExportsAmong, AddsToPair}

-- what holds of some elements' front holds of the front
all_front : {X : Type 0} (P : X → Type 0) (xs ys : List X) → All P (xs ++ ys) → All P xs
all_front P [] ys h = All-nil P
all_front P (x ∷ xs) ys h = All-cons P x xs (All-head P x (xs ++ ys) h) (all_front P xs ys (All-tail P x (xs ++ ys) h))

-- more ids
pub among_more : (ids more : List ℕ) (e : Entity) → IsAmong ids e → IsAmong (ids ++ more) e
among_more ids more e h n below = h n (all_front (λ id. id < n) ids more below)

pub imports_among_more : (ids more : List ℕ) (imports : List ((List ℕ × List ℕ) × List Entity)) → AreImportsAmong ids imports → AreImportsAmong (ids ++ more) imports
imports_among_more ids more imports h =
    All-weaker (λ (p : (List ℕ × List ℕ) × List Entity). All (IsAmong ids) p.1) (λ (p : (List ℕ × List ℕ) × List Entity). All (IsAmong (ids ++ more)) p.1)
    (λ p g. All-weaker (IsAmong ids) (IsAmong (ids ++ more)) (among_more ids more) p.1 g) imports h

pub exports_among_more : (ids more : List ℕ) (exports : List (List ℕ × Entity)) → AreExportsAmong ids exports → AreExportsAmong (ids ++ more) exports
exports_among_more ids more exports h =
    All-weaker (λ (e : List ℕ × Entity). IsAmong ids e.1) (λ (e : List ℕ × Entity). IsAmong (ids ++ more) e.1) (λ e g. among_more ids more e.1 g) exports h

module _ (ids : List ℕ) where
  abbrev PairAmong : (List ℕ × List ℕ) × List Entity → Type 0
  PairAmong p = All (IsAmong ids) p.1

  -- an import more
  import_step :
      (b : Bool) (p : (List ℕ × List ℕ) × List Entity) (ps more : List ((List ℕ × List ℕ) × List Entity)) (e : Entity)
      → AreImportsAmong ids (p ∷ ps) → IsAmong ids e → AreImportsAmong ids more
      → AreImportsAmong ids (if b then (p.0, p.1 ++ e ∷ []) ∷ ps else p ∷ more)
  import_step true p ps more e h g m = All-cons PairAmong (p.0, p.1 ++ e ∷ []) ps (All-push (IsAmong ids) p.1 e (All-head PairAmong p ps h) g) (All-tail PairAmong p ps h)
  import_step false p ps more e h g m = All-cons PairAmong p more (All-head PairAmong p ps h) m

  pub import_among :
      (imports : List ((List ℕ × List ℕ) × List Entity)) (source name : List ℕ) (e : Entity) → AreImportsAmong ids imports → IsAmong ids e
      → AreImportsAmong ids (with_import imports source name e)
  import_among [] source name e h g = All-cons PairAmong ((source, name), e ∷ []) [] (All-cons (IsAmong ids) e [] g (All-nil (IsAmong ids))) (All-nil PairAmong)
  import_among (p ∷ ps) source name e h g =
      import_step (is_pair source name p.0) p ps (with_import ps source name e) e h g (import_among ps source name e (All-tail PairAmong p ps h) g)

  pub export_among : (exports : List (List ℕ × Entity)) (name : List ℕ) (e : Entity) → AreExportsAmong ids exports → IsAmong ids e → AreExportsAmong ids (exports ++ (name, e) ∷ [])
  export_among exports name e h g = All-push (λ (x : List ℕ × Entity). IsAmong ids x.1) exports (name, e) h g

  -- one by one
  abbrev RowAmong : List ℕ × List ℕ × Entity → Type 0
  RowAmong i = IsAmong ids i.2

  rows_among : (source name : List ℕ) (es : List Entity) → All (IsAmong ids) es → All RowAmong (import_rows source name es)
  rows_among source name es h = All-map RowAmong (λ e. (source, name, e)) es h

  pub all_among : (imports : List ((List ℕ × List ℕ) × List Entity)) → AreImportsAmong ids imports → All RowAmong (all_imports imports)
  all_among [] h = All-nil RowAmong
  all_among (p ∷ ps) h =
      All-append RowAmong (import_rows p.0.0 p.0.1 p.1) (all_imports ps) (rows_among p.0.0 p.0.1 p.1 (All-head PairAmong p ps h)) (all_among ps (All-tail PairAmong p ps h))

-- where all ids are below a number
pub rows_below : (ids : List ℕ) (n : ℕ) (rows : List (List ℕ × List ℕ × Entity)) → All (λ id. id < n) ids → All (λ (i : List ℕ × List ℕ × Entity). IsAmong ids i.2) rows → All (λ (i : List ℕ × List ℕ × Entity). HasIdBelow n i.2) rows
rows_below ids n rows below h = All-weaker (λ (i : List ℕ × List ℕ × Entity). IsAmong ids i.2) (λ (i : List ℕ × List ℕ × Entity). HasIdBelow n i.2) (λ i g. g n below) rows h

pub exports_below : (ids : List ℕ) (n : ℕ) (exports : List (List ℕ × Entity)) → All (λ id. id < n) ids → AreExportsAmong ids exports → All (λ (e : List ℕ × Entity). HasIdBelow n e.1) exports
exports_below ids n exports below h = All-weaker (λ (e : List ℕ × Entity). IsAmong ids e.1) (λ (e : List ℕ × Entity). HasIdBelow n e.1) (λ e g. g n below) exports h

-- a type more, and none
pub numbers_push : (old new : List CoreTypeId) (id : CoreTypeId) → new ≡ old ++ id ∷ [] → numbers new ≡ numbers old ++ id.index ∷ []
numbers_push old new id e = ap numbers e ∙ map-append (λ (i : CoreTypeId). i.index) old (id ∷ [])

pub imports_pushed : (old new : List CoreTypeId) (id : CoreTypeId) (imports : List ((List ℕ × List ℕ) × List Entity)) → new ≡ old ++ id ∷ [] → AreImportsAmong (numbers old) imports → AreImportsAmong (numbers new) imports
imports_pushed old new id imports e h = subst (λ ids. AreImportsAmong ids imports) (sym (numbers_push old new id e)) (imports_among_more (numbers old) (id.index ∷ []) imports h)

pub exports_pushed : (old new : List CoreTypeId) (id : CoreTypeId) (exports : List (List ℕ × Entity)) → new ≡ old ++ id ∷ [] → AreExportsAmong (numbers old) exports → AreExportsAmong (numbers new) exports
exports_pushed old new id exports e h = subst (λ ids. AreExportsAmong ids exports) (sym (numbers_push old new id e)) (exports_among_more (numbers old) (id.index ∷ []) exports h)

-- an import more, or none where memory is refused
module _ {A T E : Type 0} (ids : List ℕ) (old new : List ((String A × String A) × List EntityType)) (pair : String A × String A) (entity : EntityType) where
  pub imports_after :
      (r : Result T E) → OnOk r (AddsToPair old pair entity new) → OnErr r (new ≡ old)
      → AreImportsAmong ids (map shown_import old) → IsAmong ids (entity_of entity) → AreImportsAmong ids (map shown_import new)
  imports_after (Ok x) added same h g =
      subst (AreImportsAmong ids) (sym added) (import_among ids (map shown_import old) (string_bytes pair.0) (string_bytes pair.1) (entity_of entity) h g)
  imports_after (Err e) added same h g = subst (λ es. AreImportsAmong ids (map shown_import es)) (sym same) h

-- what is shown of them, under other names
pub imports_typed :
    (ids types : List ℕ) (imports : List ((List ℕ × List ℕ) × List Entity)) (rows : List (List ℕ × List ℕ × Entity)) → ids ≡ types → rows ≡ all_imports imports
    → AreImportsAmong ids imports → All (λ (i : List ℕ × List ℕ × Entity). IsAmong types i.2) rows
imports_typed ids types imports rows same e h =
    subst (λ ts. All (λ (i : List ℕ × List ℕ × Entity). IsAmong ts i.2) rows) same (All-same (RowAmong ids) rows (all_imports imports) e (all_among ids imports h))

pub exports_typed : (ids types : List ℕ) (exports rows : List (List ℕ × Entity)) → ids ≡ types → rows ≡ exports → AreExportsAmong ids exports → AreExportsAmong types rows
exports_typed ids types exports rows same e h = subst (λ ts. AreExportsAmong ts rows) same (All-same (λ (x : List ℕ × Entity). IsAmong ids x.1) rows exports e h)

-- what is found among the types of a module has an id below what these are below
pub found_below : (ids : List ℕ) (n : ℕ) (o : Option EntityType) → IfSome o (λ e. IsAmong ids (entity_of e)) → All (λ id. id < n) ids → IfSome o (λ e. HasIdBelow n (entity_of e))
found_below ids n None among below = tt
found_below ids n (Some e) among below = among n below
