-- Calls lead from a state that is reached to another.
use Rattle.std.proofs.Common.{refl, sym, subst, List, [], ◌∷◌, ◌++◌}
use Rattle.std.specs.declared.result.Result.TheVariants.{Ok, Err}
use Rattle.wasm_validator_states.specs.WasmValidatorCore.declared.error.Error.TheVariants.{Refused, DuplicateExport, InFunction, OutOfMemory}
use Rattle.wasm_validator_states.specs.ValidatorStages.{Standing, fresh, after_reset}
use Rattle.wasm_laws_sections.specs.CallStates.{Called, accepted, refused, without_memory, reset, Leads, LeadsAll, IsReached, NewStatesAreReached, CallsLeadOn, ResetsLeadOn}

lead_on : (cs : List Called) (c : Called) (s t u : Standing) → LeadsAll cs s t → Leads c t u → LeadsAll (cs ++ c ∷ []) s u
lead_on [] c s t u a b = (u, subst (λ (x : Standing). Leads c x u) (sym a) b, refl)
lead_on (d ∷ cs) c s t u a b = (a.0, a.1, lead_on cs c a.0 t u a.2 b)

one_more : (c : Called) (s t : Standing) → IsReached s → Leads c s t → IsReached t
one_more c s t r b = record { id = r.id; features = r.features; calls = r.calls ++ c ∷ []; led = lead_on r.calls c (fresh r.id r.features) s t r.led b }

pub new_states_are_reached : NewStatesAreReached
new_states_are_reached id features = record { id = id; features = features; calls = []; led = refl }

pub calls_lead_on : {T A : Type 0} → CallsLeadOn T A
calls_lead_on (Ok x) p old new h l v = one_more (accepted p) old new h (l, v)
calls_lead_on (Err (Refused r)) p old new h l v = one_more (refused p) old new h l.1
calls_lead_on (Err (DuplicateExport name offset)) p old new h l v = one_more (refused p) old new h l.1
calls_lead_on (Err (InFunction index r)) p old new h l v = absurd l
calls_lead_on (Err OutOfMemory) p old new h l v = one_more without_memory old new h l.2

pub resets_lead_on : ResetsLeadOn
resets_lead_on s h may = one_more reset s (after_reset s) h (may, refl)
