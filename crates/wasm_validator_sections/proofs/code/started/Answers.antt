use Rattle.std.proofs.Common.{◌≡◌, sym, ap, subst, ◌∙◌, ℕ, ◌<◌, List, map, length, All}
use Rattle.wasm_spec.specs.Trees.{DefType}
use Rattle.wasm_validator_type_list.specs.DefTypes.{types_of_list}
use Rattle.wasm_validator_types.specs.Spaces.{Spaces}
use Rattle.wasm_validator_items.specs.WasmValidatorCoreResources.ById.{AreFirstByIds}
use Rattle.wasm_validator_items.specs.WasmValidatorCoreResources.ModuleContexts.{exact_flags, flagged_from}
use Rattle.wasm_validator_items.specs.WasmValidatorCoreResources.ListContexts.{list_declares}
use Rattle.wasm_validator_items.specs.WasmValidatorCoreResources.IndexContexts.{id_of}
use Rattle.wasm_laws_modules.specs.WasmLawsCore.ListedTypes.{types_declare}
use Rattle.wasm_laws_modules.proofs.WasmLawsCore.ListedTypes.{lists_declare_their_types}
use Rattle.wasm_laws_modules.specs.BodyContexts.{code_context}
use Rattle.wasm_validator_sections.proofs.code.started.Goals as goal

-- the list that is shared has the same types, and the lists that are shared are the module's
pub new-requires-2-clause-held : goal.new-requires-2-clause-held
new-requires-2-clause-held g c =
    let list : types_of_list c.in_ok-listed.listed ≡ types_of_list c.args.types.now = ap types_of_list c.in_ok-listed.ensures.copy in
    let spaces : c.in_ok-clone.field-0.value ≡ c.args.state.«module» = c.in_ok-clone.ensures.cases ∙ c.in_ok-spaces.ensures.ok ∙ c.into_spaces.ensures in
    subst (λ (s : Spaces). All (λ (id : ℕ). id < length (types_of_list c.in_ok-listed.listed)) s.types) (sym spaces)
    (subst (λ (ts : List DefType). All (λ (id : ℕ). id < length ts) c.args.state.«module».types) (sym list) c.requires.held)

pub returns-clause-begun : goal.returns-clause-begun
returns-clause-begun g c =
    let us = types_of_list c.args.types.now in
    let told = lists_declare_their_types c.args.types.now.is_canonical c.args.types.now.groups c.tells_types_apart.ensures.listable c.tells_types_apart.ensures.apart in
    let list = c.in_ok-listed.ensures.copy in
    let declares : list_declares id_of c.in_ok-listed.listed.groups ≡ types_declare us us = ap (λ l. list_declares id_of l.groups) list ∙ told in
    let spaces : c.in_ok-clone.field-0.value ≡ c.args.state.«module» = c.in_ok-clone.ensures.cases ∙ c.in_ok-spaces.ensures.ok ∙ c.into_spaces.ensures in
    let flags : c.into_flags.result.items ≡ c.args.state.referenced = c.into_flags.ensures in
    let context : c.in_ok-resources.resources ≡ code_context us c.args.state.«module» c.args.state.data_count (flagged_from 0 c.args.state.referenced) =
    c.in_ok-resources.ensures ∙ (λ i. record {
      types = map id_of (spaces i).types;
      declares = declares i;
      functions = (spaces i).functions;
      exact = exact_flags (spaces i).functions (spaces i).imported_functions;
      tables = (spaces i).tables;
      memories = (spaces i).memories;
      globals = (spaces i).globals;
      tags = (spaces i).tags;
      elements = (spaces i).elements;
      data_count = c.args.state.data_count;
      references = flagged_from 0 (flags i);
    }) in
    λ i. record { context = (c.new-3.ensures.resources ∙ context) i; taken = c.new-3.ensures.taken i }

-- what is kept for constant expressions follows the list that is shared, which has the same groups
pub committed-requires : goal.committed-requires
committed-requires g c = subst (λ l. AreFirstByIds l.groups c.args.constants.now.types) (sym c.in_ok-listed.ensures.copy) c.requires.first

pub returns-clause-first : goal.returns-clause-first
returns-clause-first g c = subst (λ l. AreFirstByIds l.groups c.committed.new.self.types) c.in_ok-listed.ensures.copy c.in_ok-by_ids.ensures.first
