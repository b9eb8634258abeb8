use Rattle.std.proofs.Common.{ap, sym, subst, map}
use Rattle.wasm_validator_types.specs.Entities.{entity_of, IsAmong}
use Rattle.wasm_validator_types.specs.Spaces.{Spaces}
use Rattle.wasm_validator_types.specs.SpacesSeen.{numbers, shown_export, AreExportsAmong}
use Rattle.wasm_validator_types.proofs.Exports.{new_export_at}
use Rattle.wasm_validator_types.proofs.FunctionsAndTags.{export_among}
use Rattle.wasm_validator_types.proofs.index_spaces.IndexSpaces.add_export.Goals as goal

pub returns-clause-ok : goal.returns-clause-ok
returns-clause-ok g c =
    let seen = ap (λ (s : Spaces). s.exports) c.self.view_is in
    let added = new_export_at c.self.inside.exports.entries c.insert.new.self.entries _ c.in_ok-key.key _ c.args.entity seen c.in_ok-key.ensures.ok c.requires.new c.in_ok-insert.ensures.entries in
    λ i. record (c.self.view_is i) { exports = added i }

-- memory is refused, and there is no export more
pub invariant_of-self : goal.invariant_of-self
invariant_of-self g c =
    let was = c.self.invariant in
    let ids = numbers c.self.inside.types.items in
    record {
      types = was.types;
      functions = was.functions;
      tables = was.tables;
      memories = was.memories;
      globals = was.globals;
      tags = was.tags;
      elements = was.elements;
      functions_typed = was.functions_typed;
      tags_typed = was.tags_typed;
      imported_globals = was.imported_globals;
      imports_typed = was.imports_typed;
      exports_typed = subst (λ es. AreExportsAmong ids (map shown_export es)) (sym c.in_err-insert.ensures.err) was.exports_typed;
    }

pub invariant_of-self-2 : goal.invariant_of-self-2
invariant_of-self-2 g c =
    let was = c.self.invariant in
    let ids = numbers c.self.inside.types.items in
    let entity = entity_of c.args.entity in
    let seen = ap (λ (s : Spaces). s.exports) c.self.view_is in
    let typed : IsAmong ids entity = subst (λ ts. IsAmong ts entity) (sym (ap (λ (s : Spaces). s.types) c.self.view_is)) c.requires.typed in
    let added = new_export_at c.self.inside.exports.entries c.insert.new.self.entries _ c.in_ok-key.key _ c.args.entity seen c.in_ok-key.ensures.ok c.requires.new c.in_ok-insert.ensures.entries in
    record {
      types = was.types;
      functions = was.functions;
      tables = was.tables;
      memories = was.memories;
      globals = was.globals;
      tags = was.tags;
      elements = was.elements;
      functions_typed = was.functions_typed;
      tags_typed = was.tags_typed;
      imported_globals = was.imported_globals;
      imports_typed = was.imports_typed;
      exports_typed = subst (AreExportsAmong ids) (sym added) (export_among ids c.args.self.now.exports c.args.name.now entity (subst (AreExportsAmong ids) seen was.exports_typed) typed);
    }
