use Rattle.std.proofs.Common.{ap, sym, subst}
use Rattle.wasm_validator_types.specs.Entities.{entity_of, IsAmong}
use Rattle.wasm_validator_types.specs.Spaces.{Spaces}
use Rattle.wasm_validator_types.specs.SpacesSeen.{numbers}
use Rattle.wasm_validator_types.proofs.FunctionsAndTags.{imports_after}
use Rattle.wasm_validator_types.proofs.index_spaces.IndexSpaces.add_import.Goals as goal

pub invariant_of-self : goal.invariant_of-self
invariant_of-self g c =
    let was = c.self.invariant in
    let ids = numbers c.self.inside.types.items in
    let typed : IsAmong ids (entity_of c.args.entity) = subst (λ ts. IsAmong ts (entity_of c.args.entity)) (sym (ap (λ (s : Spaces). s.types) c.self.view_is)) c.requires in
    record {
      types = was.types;
      functions = was.functions;
      tables = was.tables;
      memories = was.memories;
      globals = was.globals;
      tags = was.tags;
      elements = was.elements;
      functions_typed = was.functions_typed;
      tags_typed = was.tags_typed;
      imported_globals = was.imported_globals;
      imports_typed = imports_after ids c.self.inside.imports.entries c.add_to_pair.new.imports.entries (c.in_ok-source.source, c.in_ok-name.name) c.args.entity c.add_to_pair.result c.add_to_pair.ensures.ok c.add_to_pair.ensures.err was.imports_typed typed;
      exports_typed = was.exports_typed;
    }
