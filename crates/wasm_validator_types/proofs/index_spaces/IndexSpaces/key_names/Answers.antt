use Rattle.std.proofs.Common.{ap, sym, subst, map}
use Rattle.wasm_validator_types.specs.SpacesSeen.{numbers, shown_import, shown_export, AreImportsAmong, AreExportsAmong}
use Rattle.wasm_validator_types.proofs.index_spaces.IndexSpaces.key_names.Goals as goal

-- no entry is another
pub invariant_of-self : goal.invariant_of-self
invariant_of-self g c =
    let was = c.self.invariant in
    let ids = numbers c.self.inside.types.items in
    record {
      types = was.types;
      functions = was.functions;
      tables = was.tables;
      memories = was.memories;
      globals = was.globals;
      tags = was.tags;
      elements = was.elements;
      functions_typed = was.functions_typed;
      tags_typed = was.tags_typed;
      imported_globals = was.imported_globals;
      imports_typed = subst (AreImportsAmong ids) (ap (map shown_import) (sym c.key_imports.ensures.same)) was.imports_typed;
      exports_typed = subst (AreExportsAmong ids) (ap (map shown_export) (sym c.key_exports.ensures.same)) was.exports_typed;
    }
