use Rattle.std.proofs.Common.{arith, sym, subst}
use Rattle.std.proofs.lemmas.Grind.{common_steps}
use Rattle.wasm_validator_types.specs.SpacesSeen.{numbers, shown_import, shown_export, AreImportsAmong, AreExportsAmong}
use Rattle.wasm_validator_types.proofs.FunctionsAndTags.{imports_pushed, exports_pushed}
use Rattle.std.proofs.Common.{map}
use Rattle.wasm_validator_types.proofs.index_spaces.IndexSpaces.push_type.Goals as goal

-- memory is refused, and there is no type more
pub invariant_of-self : goal.invariant_of-self
invariant_of-self g c =
    let was = c.self.invariant in
    let same = sym c.in_err-push.ensures.items in
    record {
      types = grind (arith, common_steps);
      functions = was.functions;
      tables = was.tables;
      memories = was.memories;
      globals = was.globals;
      tags = was.tags;
      elements = was.elements;
      functions_typed = grind (arith, common_steps);
      tags_typed = grind (arith, common_steps);
      imported_globals = was.imported_globals;
      imports_typed = subst (λ ids. AreImportsAmong (numbers ids) (map shown_import c.self.inside.imports.entries)) same was.imports_typed;
      exports_typed = subst (λ ids. AreExportsAmong (numbers ids) (map shown_export c.self.inside.exports.entries)) same was.exports_typed;
    }

pub invariant_of-self-2 : goal.invariant_of-self-2
invariant_of-self-2 g c =
    let was = c.self.invariant in
    record {
      types = grind (arith, common_steps);
      functions = was.functions;
      tables = was.tables;
      memories = was.memories;
      globals = was.globals;
      tags = was.tags;
      elements = was.elements;
      functions_typed = grind (arith, common_steps);
      tags_typed = grind (arith, common_steps);
      imported_globals = was.imported_globals;
      imports_typed = imports_pushed c.self.inside.types.items c.push.new.self.items c.args.id (map shown_import c.self.inside.imports.entries) c.in_ok-push.ensures.items was.imports_typed;
      exports_typed = exports_pushed c.self.inside.types.items c.push.new.self.items c.args.id (map shown_export c.self.inside.exports.entries) c.in_ok-push.ensures.items was.exports_typed;
    }
