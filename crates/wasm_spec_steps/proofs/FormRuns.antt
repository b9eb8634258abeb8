-- The bodies of operators on vectors, and of atomic ones, run.
use Rattle.std.proofs.Common.{refl}
use Rattle.wasm_spec_steps.specs.FormExamples.{Vectors, NoVectors, Atomics, NoAtomics, FormsNeedFeatures}

pub vectors : Vectors
vectors = refl

pub no_vectors : NoVectors
no_vectors = refl

pub atomics : Atomics
atomics = refl

pub no_atomics : NoAtomics
no_atomics = refl

pub forms_need_features : FormsNeedFeatures
forms_need_features = refl

pub ruleset form_runs = (vectors, no_vectors, atomics, no_atomics, forms_need_features)
