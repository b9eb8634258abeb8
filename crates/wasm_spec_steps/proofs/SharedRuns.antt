-- The bodies of shared functions and of atomic accesses, run.
use Rattle.std.proofs.Common.{refl}
use Rattle.wasm_spec_steps.specs.SharedExamples.{ReachesGlobalsAndTables, ReachesFunctions, ReachesStructures, ReachesArrays, ReachesTheRest, AtomicAccesses, NoAtomicAccesses}

pub reaches_globals_and_tables : ReachesGlobalsAndTables
reaches_globals_and_tables = refl

pub reaches_functions : ReachesFunctions
reaches_functions = refl

pub reaches_structures : ReachesStructures
reaches_structures = refl

pub reaches_arrays : ReachesArrays
reaches_arrays = refl

pub reaches_the_rest : ReachesTheRest
reaches_the_rest = refl

pub atomic_accesses : AtomicAccesses
atomic_accesses = refl

pub no_atomic_accesses : NoAtomicAccesses
no_atomic_accesses = refl

pub ruleset shared_runs = (reaches_globals_and_tables, reaches_functions, reaches_structures, reaches_arrays, reaches_the_rest, atomic_accesses, no_atomic_accesses)
