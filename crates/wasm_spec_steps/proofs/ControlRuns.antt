-- The bodies of control, parametric and variable instructions, and the constant expressions, run.
use Rattle.std.proofs.Common.{refl}
use Rattle.wasm_spec_steps.specs.ControlExamples.{Blocks, NoBlocks, Branches, NoBranches, Calls, NoCalls, Exceptions, NoExceptions, Parametrics, NoParametrics, Variables, NoVariables, ControlNeedsFeatures, Constants, NoConstants, ConstantInstructions, NoConstantInstructions}

pub blocks : Blocks
blocks = refl

pub no_blocks : NoBlocks
no_blocks = refl

pub branches : Branches
branches = refl

pub no_branches : NoBranches
no_branches = refl

pub calls : Calls
calls = refl

pub no_calls : NoCalls
no_calls = refl

pub exceptions : Exceptions
exceptions = refl

pub no_exceptions : NoExceptions
no_exceptions = refl

pub parametrics : Parametrics
parametrics = refl

pub no_parametrics : NoParametrics
no_parametrics = refl

pub variables : Variables
variables = refl

pub no_variables : NoVariables
no_variables = refl

pub control_needs_features : ControlNeedsFeatures
control_needs_features = refl

pub constants : Constants
constants = refl

pub no_constants : NoConstants
no_constants = refl

pub constant_instructions : ConstantInstructions
constant_instructions = refl

pub no_constant_instructions : NoConstantInstructions
no_constant_instructions = refl

pub ruleset runs = (blocks, no_blocks, branches, no_branches, calls, no_calls, exceptions, no_exceptions, parametrics, no_parametrics, variables, no_variables, control_needs_features, constants, no_constants, constant_instructions, no_constant_instructions)
