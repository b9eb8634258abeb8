-- What the refusal of an operator says: where, which rule is broken, and the proposal that would lift it.
use Rattle.std.specs.Prelude.{◌≡◌, ℕ, Bool, true, false, Option, Some, None, ⊤}
use Rattle.std.specs.Option.{option_map}
use Rattle.wasm_validator_resources.specs.WasmSpec.Syntax.{Val}
use Rattle.wasm_validator_resources.specs.WasmReadersTypes.WasmReadersValues.SeenValues.{val_of}
use Rattle.wasm_validator_resources.specs.WasmReadersTypes.WasmReadersValues.declared.indices.UnpackedIndex.{UnpackedIndex}
use Rattle.wasm_validator_resources.specs.WasmReadersErrors.declared.error.Error.{Error}
use Rattle.wasm_validator_resources.specs.WasmReadersErrors.declared.error.Error.TheVariants as error
use Rattle.wasm_validator_resources.specs.WasmReadersErrors.declared.error.Fault.{Fault}
use Rattle.wasm_validator_resources.specs.WasmReadersErrors.declared.error.Fault.TheVariants as fault
use Rattle.wasm_validator_resources.specs.WasmReadersErrors.declared.error.Refusal.{Refusal}
use Rattle.wasm_validator_resources.specs.WasmReadersErrors.declared.error.Rule.TheVariants as type_rule
use Rattle.wasm_validator_resources.specs.WasmReadersErrors.LiftingProposals.{lifting}
use Rattle.wasm_validator_resources.specs.WasmReadersErrors.WasmReadersFeatures.declared.features.WasmFeatures.{WasmFeatures}
use Rattle.wasm_validator_resources.specs.WasmReadersErrors.WasmReadersFeatures.declared.operator_rules.OperatorRule.{OperatorRule}
use Rattle.wasm_validator_resources.specs.WasmReadersErrors.WasmReadersFeatures.declared.operator_rules.OperatorRule.TheVariants as rule
use Rattle.wasm_validator_resources.specs.ProposalRefusals.{told_of_val}
use Rattle.wasm_typing_stacks.specs.SeenTypeWords.{val_in}
use Rattle.wasm_typing_stacks.specs.WasmSpecSteps.Machine as machine
use Rattle.wasm_typing_stacks.specs.WasmSpecSteps.Machine.{known}
use Rattle.wasm_typing_stacks.specs.SeenOperands.{operand_of}
use Rattle.wasm_typing_checks.specs.declared.faults.OperatorFault.{OperatorFault}
use Rattle.wasm_typing_checks.specs.declared.faults.OperatorError.{OperatorError}
use Rattle.wasm_typing_checks.specs.declared.faults.OperatorError.TheVariants.{Refused, OutOfMemory}

-- the rule is that an operand of a given type is expected
abbrev pub is_operand : OperatorRule → Bool
is_operand rule.Operand = true
is_operand _ = false

-- an operand of the first type is expected, and there is one of the second, or none
abbrev pub IsOperandType : Fault → Val UnpackedIndex → Option (Val UnpackedIndex) → Type 0
IsOperandType (fault.OperandType e f) v o = (val_of e ≡ v) × (option_map val_of f ≡ o)
IsOperandType _ v o = ⊥

-- the same of an operand that is found, or none; where its type isn't known the rule alone is told
abbrev pub TellsFound : Fault → Val UnpackedIndex → Option (machine.Operand UnpackedIndex) → Type 0
TellsFound x v None = IsOperandType x v None
TellsFound x v (Some (known w)) = IsOperandType x v (Some w)
TellsFound x v (Some _) = x ≡ fault.Operator rule.Operand 0

abbrev pub TellsOperand : OperatorFault → Fault → Type 0
TellsOperand f x = TellsFound x (val_in f.expected) (option_map operand_of f.found)

-- why an operator is refused, by whether its rule is that one
abbrev pub TellsRule : Bool → OperatorFault → Fault → Type 0
TellsRule true f x = TellsOperand f x
TellsRule false f x = x ≡ fault.Operator f.rule f.number

-- the whole refusal, at an offset
abbrev pub Tells : OperatorFault → ℕ → Refusal → Type 0
Tells f offset r = (r.offset ≡ offset) × (r.missing ≡ lifting f.rule) × TellsRule (is_operand f.rule) f r.fault

-- the same of an error; want of memory stays that
abbrev pub TellsError : OperatorError → ℕ → Error → Type 0
TellsError (Refused f) offset (error.Refused r) = Tells f offset r
TellsError OutOfMemory offset error.OutOfMemory = ⊤
TellsError _ offset _ = ⊥

-- The rule by which an operator is refused that writes a value type, where the type is refused for this fault, and the index
-- that is told: that of the type which the module doesn't have, and 0 for a type that it lacks a proposal for.
abbrev pub rule_of_type : Fault → OperatorRule
rule_of_type (fault.Rule type_rule.Floats) = rule.Floats
rule_of_type (fault.Rule type_rule.Simd) = rule.Simd
rule_of_type (fault.ValueType r) = rule.ReferenceProposal r
rule_of_type (fault.UnknownType i) = rule.UnknownType
rule_of_type _ = rule.ValueType

abbrev pub index_of_type : Fault → ℕ
index_of_type (fault.UnknownType i) = i
index_of_type _ = 0

-- it is the refusal of some value type for want of a proposal
abbrev pub IsLackOfType : Refusal → Type 0
IsLackOfType r = (features : WasmFeatures) × (offset : ℕ) × (v : Val UnpackedIndex) × (told_of_val features offset v ≡ Some r)

-- An operator is refused as the type is that it writes: by its rule, and for want of the same proposal.
pub record TellsType (r : Refusal) (f : OperatorFault) : Type 0 where
  pub rule : f.rule ≡ rule_of_type r.fault
  pub index : f.number ≡ index_of_type r.fault
  pub missing : lifting f.rule ≡ r.missing
