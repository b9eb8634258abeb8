use Rattle.wasm_typing_casts.proofs.DescriptorTypes.{concrete_named}
use Rattle.wasm_typing_casts.proofs.descriptors.descriptor_of.Goals as goal

pub returns-in-Some : goal.returns-in-Some
returns-in-Some g c = concrete_named _ _ _ _ c.in-Some.ensures c.nullable.ensures
