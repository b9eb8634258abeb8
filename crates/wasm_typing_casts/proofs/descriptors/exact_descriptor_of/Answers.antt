use Rattle.wasm_typing_casts.proofs.DescriptorTypes.{exact_named}
use Rattle.wasm_typing_casts.proofs.descriptors.exact_descriptor_of.Goals as goal

pub returns-in-Some : goal.returns-in-Some
returns-in-Some g c = exact_named _ _ _ _ c.in-Some.ensures c.exact_or_null.ensures
