use Rattle.std.proofs.Common.{refl}
use Rattle.wasm_typing_references.specs.WasmReadersTypes.SeenTypes.{sub_of}
use Rattle.wasm_typing_casts.proofs.DescriptorTypes.{declared}
use Rattle.wasm_typing_casts.proofs.descriptors.descriptor_declared.Goals as goal

pub returns-in-Some : goal.returns-in-Some
returns-in-Some g c = declared _ _ (sub_of c.in-Some.sub.now) _ c.in-Some.ensures refl
