use Rattle.wasm_spec_validity.proofs.OneToOne.{numberings_say_the_same}
use Rattle.wasm_spec_validity.proofs.numberings_say_the_same.Goals as goal

pub returns : goal.returns
returns g c = record { same = numberings_say_the_same }
