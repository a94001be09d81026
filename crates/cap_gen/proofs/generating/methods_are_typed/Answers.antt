use Rattle.cap_gen.proofs.Typed.{kind_typed}
use Rattle.cap_gen.proofs.generating.methods_are_typed.Goals as goal

pub returns : goal.returns
returns c = kind_typed
