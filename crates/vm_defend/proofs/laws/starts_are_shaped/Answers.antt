use Rattle.vm_defend.proofs.Shape.{begun-shaped}
use Rattle.vm_defend.proofs.laws.starts_are_shaped.Goals as goal

pub returns : goal.returns
returns c = λ entry args begins. begun-shaped c.args.world.now entry args (c.starts_are_sized.ensures entry args begins)
