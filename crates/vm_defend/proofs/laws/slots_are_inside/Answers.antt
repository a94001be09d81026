use Rattle.std.proofs.Common.{arith}
use Rattle.vm_defend.proofs.Slots.{slot-inside}
use Rattle.vm_defend.proofs.laws.slots_are_inside.Goals as goal

pub returns : goal.returns
returns c = λ n f is. let inside = slot-inside 0 c.args.world.now.statics n f c.classes-slots.ensures.links.slots is in omega (arith, inside)
