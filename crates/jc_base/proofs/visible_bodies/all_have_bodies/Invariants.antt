use Rattle.std.proofs.Common.{take, All}
use Rattle.jc_base.specs.Dispatch.{HasBody}
use Rattle.jc_base.proofs.visible_bodies.all_have_bodies.Given as goal

abbrev pub invariant-entries : goal.invariant-entries
invariant-entries l = All (HasBody l.methods) (take l.n-index l.list)
