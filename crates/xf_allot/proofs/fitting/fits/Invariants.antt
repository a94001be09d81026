use Rattle.std.proofs.Common.{take}
use Rattle.xf_allot.specs.Allotting.{AllFit}
use Rattle.jc_control.specs.Subject.{method, world_of}
use Rattle.xf_allot.proofs.fitting.fits.Given as goal

abbrev pub invariant-others : goal.invariant-others
invariant-others l = record { fit : AllFit (world_of l.subject) (method l.subject) l.variable l.at (take l.other-index l.before) }
