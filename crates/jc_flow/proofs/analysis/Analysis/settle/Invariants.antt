use Rattle.jc_base.specs.declared.ty.Ty.TheVariants.{Top}
use Rattle.jc_rules.specs.Flow.{At, FrameBelow, start_frame}
use Rattle.jc_rules.specs.Typing.{state_at}
use Rattle.jc_flow.specs.Progress.{AreHeld, AreClosed, work, most_rises}
use Rattle.jc_flow.specs.Scratch.{SuitsMethod}
use Rattle.jc_flow.specs.Visit.{analysed, world_of}
use Rattle.jc_flow.proofs.analysis.Analysis.settle.Given as goal

abbrev pub invariant-places : goal.invariant-places
invariant-places l = record {
  held : AreHeld (world_of l.self) (analysed l.self) l.table;
  closed : AreClosed (world_of l.self) (analysed l.self) l.table;
  start : At (state_at l.table.states) 0 (FrameBelow l.self.subject.world.now.classes (start_frame l.self.subject.rec.now Top));
  before : SuitsMethod l.before l.self.subject.rec.now;
  after : SuitsMethod l.after l.self.subject.rec.now;
}

abbrev pub decreases-places : goal.decreases-places
decreases-places l = work l.self.subject.world.now.classes (most_rises l.self.subject.world.now.classes (analysed l.self)) l.table
