use Rattle.std.proofs.Common.{subst, sym}
use Rattle.jc_flow.specs.Found.{Found, taken_up}
use Rattle.jc_flow.specs.Progress.{AreHeld}
use Rattle.jc_flow.proofs.Growth.{taken-held}
use Rattle.jc_flow.specs.Visit.{analysed, IsVisited}
use Rattle.jc_flow.proofs.AnalysisSteps.{still-closed, still-started, least-found, reached-are, registers-are, derived-are, known-are}
use Rattle.jc_flow.proofs.analysis.Analysis.settle.Goals as goal

pub visit-requires-clause-held : goal.visit-requires-clause-held
visit-requires-clause-held c =
    subst (AreHeld c.args.self.now.subject.world.now (analysed c.args.self.now)) (sym c.in-Some.ensures.1)
    (taken-held c.args.self.now.subject.world.now c.requires.analysis.rules.order c.requires.analysis.rules.ready (analysed c.args.self.now) c.places.table
    c.in-Some.place c.places.invariant.held)

pub places-preserved : goal.places-preserved
places-preserved c =
    let v : IsVisited c.args.self.now.subject.world.now (analysed c.args.self.now) c.in-Some.place (taken_up c.places.table c.in-Some.place) c.visit.new.table =
    subst (λ (x : Found). IsVisited c.args.self.now.subject.world.now (analysed c.args.self.now) c.in-Some.place x c.visit.new.table) c.in-Some.ensures.1
    c.in_default-visit.ensures.visited in
    record {
      held = v.goes.held;
      closed =
          still-closed c.args.self.now.subject.world.now c.requires.analysis.rules (analysed c.args.self.now) c.in-Some.place c.places.table c.visit.new.table v
          c.places.invariant.closed;
      start =
          still-started c.args.self.now.subject.world.now c.requires.analysis.rules.order (analysed c.args.self.now) c.in-Some.place c.places.table
          c.visit.new.table v c.places.invariant.start;
      before = c.in_default-visit.ensures.before;
      after = c.in_default-visit.ensures.after;
    }

pub returns-clause-settled : goal.returns-clause-settled
returns-clause-settled c =
    least-found c.args.self.now.subject.world.now c.requires.analysis.rules (analysed c.args.self.now) c.args.self.now.subject.there
    c.requires.analysis.control.formed
    c.places.table c.take_least.new.self c.in_default.ensures.1 c.places.invariant.held c.places.invariant.closed c.in_default.ensures.0
    c.places.invariant.start

pub returns-clause-reached : goal.returns-clause-reached
returns-clause-reached c =
    reached-are c.args.self.now.subject.world.now c.requires.analysis.rules (analysed c.args.self.now) c.args.self.now.subject.there
    c.requires.analysis.control.formed
    c.places.table c.take_least.new.self c.in_default.ensures.1 c.places.invariant.held c.places.invariant.closed c.in_default.ensures.0
    c.places.invariant.start

pub returns-clause-registers : goal.returns-clause-registers
returns-clause-registers c =
    registers-are c.args.self.now.subject.world.now c.requires.analysis.rules (analysed c.args.self.now) c.args.self.now.subject.there c.places.table
    c.take_least.new.self c.in_default.ensures.1 c.places.invariant.held

pub returns-clause-derived : goal.returns-clause-derived
returns-clause-derived c =
    derived-are c.args.self.now.subject.world.now (analysed c.args.self.now) c.places.table c.take_least.new.self c.in_default.ensures.1 c.places.invariant.held

pub returns-clause-known : goal.returns-clause-known
returns-clause-known c =
    known-are c.args.self.now.subject.world.now c.requires.analysis.rules (analysed c.args.self.now) c.args.self.now.subject.there c.places.table
    c.take_least.new.self c.in_default.ensures.1 c.places.invariant.held
