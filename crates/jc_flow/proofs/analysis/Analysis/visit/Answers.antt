use Rattle.std.proofs.Common.{refl, sym, ◌∙◌}
use Rattle.std.proofs.lemmas.Option.{none-some}
use Rattle.jc_rules.specs.Held.{lent}
use Rattle.jc_flow.specs.Visit.{analysed}
use Rattle.jc_flow.proofs.Leading.{goes-same}
use Rattle.jc_flow.proofs.Visits.{load-registers, load-room, suits-loaded, held-loaded, step-loaded, caught-kept, is-step, visit-over}
use Rattle.jc_flow.proofs.analysis.Analysis.visit.Goals as goal

pub keep-requires-clause-registers : goal.keep-requires-clause-registers
keep-requires-clause-registers c =
    load-registers c.args.self.now.subject.world.now c.requires.analysis.rules (analysed c.args.self.now) c.args.self.now.subject.there c.args.place
    (lent c.in-Some.state) (c.requires.held.held c.args.place (lent c.in-Some.state) (sym c.in-Some.ensures)) c.args.before.now c.requires.before

pub keep-requires-clause-room : goal.keep-requires-clause-room
keep-requires-clause-room c =
    load-room c.args.self.now.subject.world.now c.requires.analysis.rules (analysed c.args.self.now) c.args.self.now.subject.there c.args.place
    (lent c.in-Some.state) (c.requires.held.held c.args.place (lent c.in-Some.state) (sym c.in-Some.ensures)) c.args.before.now c.requires.before

pub load-requires-clause-registers : goal.load-requires-clause-registers
load-requires-clause-registers c =
    load-registers c.args.self.now.subject.world.now c.requires.analysis.rules (analysed c.args.self.now) c.args.self.now.subject.there c.args.place
    (lent c.in-Some.state) (c.requires.held.held c.args.place (lent c.in-Some.state) (sym c.in-Some.ensures)) c.args.after.now c.requires.after

pub load-requires-clause-room : goal.load-requires-clause-room
load-requires-clause-room c =
    load-room c.args.self.now.subject.world.now c.requires.analysis.rules (analysed c.args.self.now) c.args.self.now.subject.there c.args.place
    (lent c.in-Some.state) (c.requires.held.held c.args.place (lent c.in-Some.state) (sym c.in-Some.ensures)) c.args.after.now c.requires.after

pub returns-in-None-clause-visited : goal.returns-in-None-clause-visited
returns-in-None-clause-visited c = record {
  goes = goes-same c.args.self.now.subject.world.now c.requires.analysis.rules.order (analysed c.args.self.now) c.args.table.now c.requires.held;
  closed = λ f e. absurd (none-some _ (c.in-None.ensures ∙ e));
}

pub step-requires-clause-here : goal.step-requires-clause-here
step-requires-clause-here c =
    held-loaded c.args.self.now.subject.world.now c.requires.analysis.rules (analysed c.args.self.now) c.args.self.now.subject.there c.args.place
    (lent c.in-Some.state) (c.requires.held.held c.args.place (lent c.in-Some.state) (sym c.in-Some.ensures)) c.args.after.now c.load.new.self
    c.load.ensures

pub step-requires-clause-suits : goal.step-requires-clause-suits
step-requires-clause-suits c =
    suits-loaded c.args.self.now.subject.world.now c.requires.analysis.rules (analysed c.args.self.now) c.args.self.now.subject.there c.args.place
    (lent c.in-Some.state) (c.requires.held.held c.args.place (lent c.in-Some.state) (sym c.in-Some.ensures)) c.args.after.now c.load.new.self
    c.requires.after c.load.ensures

pub raise_handlers-requires-clause-step : goal.raise_handlers-requires-clause-step
raise_handlers-requires-clause-step c =
    is-step c.args.self.now.subject.world.now c.requires.analysis.rules (analysed c.args.self.now) c.args.self.now.subject.there c.args.place
    (lent c.in-Some.state)
    (c.requires.held.held c.args.place (lent c.in-Some.state) (sym c.in-Some.ensures)) _ c.keep.new.before c.load.new.self c.args.after.now refl refl
    c.keep.ensures.kept c.load.ensures c.in_ok-insn.ensures.stepped

pub raise_next-requires-clause-step : goal.raise_next-requires-clause-step
raise_next-requires-clause-step c =
    is-step c.args.self.now.subject.world.now c.requires.analysis.rules (analysed c.args.self.now) c.args.self.now.subject.there c.args.place
    (lent c.in-Some.state)
    (c.requires.held.held c.args.place (lent c.in-Some.state) (sym c.in-Some.ensures)) _ c.keep.new.before c.load.new.self c.args.after.now refl refl
    c.keep.ensures.kept c.load.ensures c.in_ok-insn.ensures.stepped

pub raise_targets-requires-clause-step : goal.raise_targets-requires-clause-step
raise_targets-requires-clause-step c =
    is-step c.args.self.now.subject.world.now c.requires.analysis.rules (analysed c.args.self.now) c.args.self.now.subject.there c.args.place
    (lent c.in-Some.state)
    (c.requires.held.held c.args.place (lent c.in-Some.state) (sym c.in-Some.ensures)) _ c.keep.new.before c.load.new.self c.args.after.now refl refl
    c.keep.ensures.kept c.load.ensures c.in_ok-insn.ensures.stepped

pub returns-clause-visited : goal.returns-clause-visited
returns-clause-visited c =
    visit-over c.args.self.now.subject.world.now c.requires.analysis.rules (analysed c.args.self.now) c.args.table.now c.raise_handlers.new.table
    c.raise_next.new.table c.raise_targets.new.table c.args.place (lent c.in-Some.state) c.step.new.frame.frame c.in_ok-insn.insn
    (c.requires.held.held c.args.place (lent c.in-Some.state) (sym c.in-Some.ensures))
    (step-loaded c.args.self.now.subject.world.now c.requires.analysis.rules (analysed c.args.self.now) c.args.self.now.subject.there c.args.place
    (lent c.in-Some.state) (c.requires.held.held c.args.place (lent c.in-Some.state) (sym c.in-Some.ensures)) c.load.new.self c.args.after.now
    c.step.new.frame.frame c.in_ok-insn.insn c.load.ensures c.in_ok-insn.ensures.stepped)
    c.in_ok-raise_handlers.ensures.goes c.in_ok-raise_next.ensures.goes c.in_ok-raise_targets.ensures.goes
    (caught-kept c.args.self.now.subject.world.now (analysed c.args.self.now) c.args.place (lent c.in-Some.state) c.keep.new.before.frame
    c.raise_handlers.new.table c.keep.ensures.kept c.in_ok-raise_handlers.ensures.caught)
    c.in_ok-raise_next.ensures.next c.in_ok-raise_targets.ensures.reached
    (sym c.in-Some.ensures)
