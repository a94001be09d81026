use Rattle.std.proofs.Common.{◌≡◌, ℕ, ◌∙◌, subst, arith, refl}
use Rattle.vm_store.specs.State.{State}
use Rattle.vm_step.specs.Raising.{running}
use Rattle.vm_step.specs.Step.{Steps}
use Rattle.vm_step.specs.Run.{Runs, stands}
use Rattle.vm_run.proofs.Taken.{run-more, run-ends}
use Rattle.vm_step.proofs.Lasting.{lasts-step}
use Rattle.vm_run.proofs.running.run.Goals as goal

pub steps-init : goal.steps-init
steps-init g c = record { runs = stands; going = c.requires.running; keeps = c.requires.keeps; well = c.requires.well; fixed = refl }

pub returns-in-Some-clause-runs : goal.returns-in-Some-clause-runs
returns-in-Some-clause-runs g c =
    run-ends g.M.Cell.CellForm.cells c.args.world.now c.steps.invariant.runs c.args.budget c.in-Some.ending (g.M.Store.state c.step.new.store)
    c.in-Some.ensures.steps c.steps-test.true

pub returns-in-Some-clause-shaped : goal.returns-in-Some-clause-shaped
returns-in-Some-clause-shaped g c =
    c.tests_suffice.ensures.ends (g.M.Store.state c.steps.store) (g.M.Store.state c.step.new.store) c.in-Some.ending c.steps.invariant.keeps
    c.in-Some.ensures.steps

pub steps-preserved : goal.steps-preserved
steps-preserved g c =
    let w = c.args.world.now in
    let k = g.M.Cell.CellForm.cells in
    let z : State g.row.M-Cell.Denot = g.M.Store.state c.steps.store in
    let y : State g.row.M-Cell.Denot = g.M.Store.state c.step.new.store in
    let taken : Steps k w z (running y) = c.in-None.ensures.steps in
    record {
      runs = run-more k w y c.steps.invariant.runs taken;
      going = lasts-step k w z taken;
      keeps = c.tests_suffice.ensures.stays z y c.steps.invariant.keeps taken;
      well = c.step.ensures.well;
      fixed = c.step.ensures.fixed ∙ c.steps.invariant.fixed;
    }

pub returns-clause-runs : goal.returns-clause-runs
returns-clause-runs g c =
    let all : c.steps._taken ≡ c.args.budget = omega arith in
    subst (λ (n : ℕ). Runs g.M.Cell.CellForm.cells c.args.world.now n (g.M.Store.state c.args.store.now) (running (g.M.Store.state c.steps.store))) all
    c.steps.invariant.runs

pub returns-clause-shaped : goal.returns-clause-shaped
returns-clause-shaped g c = c.tests_suffice.ensures.shape (g.M.Store.state c.steps.store) c.steps.invariant.keeps
