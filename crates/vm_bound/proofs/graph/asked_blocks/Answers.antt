use Rattle.std.proofs.Common.{◌+◌, ℕ, length, get_or, sym, subst, arith}
use Rattle.std.proofs.lemmas.Option.{slice_get-get_or}
use Rattle.vm_bound.specs.Runs.{AreRuns}
use Rattle.vm_bound.proofs.Covering.{runs-none, runs-more}
use Rattle.vm_bound.proofs.Serving.{IsByNearest, runs-blocks, nearest-at}
use Rattle.vm_bound.proofs.graph.asked_blocks.Goals as goal

pub classes-init : goal.classes-init
classes-init c =
    let order = c.args.order.now in
    let By = IsByNearest c.args.world.now.classes c.args.interface order in
    subst (AreRuns (length order) By 0) (sym c.new-blocks.ensures.items) (runs-none (length order) By)

pub nearest_class-by-requires : goal.nearest_class-by-requires
nearest_class-by-requires c =
    let order = c.args.order.now in
    c.requires.order.only c.classes.at (get_or order c.classes.at 0) (slice_get-get_or order c.classes.at 0 c.classes-test.true)

pub classes-preserved : goal.classes-preserved
classes-preserved c =
    let t = c.args.world.now.classes in
    let order = c.args.order.now in
    let at = c.classes.at in
    runs-more (length order) (IsByNearest t c.args.interface order) at (at + 1) c.nearest_class-by.result c.classes.blocks.items c.add_run.new.blocks.items
    (λ p low high.
    nearest-at t c.args.interface order at p (get_or order at 0) c.nearest_class-by.result (slice_get-get_or order at 0 c.classes-test.true)
    (omega (arith, low, high)) c.nearest_class-by.ensures) c.in_ok-add_run.ensures c.classes.invariant

pub returns : goal.returns
returns c =
    let t = c.args.world.now.classes in
    let order = c.args.order.now in
    let end = c.classes.auto.at-end in
    let past = c.classes-test.false in
    runs-blocks t c.args.interface order c.classes.blocks.items
    (subst (λ (n : ℕ). AreRuns (length order) (IsByNearest t c.args.interface order) n c.classes.blocks.items) (omega (arith, end, past)) c.classes.invariant)
