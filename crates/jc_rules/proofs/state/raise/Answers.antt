use Rattle.std.proofs.Common.{◌≡◌, get_or, arith}
use Rattle.std.proofs.lemmas.List.{get_or_default}
use Rattle.jc_base.specs.declared.ty.Ty.{Ty}
use Rattle.jc_base.specs.declared.ty.Ty.TheVariants.{Bottom}
use Rattle.jc_rules.proofs.Raising.{raised_same, raised_next, raised_all}
use Rattle.jc_rules.proofs.state.raise.Goals.{in-Some, in_default}
use Rattle.jc_rules.proofs.state.raise.Goals as goal

pub cells-preserved : goal.cells-preserved
cells-preserved c =
    let t = c.args.classes.now in
    let old = c.args.cells.now in
    let others = c.args.others.now in
    let n = c.cells.n in
    let now = c.cells.cells in
    let here : Ty = get_or now n Bottom in
    let same : here ≡ get_or now n here = get_or_default now n Bottom here (omega (arith, c.cells.invariant.count, c.requires.count, c.cells-test.true)) in
    elim c.match-raised.branch [
      | in-Some w ↦ let e = w.in-Some.ensures in
          rw (w.cells-is, w.rises-is)
          (raised_next t old others n now c.cells.rises c.cells.invariant c.cells-test.true c.requires.count here _ w.in-Some.higher same e.0 e.1 e.2)
      | in_default w ↦
          rw (w.cells-is, w.rises-is) (raised_same t old others n now c.cells.rises c.cells.invariant c.cells-test.true c.requires.count here _ same
          w.in_default.ensures)
    ]

pub returns-clause-joins : goal.returns-clause-joins
returns-clause-joins c =
    raised_all c.args.classes.now c.args.cells.now c.args.others.now c.cells.n c.cells.cells c.cells.rises c.cells.invariant c.cells-test.false
    c.requires.count
