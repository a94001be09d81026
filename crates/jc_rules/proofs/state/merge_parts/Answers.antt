use Rattle.jc_rules.proofs.Raising.{clash_cells, merged}
use Rattle.jc_rules.proofs.state.merge_parts.Goals as goal

pub returns-then-has_top-clause-merged : goal.returns-then-has_top-clause-merged
returns-then-has_top-clause-merged c =
    clash_cells c.args.classes.now c.args.own_regs.now c.args.regs.now c.args.own_stack.now c.args.stack.now c.raise-stack_rises.new.cells
    c.raise-stack_rises.ensures.joins c.if-has_top.ensures

pub returns-clause-merged : goal.returns-clause-merged
returns-clause-merged c =
    rw c.risen_if.ensures
    (merged c.args.classes.now c.args.own_regs.now c.args.regs.now c.raise-regs_rise.new.cells c.args.own_stack.now c.args.stack.now
    c.raise-stack_rises.new.cells c.raise-regs_rise.ensures.joins c.raise-stack_rises.ensures.joins
    c.if-has_top.ensures c.raise-stack_rises.result c.raise-regs_rise.result c.raise-stack_rises.ensures.rises c.raise-regs_rise.ensures.rises)
