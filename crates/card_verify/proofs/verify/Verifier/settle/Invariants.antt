use Rattle.std.proofs.Common.{ℕ, ◌+◌, ◌*◌, ◌≤◌, sum_by}
use Rattle.jc_base.specs.Order.{rises_left}
use Rattle.card_verify.specs.Counted.{instruction_count}
use Rattle.card_verify.specs.Verifier.{method, world_of}
use Rattle.card_verify.specs.Walk.{IsUnderWay}
use Rattle.card_verify.proofs.verify.Verifier.settle.Given as goal

abbrev pub invariant-passes : goal.invariant-passes
invariant-passes g l = record {
  way : (passes : ℕ) × IsUnderWay l.self (g.M.Marks.marks l.marks) passes l.regs l.stack l.fn.steps l.steps;
  cost :
      (most : ℕ)
      → g.M.Marks.takes l.marks most
      → l.steps + (1 + sum_by (rises_left (world_of l.self).classes) l.regs) * (instruction_count (method l.self) * (most + 1))
      ≤ l.fn.steps + (1 + sum_by (rises_left (world_of l.self).classes) l.fn.regs) * (instruction_count (method l.self) * (most + 1));
}

abbrev pub decreases-passes : goal.decreases-passes
decreases-passes g l = sum_by (rises_left (world_of l.self).classes) l.regs
