use Rattle.std.proofs.Common.{◌≡◌, ℕ, ◌+◌, ◌*◌, ◌≤◌, ◌++◌, length}
use Rattle.jc_decode.specs.Instructions.{rest_of}
use Rattle.jc_decode.specs.Listing.{listing, end_from}
use Rattle.jc_rules.specs.Stack.{cells}
use Rattle.card_verify.specs.Ahead.{IsKnownAhead}
use Rattle.card_verify.specs.Verifier.{method}
use Rattle.card_verify.specs.Walk.{CanBeginPass, IsComing, IsProgress}
use Rattle.card_verify.proofs.verify.Verifier.pass.Given as goal

abbrev pub invariant-walk : goal.invariant-walk
invariant-walk g l = record {
  whole : l.yielded ++ rest_of l.placed-iterator ≡ listing l.self.subject.code.bytes.now;
  coming :
      (visits : ℕ)
      → CanBeginPass l.self (g.M.Marks.marks l.marks) visits l.initial.regs l.initial.stack
      → IsComing l.self (g.M.Marks.marks l.marks) (visits + length l.yielded) (end_from 0 l.yielded) l.arrival l.regs l.stack;
  ahead : IsKnownAhead (method l.self) (g.M.Marks.marks l.marks) l.ahead;
  low : l.ahead.from ≤ end_from 0 l.yielded;
  progress : IsProgress l.self (g.M.Marks.marks l.marks) l.initial.regs l.rose l.regs l.arrival.may_fall (cells l.stack l.arrival.depth) l.yielded;
  counted : l.fn.steps + length l.yielded ≤ l.steps;
  cost : (most : ℕ) → g.M.Marks.takes l.marks most → l.steps ≤ l.fn.steps + length l.yielded * (most + 1);
}
