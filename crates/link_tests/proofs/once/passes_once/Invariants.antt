use Rattle.std.proofs.Common.{◌≡◌, ◌+◌, ◌++◌, length}
use Rattle.jc_decode.specs.Instructions.{rest_of}
use Rattle.jc_decode.specs.Listing.{listing}
use Rattle.jc_rules.specs.Stack.{cells}
use Rattle.link_tests.proofs.Walked.{IsComing}
use Rattle.link_tests.proofs.once.passes_once.Given as goal

abbrev pub invariant-walk : goal.invariant-walk
invariant-walk l = record {
  whole : l.yielded ++ rest_of l.placed-iterator ≡ listing l.code.bytes.now;
  coming :
      IsComing l.world (record { number = l.number; rec = l.rec; code = l.code.bytes.now }) (length l.yielded) l.at l.regs
      (cells l.stack l.depth);
  registers : length l.regs ≡ l.rec.nargs + l.rec.max_locals;
  stack : length l.stack ≡ l.rec.max_stack;
}
