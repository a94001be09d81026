use Rattle.std.specs.Prelude.{◌≡◌, ◌+◌}
use Rattle.jc_decode.specs.Instructions.{rest_of}
use Rattle.card_verify.proofs.Ordered.{IsOrderedTo}
use Rattle.card_verify.proofs.acceptance.bad_entry.Given as goal

abbrev pub invariant-entries : goal.invariant-entries
invariant-entries g l = record {
  ordered : IsOrderedTo l.code.bytes.now l.index l.k l.least (rest_of l.left);
  cost : l.steps ≡ l.fn.steps + l.k;
}
