use Rattle.std.specs.Prelude.{length}
use Rattle.jc_decode.specs.Instructions.{rest_of}
use Rattle.card_verify.proofs.Ordered.{IsSeeking}
use Rattle.card_verify.proofs.acceptance.seek.Given as goal

abbrev pub invariant-walk : goal.invariant-walk
invariant-walk l = IsSeeking l.place (rest_of l.fn.left) (rest_of l.left)

abbrev pub decreases-walk : goal.decreases-walk
decreases-walk l = length (rest_of l.left)
