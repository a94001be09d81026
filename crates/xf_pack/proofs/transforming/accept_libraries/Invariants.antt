use Rattle.card_verify.specs.Answers.{AreAcceptedBefore}
use Rattle.xf_pack.proofs.transforming.accept_libraries.Given as goal

abbrev pub invariant-methods : goal.invariant-methods
invariant-methods l = AreAcceptedBefore l.world l.method
