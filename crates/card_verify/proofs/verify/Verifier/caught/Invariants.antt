use Rattle.card_verify.proofs.Catching.{CaughtBelow}
use Rattle.card_verify.proofs.verify.Verifier.caught.Given as goal

abbrev pub invariant-handlers : goal.invariant-handlers
invariant-handlers l = CaughtBelow l.classes l.self.subject.rec.now.handlers l.handler-index l.place l.class
