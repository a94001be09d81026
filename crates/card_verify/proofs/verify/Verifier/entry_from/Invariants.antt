use Rattle.card_verify.specs.Ahead.{IsLeastFrom}
use Rattle.card_verify.proofs.Nearest.{EntryBelow}
use Rattle.card_verify.proofs.verify.Verifier.entry_from.Given as goal

abbrev pub invariant-handlers : goal.invariant-handlers
invariant-handlers l = IsLeastFrom (EntryBelow l.self.subject.rec.now.handlers l.handler-index) l.from l.best
