use Rattle.card_typing.proofs.Quiet.{target-place}
use Rattle.card_verify.specs.Verifier.{method}
use Rattle.card_verify.proofs.Answering.{refused-of-counted}
use Rattle.card_verify.proofs.verify.Verifier.verify_uncounted.Goals as goal

pub verify_over-requires-clause-targets : goal.verify_over-requires-clause-targets
verify_over-requires-clause-targets g c = λ q t. t

pub verify_over-requires-clause-places : goal.verify_over-requires-clause-places
verify_over-requires-clause-places g c = target-place (method c.args.self.now) c.requires.formed

pub returns-clause-refused : goal.returns-clause-refused
returns-clause-refused g c =
    refused-of-counted c.args.self.now c.verify_over.new.regs c.verify_over.new.stack _ _ c.requires.formed c.verify_over.result c.verify_over.ensures.refused
