use Rattle.std.proofs.Common.{Contains}
use Rattle.std.proofs.lemmas.List.Elements.{All-contains}
use Rattle.jc_control.specs.WellFormed.{IsPlace}
use Rattle.card_typing.specs.Typing.{IsLeastOver, IsLeastCardTyping}
use Rattle.card_verify.proofs.Answering.{on-ok}
use Rattle.card_verify.specs.Indexed.{subject, world_in, listed}
use Rattle.card_verify.specs.IndexTyping.{HasIndexTyping}
use Rattle.card_verify.proofs.Verified.{typed-over, least-over, refused-over}
use Rattle.card_verify.proofs.index_verify.Indexed.verify_types.Goals as goal

pub verify_over-requires-clause-targets : goal.verify_over-requires-clause-targets
verify_over-requires-clause-targets g c = c.requires.index.complete

pub verify_over-requires-clause-places : goal.verify_over-requires-clause-places
verify_over-requires-clause-places g c = λ q there.
    let x = c.args.self.now in
    All-contains (IsPlace (subject x).code) (listed x) q c.requires.index.places there

pub returns-clause-typing : goal.returns-clause-typing
returns-clause-typing g c =
    let x = c.args.self.now in
    on-ok (IsLeastOver (world_in x) (subject x) (Contains (listed x)) c.verify_over.new.regs) (HasIndexTyping (world_in x) (subject x) (listed x))
    c.verify_over.result
    (typed-over (world_in x) (subject x) (listed x) c.requires.index c.verify_over.new.regs) c.verify_over.ensures.typing

pub returns-clause-least : goal.returns-clause-least
returns-clause-least g c =
    let x = c.args.self.now in
    on-ok (IsLeastOver (world_in x) (subject x) (Contains (listed x)) c.verify_over.new.regs)
    (IsLeastCardTyping (world_in x) (subject x) c.verify_over.new.regs) c.verify_over.result
    (least-over (world_in x) (subject x) (listed x) c.requires.index c.verify_over.new.regs) c.verify_over.ensures.typing

pub returns-clause-refused : goal.returns-clause-refused
returns-clause-refused g c =
    let x = c.args.self.now in
    refused-over (world_in x) (subject x) (listed x) c.verify_over.new.regs c.verify_over.new.stack c.args.steps.now c.verify_over.new.steps
    c.requires.formed c.requires.index c.verify_over.result c.verify_over.ensures.refused

pub returns-clause-cost : goal.returns-clause-cost
returns-clause-cost g c = λ b lt. c.verify_over.ensures.cost b lt
