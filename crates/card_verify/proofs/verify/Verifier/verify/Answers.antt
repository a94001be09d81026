use Rattle.std.proofs.Common.{refl}
use Rattle.jc_rules.specs.Apply.{frame_of}
use Rattle.card_verify.specs.Verifier.{method}
use Rattle.card_verify.proofs.Answering.{flow-of, none-of, told-of, kept-of, refused-flaw}
use Rattle.card_verify.proofs.verify.Verifier.verify.Goals as goal

pub returns-in-Ok-clause-flow : goal.returns-in-Ok-clause-flow
returns-in-Ok-clause-flow c =
    flow-of c.args.self.now c.verify_uncounted.result c.verify_uncounted.new.regs c.card_laws.ensures.flow c.args.self.now.subject.there c.verify_uncounted.ensures.typing

pub returns-in-Ok-clause-none : goal.returns-in-Ok-clause-none
returns-in-Ok-clause-none c =
    none-of c.args.self.now c.verify_uncounted.new.regs c.verify_uncounted.new.stack c.args.self.now.subject.there c.verify_uncounted.result c.card_laws.ensures.refused
    c.verify_uncounted.ensures.refused

pub returns-in-Ok-clause-flawed : goal.returns-in-Ok-clause-flawed
returns-in-Ok-clause-flawed c =
    told-of c.args.self.now c.verify_uncounted.new.regs c.verify_uncounted.new.stack c.args.self.now.subject.there c.verify_uncounted.result c.card_laws.ensures.told
    c.verify_uncounted.ensures.refused

pub returns-in-Ok-clause-as_before : goal.returns-in-Ok-clause-as_before
returns-in-Ok-clause-as_before c =
    kept-of c.args.self.now c.verify_uncounted.new.regs c.verify_uncounted.new.stack c.args.self.now.subject.there c.verify_uncounted.result _ c.card_laws.ensures.told
    c.in-Ok.ensures.formed c.verify_uncounted.ensures.refused

pub returns-in-Err-clause-none : goal.returns-in-Err-clause-none
returns-in-Err-clause-none c =
    c.card_laws.ensures.refused (method c.args.self.now) c.in-Err.fault (frame_of c.args.regs.now c.args.stack.now c.in-Err.fault.depth)
    c.args.self.now.subject.there
    (refused-flaw c.args.self.now c.args.regs.now c.args.stack.now c.args.self.now.subject.there c.in-Err.fault c.in-Err.ensures.flawed)

pub returns-in-Err-clause-refused : goal.returns-in-Err-clause-refused
returns-in-Err-clause-refused c =
    refused-flaw c.args.self.now c.args.regs.now c.args.stack.now c.args.self.now.subject.there c.in-Err.fault c.in-Err.ensures.flawed

pub returns-in-Err-clause-flawed : goal.returns-in-Err-clause-flawed
returns-in-Err-clause-flawed c =
    c.card_laws.ensures.told (method c.args.self.now) c.in-Err.fault (frame_of c.args.regs.now c.args.stack.now c.in-Err.fault.depth)
    (refused-flaw c.args.self.now c.args.regs.now c.args.stack.now c.args.self.now.subject.there c.in-Err.fault c.in-Err.ensures.flawed)

pub returns-in-Err-clause-as_before : goal.returns-in-Err-clause-as_before
returns-in-Err-clause-as_before c = λ h. (refl, refl)
