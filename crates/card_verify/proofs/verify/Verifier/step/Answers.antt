use Rattle.std.proofs.Common.{◌∙◌, refl}
use Rattle.card_verify.proofs.Stepping.{has-room, fail-rule, stepped, fail-left}
use Rattle.card_verify.proofs.verify.Verifier.step.Goals as goal

pub apply_counted-requires-clause-room : goal.apply_counted-requires-clause-room
apply_counted-requires-clause-room g c =
    has-room c.args.self.now (g.M.Marks.marks c.args.marks.now) c.requires.verifier c.args.regs.now c.args.stack.now c.args.depth c.requires.slices
    c.requires.depth

pub returns-in-Err-clause-fails : goal.returns-in-Err-clause-fails
returns-in-Err-clause-fails g c =
    fail-rule c.args.self.now (g.M.Marks.marks c.args.marks.now) c.requires.verifier c.args.placed c.requires.stands c.args.regs.now c.args.stack.now
    c.apply_counted.new.regs c.apply_counted.new.stack c.args.depth
    (c.apply_counted.auto.stack ∙ c.requires.slices.cells) c.requires.suits c.in-Err.fault c.requires.depth c.in-Err.ensures.as_before
    c.in-Err.ensures.refuses

pub returns-in-None-clause-passed : goal.returns-in-None-clause-passed
returns-in-None-clause-passed g c =
    stepped c.args.self.now (g.M.Marks.marks c.args.marks.now) c.requires.verifier c.args.placed c.requires.stands c.args.regs.now c.args.stack.now
    c.apply_counted.new.regs c.apply_counted.new.stack c.args.depth
    (c.apply_counted.auto.stack ∙ c.requires.slices.cells) c.requires.suits c.in-Ok.outcome c.in-Ok.ensures.applies c.in-None.ensures.well
    (c.apply_counted.auto.regs ∙ c.requires.slices.registers) (c.in-Ok.ensures.rises refl)

pub returns-in-Some-clause-fails : goal.returns-in-Some-clause-fails
returns-in-Some-clause-fails g c =
    fail-left c.args.self.now (g.M.Marks.marks c.args.marks.now) c.requires.verifier c.args.placed c.requires.stands c.args.regs.now c.args.stack.now
    c.apply_counted.new.regs c.apply_counted.new.stack c.args.depth
    (c.apply_counted.auto.stack ∙ c.requires.slices.cells) c.requires.suits c.in-Ok.outcome c.in-Ok.ensures.applies c.in-Some.kind c.in-Some.ensures.wrong
