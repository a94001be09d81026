use Rattle.std.proofs.Common.{sym, subst, arith}
use Rattle.jc_classes.specs.Outline.{AreLines}
use Rattle.jc_classes.proofs.Told.{agreed-classes}
use Rattle.jc_classes.proofs.lines.outlined.Goals as goal

pub of-requires : goal.of-requires
of-requires c =
    agreed-classes c.args.classes.now c.args.first c.args.roles c.numbers.result c.in_ok-lines.lines.items c.requires.known
    (omega (arith, c.numbers.ensures.eight))
    c.in_ok-lines_agree.ensures c.in_ok-lines.ensures c.numbers.ensures.same

pub returns-clause-chains : goal.returns-clause-chains
returns-clause-chains c =
    subst AreLines (sym c.of.ensures)
    (agreed-classes c.args.classes.now c.args.first c.args.roles c.numbers.result c.in_ok-lines.lines.items c.requires.known
    (omega (arith, c.numbers.ensures.eight))
    c.in_ok-lines_agree.ensures c.in_ok-lines.ensures c.numbers.ensures.same)
