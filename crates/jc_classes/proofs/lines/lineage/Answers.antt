use Rattle.jc_classes.proofs.Above.{tells-above}
use Rattle.jc_classes.proofs.Told.{due-tells, due-lines}
use Rattle.jc_classes.proofs.lines.lineage.Goals as goal

pub returns-clause-tells : goal.returns-clause-tells
returns-clause-tells c = due-tells c.args.classes.now c.args.first c.args.roles c.outlined.result c.outlined.ensures.value

pub returns-clause-lines : goal.returns-clause-lines
returns-clause-lines c =
    due-lines c.args.classes.now c.args.first c.args.roles c.outlined.result c.requires.known c.outlined.ensures.value c.outlined.ensures.chains

pub returns-clause-above : goal.returns-clause-above
returns-clause-above c = tells-above c.args.classes.now
