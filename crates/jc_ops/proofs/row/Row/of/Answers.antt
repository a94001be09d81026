use Rattle.jc_ops.proofs.Rows.{ROWS-row_at, past-row_at}
use Rattle.jc_ops.proofs.row.Row.of.Goals as goal

pub returns-then-op-lt185 : goal.returns-then-op-lt185
returns-then-op-lt185 c = ROWS-row_at c.args.op _ c.if-op-lt185.true

pub returns-else-op-lt185 : goal.returns-else-op-lt185
returns-else-op-lt185 c = past-row_at c.args.op c.if-op-lt185.false c.ranges.op.fits
