use Rattle.std.proofs.Common.{sym, rules}
use Rattle.jc_decode.proofs.Tables.{table_within}
use Rattle.jc_decode.proofs.encoding.append.Goals as goal

pub append_table-requires-clause-reach : goal.append_table-requires-clause-reach
append_table-requires-clause-reach c is_table =
    (table_within c.args.code.bytes.now c.args.at c.args.insn c.in-Ok.layout c.requires.table (sym c.in-Ok.ensures) (search rules)).1

pub append_table-requires-clause-order : goal.append_table-requires-clause-order
append_table-requires-clause-order c is_table =
    (table_within c.args.code.bytes.now c.args.at c.args.insn c.in-Ok.layout c.requires.table (sym c.in-Ok.ensures) (search rules)).0
