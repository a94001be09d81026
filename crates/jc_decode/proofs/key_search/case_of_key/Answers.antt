use Rattle.std.proofs.Common.{FitsSigned, w32, sym, ◌∙◌, arith, rules}
use Rattle.jc_decode.proofs.Tables.{abs-passed, range_table, pairs_table}
use Rattle.jc_decode.proofs.KeySearches.{has-table, pairs-rise}
use Rattle.jc_decode.proofs.key_search.case_of_key.Goals as goal

pub case_in_range-requires-clause-order : goal.case_in_range-requires-clause-order
case_in_range-requires-clause-order c =
    let xs = c.args.code.bytes.now in
    (range_table xs c.args.at c.args.insn c.in-Ok.layout (has-table xs c.args.at c.args.insn c.requires.decoded) (sym c.in-Ok.ensures) c.in-Range.is).0

pub case_in_range-requires-clause-inside : goal.case_in_range-requires-clause-inside
case_in_range-requires-clause-inside c =
    let xs = c.args.code.bytes.now in
    let t = range_table xs c.args.at c.args.insn c.in-Ok.layout (has-table xs c.args.at c.args.insn c.requires.decoded) (sym c.in-Ok.ensures)
    c.in-Range.is in
    omega (arith, t.1, c.requires.short, c.from.ensures, c.width.ensures)

pub case_of_pair-requires-clause-inside : goal.case_of_pair-requires-clause-inside
case_of_pair-requires-clause-inside c =
    let xs = c.args.code.bytes.now in
    let y : FitsSigned w32 c.args.insn.y = search rules in
    let many = c.unsigned_abs.ensures.value ∙ abs-passed c.args.insn.y y in
    let t = pairs_table xs c.args.at c.args.insn c.in-Ok.layout c.in-Pairs.form (has-table xs c.args.at c.args.insn c.requires.decoded)
    (sym c.in-Ok.ensures) c.in-Pairs.is in
    rw many (omega (arith, t, c.requires.short, c.from.ensures, c.width.ensures))

pub case_of_pair-requires-clause-rising : goal.case_of_pair-requires-clause-rising
case_of_pair-requires-clause-rising c =
    let xs = c.args.code.bytes.now in
    let y : FitsSigned w32 c.args.insn.y = search rules in
    let many = c.unsigned_abs.ensures.value ∙ abs-passed c.args.insn.y y in
    pairs-rise xs c.args.at c.args.insn c.in-Ok.layout c.in-Pairs.form _ _ c.requires.decoded (sym c.in-Ok.ensures) c.in-Pairs.is
    (omega (arith, c.from.ensures, c.width.ensures)) many
