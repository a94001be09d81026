use Rattle.std.proofs.Common.{◌*◌, ◌≤◌, ◌∙◌, ap, sym, arith}
use Rattle.std.specs.Int.{w32}
use Rattle.std.proofs.Common.{rules}
use Rattle.std.specs.Prelude.{FitsSigned, Some, unsigned_abs}
use Rattle.std.proofs.Math.Nat.{mul-le-mul_left}
use Rattle.jc_decode.specs.Decoding.{pair_width}
use Rattle.jc_decode.proofs.Tables.{abs-passed, abs_diff-passed, range_table, pairs_table, case-range, case-past-range, case-pair, case-past-pairs}
use Rattle.jc_decode.proofs.cases.case.Goals as goal

pub range_case-requires-clause-order : goal.range_case-requires-clause-order
range_case-requires-clause-order c =
    (range_table c.args.code.bytes.now c.args.at c.args.insn c.in-Ok.layout c.requires.table (sym c.in-Ok.ensures) c.in-Range.is).0

pub range_case-requires-clause-inside : goal.range_case-requires-clause-inside
range_case-requires-clause-inside c =
    let y : FitsSigned w32 c.args.insn.y = search rules in
    let z : FitsSigned w32 c.args.insn.z = search rules in
    let d = abs_diff-passed c.args.insn.y c.args.insn.z y z in
    let t = range_table c.args.code.bytes.now c.args.at c.args.insn c.in-Ok.layout c.requires.table (sym c.in-Ok.ensures) c.in-Range.is in
    omega (arith, t.1)

pub pair_case-requires : goal.pair_case-requires
pair_case-requires c =
    let y : FitsSigned w32 c.args.insn.y = search rules in
    let d = abs-passed c.args.insn.y y in
    let t = pairs_table c.args.code.bytes.now c.args.at c.args.insn c.in-Ok.layout c.in-Pairs.key c.requires.table (sym c.in-Ok.ensures) c.in-Pairs.is in
    let n : pair_width c.in-Pairs.key * c.args.n ≤ pair_width c.in-Pairs.key * unsigned_abs c.args.insn.y = mul-le-mul_left (pair_width c.in-Pairs.key)
    (omega arith) in
    record { inside = omega (arith, t, n) }

pub returns-then-n-abs_diff : goal.returns-then-n-abs_diff
returns-then-n-abs_diff c =
    let y : FitsSigned w32 c.args.insn.y = search rules in
    let z : FitsSigned w32 c.args.insn.z = search rules in
    let d = abs_diff-passed c.args.insn.y c.args.insn.z y z in
    ap Some c.range_case.ensures
    ∙ case-range c.args.code.bytes.now c.args.at c.args.insn c.in-Ok.layout _ c.args.n (sym c.in-Ok.ensures) c.in-Range.is (omega arith) (omega arith)

pub returns-else-n-abs_diff : goal.returns-else-n-abs_diff
returns-else-n-abs_diff c =
    let y : FitsSigned w32 c.args.insn.y = search rules in
    let z : FitsSigned w32 c.args.insn.z = search rules in
    let d = abs_diff-passed c.args.insn.y c.args.insn.z y z in
    case-past-range c.args.code.bytes.now c.args.at c.args.insn c.in-Ok.layout c.args.n (sym c.in-Ok.ensures) c.in-Range.is (omega arith)

pub returns-then-n-unsigned_abs : goal.returns-then-n-unsigned_abs
returns-then-n-unsigned_abs c =
    let y : FitsSigned w32 c.args.insn.y = search rules in
    let d = abs-passed c.args.insn.y y in
    ap Some c.pair_case.ensures
    ∙ case-pair c.args.code.bytes.now c.args.at c.args.insn c.in-Ok.layout c.in-Pairs.key _ c.args.n (sym c.in-Ok.ensures) c.in-Pairs.is (omega arith)
    (omega arith)

pub returns-else-n-unsigned_abs : goal.returns-else-n-unsigned_abs
returns-else-n-unsigned_abs c =
    let y : FitsSigned w32 c.args.insn.y = search rules in
    let d = abs-passed c.args.insn.y y in
    case-past-pairs c.args.code.bytes.now c.args.at c.args.insn c.in-Ok.layout c.in-Pairs.key c.args.n (sym c.in-Ok.ensures) c.in-Pairs.is (omega arith)
