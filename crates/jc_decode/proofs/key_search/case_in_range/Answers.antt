use Rattle.std.proofs.Common.{Some, ◌≤ℤ◌, ◌<ℤ◌, FitsSigned, w32, ap, ◌∙◌, rules, inl, inr}
use Rattle.jc_decode.specs.Cases.{range_case}
use Rattle.jc_decode.proofs.Tables.{abs_diff-passed}
use Rattle.jc_decode.proofs.KeySearches.{range-found, range-none}
use Rattle.jc_decode.proofs.key_search.case_in_range.Goals.{else-insn-key-via-then-insn-key+else-key-insn, else-insn-key-via-else-insn-key}
use Rattle.jc_decode.proofs.key_search.case_in_range.Goals as goal

pub returns-then-key-insn : goal.returns-then-key-insn
returns-then-key-insn c =
    let xs = c.args.code.bytes.now in
    let low : FitsSigned w32 c.args.insn.y = search rules in
    let high : FitsSigned w32 c.args.insn.z = search rules in
    let key : FitsSigned w32 c.args.key = search rules in
    let le : c.args.insn.y ≤ℤ c.args.key = search rules in
    let ge : c.args.key ≤ℤ c.args.insn.z = search rules in
    ap Some (c.range_case.ensures
    ∙ ap (range_case xs c.args.table c.args.insn.y) (c.abs_diff.ensures ∙ abs_diff-passed c.args.insn.y c.args.key low key))
    ∙ range-found xs c.args.table c.args.insn.y c.args.insn.z c.args.key low high key le ge

pub returns-else-insn-key : goal.returns-else-insn-key
returns-else-insn-key c =
    let xs = c.args.code.bytes.now in
    let low : FitsSigned w32 c.args.insn.y = search rules in
    let high : FitsSigned w32 c.args.insn.z = search rules in
    let key : FitsSigned w32 c.args.key = search rules in
    range-none xs c.args.table c.args.insn.y c.args.insn.z c.args.key low high key c.requires.order (elim c.else-insn-key.branch [
      | else-insn-key-via-then-insn-key+else-key-insn w ↦ let over : c.args.insn.z <ℤ c.args.key = search rules in inr over
      | else-insn-key-via-else-insn-key w ↦ let under : c.args.key <ℤ c.args.insn.y = search rules in inl under
    ])
