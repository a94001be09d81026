use Rattle.std.proofs.Common.{◌≡◌, ◌+◌, All, IsTrue, Ok, length, subst, ap, ◌∙◌, sym}
use Rattle.jc_decode.specs.Cases.{cases, is_switch, with_default}
use Rattle.jc_decode.specs.Decoding.{decoded}
use Rattle.jc_decode.specs.Symbols.{IsOnce}
use Rattle.xf_tests.specs.Fitting.{Stands, Suits}
use Rattle.xf_tests.proofs.fitting.suits_switch.Goals as goal

pub returns : goal.returns
unfolding Stands Suits
returns c = λ once.
    let switch : IsTrue (is_switch c.args.insn.op) = sym c.is_switch.ensures ∙ c.if-not-is_switch.false in
    let source : with_default c.args.insn.x (decoded c.args.source.bytes.now c.args.at) ≡ Ok c.args.insn = c.is_of_source.ensures
    c.if-not-is_of_source.false in
    let count : length c.args.labels.now ≡ length (cases c.args.source.bytes.now c.args.at c.args.insn) + 1 = ap length (sym c.as_slice.ensures)
    ∙ c.are_counted.ensures c.if-not-are_counted.false in
    let all : All (IsOnce c.args.items.now) c.args.labels.now = subst (λ ls. All (IsOnce c.args.items.now) ls) c.as_slice-2.ensures
    (c.are_once.ensures once) in
    (switch, source, count, all)
