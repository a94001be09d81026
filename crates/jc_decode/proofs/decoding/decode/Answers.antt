use Rattle.std.proofs.Common.{ap, ◌∙◌}
use Rattle.jc_decode.specs.Decoding.{decoded}
use Rattle.jc_decode.proofs.Ranges.{begins-answer, fits-answer, allowed-answer, within-answer}
use Rattle.jc_decode.proofs.Rising.{rising-answer, order-answer}
use Rattle.jc_decode.proofs.Decoded.{decoded-Begins}
use Rattle.jc_decode.proofs.Refusals.{RefusesBytes-decoded, refused-answer}
use Rattle.jc_decode.proofs.decoding.decode.Goals as goal

pub returns-clause-operands : goal.returns-clause-operands
returns-clause-operands c =
    fits-answer c.args.code.bytes.now c.args.at c.insn_at.result c.are_bytes.ensures (c.insn_at.ensures ∙ ap (decoded c.args.code.bytes.now) c.from.ensures)

pub returns-clause-allowed : goal.returns-clause-allowed
returns-clause-allowed c =
    allowed-answer c.args.code.bytes.now c.args.at c.insn_at.result c.are_bytes.ensures
    (c.insn_at.ensures ∙ ap (decoded c.args.code.bytes.now) c.from.ensures)

pub returns-clause-within : goal.returns-clause-within
returns-clause-within c =
    within-answer c.args.code.bytes.now c.args.at c.insn_at.result (c.insn_at.ensures ∙ ap (decoded c.args.code.bytes.now) c.from.ensures)

pub returns-clause-begins : goal.returns-clause-begins
returns-clause-begins c =
    begins-answer c.args.code.bytes.now c.args.at c.insn_at.result (c.insn_at.ensures ∙ ap (decoded c.args.code.bytes.now) c.from.ensures)

pub returns-clause-order : goal.returns-clause-order
returns-clause-order c =
    order-answer c.args.code.bytes.now c.args.at c.insn_at.result (c.insn_at.ensures ∙ ap (decoded c.args.code.bytes.now) c.from.ensures)

pub returns-clause-rising : goal.returns-clause-rising
returns-clause-rising c =
    rising-answer c.args.code.bytes.now c.args.at c.insn_at.result (c.insn_at.ensures ∙ ap (decoded c.args.code.bytes.now) c.from.ensures)

pub returns-clause-given : goal.returns-clause-given
returns-clause-given c =
    λ i begins. (c.insn_at.ensures ∙ ap (decoded c.args.code.bytes.now) c.from.ensures) ∙ decoded-Begins c.args.code.bytes.now c.args.at i begins

pub returns-clause-refused : goal.returns-clause-refused
returns-clause-refused c =
    refused-answer c.args.code.bytes.now c.args.at c.insn_at.result c.are_bytes.ensures
    (c.insn_at.ensures ∙ ap (decoded c.args.code.bytes.now) c.from.ensures)

pub returns-clause-told : goal.returns-clause-told
returns-clause-told c =
    λ e refuses. (c.insn_at.ensures ∙ ap (decoded c.args.code.bytes.now) c.from.ensures) ∙ RefusesBytes-decoded c.args.code.bytes.now c.args.at e refuses
