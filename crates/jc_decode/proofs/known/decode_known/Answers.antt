use Rattle.std.specs.Prelude.{Some}
use Rattle.std.proofs.Common.{ap, ◌∙◌}
use Rattle.jc_decode.specs.Untested.{untested}
use Rattle.jc_decode.proofs.UntestedReads.{untested-decoded}
use Rattle.jc_decode.proofs.known.decode_known.Goals as goal

pub returns : goal.returns
returns c = λ i h.
    ap Some ((c.insn_known.ensures ∙ ap (untested c.args.code.bytes.now) c.from.ensures) ∙ untested-decoded c.args.code.bytes.now c.args.at i h)
