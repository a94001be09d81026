use Rattle.std.proofs.Common.{◌≡◌, ◌∙◌, ◌+◌, rules}
use Rattle.jc_decode.specs.Forms.{length_of}
use Rattle.jc_decode.proofs.Sized.{length-decoded}
use Rattle.jc_decode.proofs.insn.Insn.length.Goals as goal

pub returns-in-Absent-clause-own : goal.returns-in-Absent-clause-own
returns-in-Absent-clause-own c code at h =
    let e : 1 + c.width.result ≡ length_of c.args.self = search rules in e ∙ length-decoded code at c.args.self h

pub returns-in-Err-clause-own : goal.returns-in-Err-clause-own
returns-in-Err-clause-own c code at h =
    let e : 1 ≡ length_of c.args.self = search rules in e ∙ length-decoded code at c.args.self h
