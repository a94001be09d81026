-- the code of the methods so far, and of all
use Rattle.std.proofs.Common.{arith}
use Rattle.law_transform.proofs.Bytes.{bytes-more, bytes-all}
use Rattle.law_transform.proofs.accepted_world.codes_are_bytes.Goals as goal

pub methods-preserved : goal.methods-preserved
methods-preserved c =
    bytes-more c.args.world.now c.methods.number c.code.result.now c.code.ensures.is c.are_bytes.ensures c.methods.invariant

pub returns : goal.returns
returns c = bytes-all c.args.world.now c.methods.number (omega (arith, c.method_count-number-end.ensures.is)) c.methods.invariant
