use Rattle.std.proofs.Common.{arith}
use Rattle.jc_decode.proofs.Opcodes.{OPCODES-at}
use Rattle.jc_decode.proofs.layout.Opcode.of.Goals as goal

pub returns-in-0-to-184 : goal.returns-in-0-to-184
returns-in-0-to-184 c = OPCODES-at c.args.op _ (omega arith)
