use Rattle.jc_decode.proofs.ReadBack.{ReadsBack-encoding}
use Rattle.jc_decode.proofs.OwnBytes.{encoding-own}
use Rattle.jc_decode.proofs.Sized.{length-encoding}
use Rattle.jc_decode.proofs.encoding.encode.Goals as goal

pub returns-then-is_err-clause-read_back : goal.returns-then-is_err-clause-read_back
returns-then-is_err-clause-read_back c =
    ReadsBack-encoding c.args.code.bytes.now c.args.at c.args.insn c.requires.operands c.requires.table

pub returns-else-is_err-clause-read_back : goal.returns-else-is_err-clause-read_back
returns-else-is_err-clause-read_back c =
    ReadsBack-encoding c.args.code.bytes.now c.args.at c.args.insn c.requires.operands c.requires.table

pub returns-then-is_err-clause-same_bytes : goal.returns-then-is_err-clause-same_bytes
returns-then-is_err-clause-same_bytes c h = encoding-own c.args.code.bytes.now c.args.at c.args.insn c.are_bytes.ensures h

pub returns-else-is_err-clause-same_bytes : goal.returns-else-is_err-clause-same_bytes
returns-else-is_err-clause-same_bytes c h = encoding-own c.args.code.bytes.now c.args.at c.args.insn c.are_bytes.ensures h

pub returns-then-is_err-clause-long : goal.returns-then-is_err-clause-long
returns-then-is_err-clause-long c = length-encoding c.args.code.bytes.now c.args.at c.args.insn c.requires.operands c.requires.table

pub returns-else-is_err-clause-long : goal.returns-else-is_err-clause-long
returns-else-is_err-clause-long c = length-encoding c.args.code.bytes.now c.args.at c.args.insn c.requires.operands c.requires.table
