use Rattle.std.proofs.Common.{sym}
use Rattle.cap_bare.proofs.Operands.{format-fits}
use Rattle.cap_bare.proofs.format.instruction_of.Goals as goal

pub resolved-requires : goal.resolved-requires
resolved-requires c = format-fits c.args.insn.op c.in-Some.format c.args.insn (sym c.in-Some.ensures) c.requires
