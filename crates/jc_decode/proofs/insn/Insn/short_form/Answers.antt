use Rattle.jc_decode.proofs.Formed.{short-essence, short-allowed, short-jumps}
use Rattle.jc_decode.proofs.insn.Insn.short_form.Goals as goal

pub returns-clause-same : goal.returns-clause-same
returns-clause-same c allowed = rw c.in_one_byte.ensures (short-essence c.args.self allowed)

pub returns-clause-allowed : goal.returns-clause-allowed
returns-clause-allowed c allowed = rw c.in_one_byte.ensures (short-allowed c.args.self allowed)

pub returns-clause-jumps : goal.returns-clause-jumps
returns-clause-jumps c = rw c.in_one_byte.ensures (short-jumps c.args.self)
