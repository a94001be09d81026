use Rattle.std.proofs.Common.{arith, sym}
use Rattle.jc_control.proofs.walk.stepping.WalkIterator.next.Goals as goal

pub overflow_cast-self : goal.overflow_cast-self
overflow_cast-self c =
    let self = c.args.self.now in
    let reaches = (c.instructions_are_listed.ensures self.code.bytes.now).reaches self.at c.in-Ok.insn (sym c.in-Ok.ensures.value) in
    let short = self.short in
    omega (arith, reaches, short)

pub overflow_add-self : goal.overflow_add-self
overflow_add-self c =
    let self = c.args.self.now in
    let reaches = (c.instructions_are_listed.ensures self.code.bytes.now).reaches self.at c.in-Ok.insn (sym c.in-Ok.ensures.value) in
    let short = self.short in
    omega (arith, reaches, short)
