use Rattle.std.proofs.Common.{◌≡◌, ◌∙◌, ap}
use Rattle.std.specs.Int.{w16}
use Rattle.std.proofs.lemmas.Int.{to_z-of_z}
use Rattle.jc_decode.specs.Forms.{jump_to}
use Rattle.jc_decode.proofs.JumpForms.{jump-same, jump-allowed, jump-branch, jump-only, jump-long}
use Rattle.jc_decode.proofs.insn.Insn.jump.Goals as goal

made : (c : goal.After-jump_to) → c.jump_to.result ≡ jump_to c.args.op c.args.is_wide c.args.distance
made c = c.jump_to.ensures ∙ ap (jump_to c.args.op c.args.is_wide) (to_z-of_z w16 c.args.distance c.ranges.distance)

pub returns-clause-same : goal.returns-clause-same
returns-clause-same c = rw (made c) (jump-same c.args.op c.args.is_wide c.args.distance c.requires.op)

pub returns-clause-allowed : goal.returns-clause-allowed
returns-clause-allowed c =
    rw (made c) (jump-allowed c.args.op c.args.is_wide c.args.distance c.requires.op c.requires.near c.ranges.distance)

pub returns-clause-jumps : goal.returns-clause-jumps
returns-clause-jumps c = rw (made c) (jump-branch c.args.op c.args.is_wide c.requires.op)

pub returns-clause-only : goal.returns-clause-only
returns-clause-only c = rw (made c) (jump-only c.args.op c.args.is_wide c.requires.op)

pub returns-clause-long : goal.returns-clause-long
returns-clause-long c = rw (made c) (jump-long c.args.op c.args.is_wide c.args.distance c.requires.op)
