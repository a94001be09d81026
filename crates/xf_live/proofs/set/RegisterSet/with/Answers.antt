use Rattle.std.proofs.Common.{arith}
use Rattle.xf_live.proofs.Sets.{with-is, with-first, with-second, with-third, with-fourth}
use Rattle.xf_live.proofs.set.RegisterSet.with.Goals as goal

pub returns-in-0 : goal.returns-in-0
returns-in-0 c = with-is c.args.self _ c.args.register (with-first c.args.self c.args.register c.in-0.is)

pub returns-in-1 : goal.returns-in-1
returns-in-1 c = with-is c.args.self _ c.args.register (with-second c.args.self c.args.register c.in-1.is)

pub returns-in-2 : goal.returns-in-2
returns-in-2 c = with-is c.args.self _ c.args.register (with-third c.args.self c.args.register c.in-2.is)

pub returns-in_default : goal.returns-in_default
returns-in_default c =
    with-is c.args.self _ c.args.register (with-fourth c.args.self c.args.register (omega (arith, c.ranges.register.fits, c.in_default)))
