use Rattle.std.proofs.Common.{arith}
use Rattle.xf_allot.specs.declared.allotting.Allotment.{Allotment}
use Rattle.jc_control.specs.Subject.{method, world_of}
use Rattle.xf_allot.proofs.Variables.{allotted-none}
use Rattle.xf_allot.proofs.allotting.Allotment.of.Goals as goal

pub returns : goal.returns
returns c =
    let s : Allotment = record { given = c.new.result; numbers = c.arguments.numbers } in
    let within = c.arguments.invariant.within in
    let past = c.arguments-test.false in
    let count = c.arguments.invariant.count in
    allotted-none (world_of c.args.subject.now) (method c.args.subject.now) c.args.types.now s c.requires.arguments c.new.ensures.items
    (omega (arith, within, past, count)) c.arguments.invariant.same
