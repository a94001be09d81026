use Rattle.std.proofs.Common.{◌-◌, arith}
use Rattle.xf_allot.specs.Allotting.{given_of}
use Rattle.jc_control.specs.Subject.{method, world_of}
use Rattle.xf_allot.proofs.Sharings.{before-all, shares}
use Rattle.xf_allot.proofs.Variables.{end-from}
use Rattle.xf_allot.proofs.sharing.shared.Goals as goal

pub end-requires : goal.end-requires
end-requires c =
    before-all (world_of c.args.subject.now) c.classes-classes.ensures.links (method c.args.subject.now) c.args.subject.now.there c.args.types.now
    c.requires.typed c.args.allotment c.requires.allotted

pub overflow_sub-locals : goal.overflow_sub-locals
overflow_sub-locals c =
    let end = c.end.ensures in
    let from = end-from c.args.subject.now.rec.now.nargs (given_of c.args.allotment) in
    omega (arith, end, from)

pub returns : goal.returns
returns c =
    let end = c.end.ensures in
    let arguments = c.args.subject.now.rec.now.nargs in
    let from = end-from arguments (given_of c.args.allotment) in
    shares (world_of c.args.subject.now) c.classes-classes.ensures.links (method c.args.subject.now) c.args.subject.now.there c.args.types.now
    c.requires.typed c.args.allotment (c.end.result - arguments) c.requires.allotted (omega (arith, end, from))
