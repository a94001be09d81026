-- the methods so far
use Rattle.std.proofs.Common.{arith}
use Rattle.xf_share.proofs.Counting.{all-summed, one-more}
use Rattle.law_shared_world.specs.SharedCode.{locals_of}
use Rattle.xf_share.proofs.fewer.locals_of_last.Goals as goal

pub methods-preserved : goal.methods-preserved
methods-preserved c =
    let most = c.methods.invariant.most in
    let few = c.locals_of-sum.ensures.few in
    record {
      sums = one-more (locals_of c.args.world.now) c.args.world.now.methods c.methods.number c.methods.sum c.locals_of-sum.result c.locals_of-sum.ensures.is
          c.methods.invariant.sums;
      most = omega (arith, most, few);
    }

pub returns : goal.returns
returns c =
    all-summed (locals_of c.args.world.now) c.args.world.now.methods c.methods.number c.methods.sum (omega (arith, c.method_count-number-end.ensures.is))
    c.methods.invariant.sums
